-- The tree of a plan: where it branches, which leaves it has, and when a search of so many nodes may end before it is done.
use Rattle.std.specs.Prelude.{◌≡◌, ℕ, suc, ◌+◌, ◌*◌, ◌<◌, ◌≤◌, ◌⊎◌, nat_le, List, [], ◌∷◌, length, map, Option, Some, IsPermutation, IsSortedBy}
use Rattle.std.specs.List.{filter}
use Rattle.version_table.specs.declared.table.Table.{Table}
use Rattle.version_table.specs.Table.{units_of}
use Rattle.bound_certificate.specs.declared.limits.TheConstants.{CERT_BYTES_MOST}
use Rattle.bound_certificate.specs.declared.cert.Cert.{Cert}
use Rattle.bound_certificate.specs.declared.cert.Node.{Node}
use Rattle.bound_certificate.specs.declared.cert.Node.TheVariants.{Branch}
use Rattle.bound_certificate.specs.Spelling.{cert_spelling}
use Rattle.certificate_checker.specs.Shown.{bound_of_leaf, fix, unfixed, versions_of}
use Rattle.certificate_checker.specs.Faults.{IsFree}
use Rattle.certificate_checker.specs.Walk.{IsLeaf, Shows, Walks}
use Rattle.branch_plan.specs.declared.limits.TheConstants.{BRANCH_BYTES, NODE_BYTES_MOST}

-- a branch is on a unit with two or more versions
abbrev pub BranchesOnMany : Table → Node → Type 0
BranchesOnMany table (Branch unit) = 2 ≤ versions_of table unit
BranchesOnMany table node = Unit {0}

mutual
  -- the tree that these nodes begin with, where versions are fixed, has a leaf on whose path these are fixed
  pub data HasLeaf (table : Table) (leaf : Node) (path : List (Option ℕ)) : (fixed : List (Option ℕ)) → List Node → Type 0 where
    here : (behind : List Node) → IsLeaf leaf → HasLeaf table leaf path path (leaf ∷ behind)
    below : (fixed : List (Option ℕ)) (unit : ℕ) (nodes : List Node) → HasLeafBelow table leaf path fixed unit 0 (versions_of table unit) nodes
        → HasLeaf table leaf path fixed (Branch unit ∷ nodes)

  -- the same of one of the children of a branch from version k on, of which there are so many
  pub data HasLeafBelow (table : Table) (leaf : Node) (path : List (Option ℕ)) : (fixed : List (Option ℕ)) → (unit k children : ℕ) → List Node → Type 0 where
    in_first : (fixed : List (Option ℕ)) (unit k more : ℕ) (nodes : List Node) → HasLeaf table leaf path (fix unit k fixed) nodes
        → HasLeafBelow table leaf path fixed unit k (suc more) nodes
    in_later : (fixed : List (Option ℕ)) (unit k more : ℕ) (nodes behind : List Node) (bound : Option ℕ) → Walks table (fix unit k fixed) nodes (Shows bound behind)
        → HasLeafBelow table leaf path fixed unit (k + 1) more behind → HasLeafBelow table leaf path fixed unit k (suc more) nodes

-- the numbers of versions of the units that have two or more
abbrev pub version_counts : Table → List ℕ
version_counts table = filter (nat_le 2) (map (λ unit. length unit.versions.items) (units_of table))

-- the nodes of a tree that branches on units of so many versions, one after the other on every path: 1, V1, V1 times V2 and so on together
abbrev pub nodes_of_whole_tree : List ℕ → ℕ
nodes_of_whole_tree [] = 1
nodes_of_whole_tree (versions ∷ counts) = 1 + versions * nodes_of_whole_tree counts

-- so many nodes have room for the whole tree that branches on the units of most versions first
abbrev pub AreEnough : Table → (nodes_most : ℕ) → Type 0
AreEnough table nodes_most =
    (counts : List ℕ) × IsPermutation (version_counts table) counts × IsSortedBy (λ a b. nat_le (suc b) a) counts × (nodes_of_whole_tree counts ≤ nodes_most)

-- a branch of so many children would take the tree past its nodes. Or it could take the certificate past its bytes, were each child a
-- node of as many windows as there can be, so that it has all bytes but few; and there aren't nodes enough for the whole tree.
abbrev pub IsPast : Table → (nodes_most versions : ℕ) → Cert → Type 0
IsPast table nodes_most versions cert =
    (nodes_most < length cert.nodes + versions)
    ⊎ ((AreEnough table nodes_most → ⊥) × (CERT_BYTES_MOST < length (cert_spelling cert) + BRANCH_BYTES + versions * NODE_BYTES_MOST))

-- a leaf of the certificate has the root's bound, and to branch there on a unit that isn't fixed yet, with two or more versions, would
-- take it past its nodes or its bytes
pub record IsSpent (table : Table) (nodes_most : ℕ) (cert : Cert) : Type 0 where
  pub leaf : Node
  pub path : List (Option ℕ)
  pub has_leaf : HasLeaf table leaf path (unfixed table) cert.nodes
  pub least : bound_of_leaf table path leaf ≡ Some cert.bound
  pub unit : ℕ
  pub free : IsFree path unit
  pub many : 2 ≤ versions_of table unit
  pub past : IsPast table nodes_most (versions_of table unit) cert
