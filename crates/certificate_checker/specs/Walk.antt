-- The tree that nodes in preorder begin with: the bound that it shows, or its first fault. A branch has a child for each version of its
-- unit, in order.
use Rattle.std.specs.Prelude.{ℕ, suc, zero, ◌+◌, List, [], ◌∷◌, length, Option, None}
use Rattle.version_table.specs.declared.table.Table.{Table}
use Rattle.bound_certificate.specs.declared.cert.Node.{Node}
use Rattle.bound_certificate.specs.declared.cert.Node.TheVariants.{Branch}
use Rattle.certificate_checker.specs.declared.why.Why.{Why}
use Rattle.certificate_checker.specs.declared.why.Why.TheVariants as whys
use Rattle.certificate_checker.specs.Shown.{bound_of_leaf, fix, lesser, versions_of}
use Rattle.certificate_checker.specs.Faults.{IsFirstOfNode, IsRight}

-- a node without children
abbrev pub IsLeaf : Node → Type 0
IsLeaf (Branch unit) = ⊥
IsLeaf node = Unit {0}

-- what comes of trees that nodes begin with: they show a least bound, and these nodes are behind them; or a fault stands in the node from
-- which on so many nodes are left
pub data Walked : Type 0 where
  Shows : Option ℕ → (behind : List Node) → Walked
  Stops : Why → (left : ℕ) → Walked

-- the same with one more bound
abbrev pub beside : Option ℕ → Walked → Walked
beside bound (Shows other behind) = Shows (lesser bound other) behind
beside bound (Stops why left) = Stops why left

mutual
  -- what comes of the tree that these nodes begin with, where versions are fixed
  pub data Walks (table : Table) : (fixed : List (Option ℕ)) → List Node → Walked → Type 0 where
    missing : (fixed : List (Option ℕ)) → Walks table fixed [] (Stops whys.NoNode 0)
    wrong : (fixed : List (Option ℕ)) (node : Node) (behind : List Node) (why : Why) → IsFirstOfNode table fixed node why
        → Walks table fixed (node ∷ behind) (Stops why (suc (length behind)))
    leaf : (fixed : List (Option ℕ)) (node : Node) (behind : List Node) → IsLeaf node → IsRight table fixed node
        → Walks table fixed (node ∷ behind) (Shows (bound_of_leaf table fixed node) behind)
    branch : (fixed : List (Option ℕ)) (unit : ℕ) (behind : List Node) (walked : Walked) → IsRight table fixed (Branch unit)
        → WalksEach table fixed unit 0 (versions_of table unit) behind walked → Walks table fixed (Branch unit ∷ behind) walked

  -- what comes of the children of a branch from version k on, of which there are so many
  pub data WalksEach (table : Table) : (fixed : List (Option ℕ)) → (unit k children : ℕ) → List Node → Walked → Type 0 where
    none : (fixed : List (Option ℕ)) (unit k : ℕ) (nodes : List Node) → WalksEach table fixed unit k zero nodes (Shows None nodes)
    stop : (fixed : List (Option ℕ)) (unit k more : ℕ) (nodes : List Node) (why : Why) (left : ℕ) → Walks table (fix unit k fixed) nodes (Stops why left)
        → WalksEach table fixed unit k (suc more) nodes (Stops why left)
    next : (fixed : List (Option ℕ)) (unit k more : ℕ) (nodes behind : List Node) (bound : Option ℕ) (walked : Walked)
        → Walks table (fix unit k fixed) nodes (Shows bound behind) → WalksEach table fixed unit (k + 1) more behind walked
        → WalksEach table fixed unit k (suc more) nodes (beside bound walked)
