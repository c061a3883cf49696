-- A tree while it is branched, and when it ends.
use Rattle.std.specs.Prelude.{◌≡◌, ◌≢◌, ℕ, ◌==◌, cond, sum_by, ◌+◌, ◌*◌, ◌<◌, ◌≤◌, ◌⊎◌, List, [], ◌∷◌, ◌++◌, length, map, Option, Some, IsPermutation}
use Rattle.std.specs.BinaryHeap.{heap_items}
use Rattle.std.specs.List.{AllByRecursion, Contains, flat_map}
use Rattle.std.specs.declared.cmp.Reverse.{Reverse}
use Rattle.version_table.specs.declared.table.Table.{Table}
use Rattle.version_table.specs.Table.{units_of}
use Rattle.dual_bounds.specs.declared.constants.TheConstants.{WINDOWS_MOST}
use Rattle.dual_bounds.specs.Bounds.{bound_of_value}
use Rattle.dual_bounds.specs.Fixed.{FixesVersions}
use Rattle.dual_bounds.specs.Values.{value_of_windows}
use Rattle.buffer_windows.specs.declared.windows.BufferWindow.{BufferWindow as SeeingWindow}
use Rattle.buffer_windows.specs.Bounds.{bound_of_buffer_windows}
use Rattle.bound_certificate.specs.declared.cert.Cert.{Cert}
use Rattle.bound_certificate.specs.declared.limits.TheConstants.{CERT_BYTES_MOST}
use Rattle.bound_certificate.specs.declared.cert.Node.{Node}
use Rattle.bound_certificate.specs.Spelling.{bytes_of_node}
use Rattle.certificate_checker.specs.Checked.{IsAtMost}
use Rattle.certificate_checker.specs.Faults.{IsRight}
use Rattle.certificate_checker.specs.Shown.{bound_of_leaf, fix, unfixed, versions_of}
use Rattle.certificate_checker.specs.Walk.{IsLeaf, Shows, Walks}
use Rattle.branch_plan.specs.declared.limits.TheConstants.{BRANCH_BYTES, HEAD_BYTES, NODE_BYTES_MOST}
use Rattle.branch_plan.specs.declared.arena.Link.{Link}
use Rattle.branch_plan.specs.declared.branching.Growth.{Growth}
use Rattle.branch_plan.specs.declared.branching.Ended.{Ended as EndedTree}
use Rattle.branch_plan.specs.declared.branching.Step.{Step}
use Rattle.branch_plan.specs.declared.children.Children.{Children}
use Rattle.branch_plan.specs.declared.children.Place.{Place}
use Rattle.branch_plan.specs.declared.leaves.Leaf.{Leaf}
use Rattle.branch_plan.specs.declared.branching.Step.TheVariants.{Grown, Ended}
use Rattle.branch_plan.specs.Plan.{BoundsAll}
use Rattle.branch_plan.specs.Tree.{IsSpent}
use Rattle.branch_plan.specs.Private.Forest.{Follows, Forest, Stands, ids_then, occurs, size, width}
use Rattle.branch_plan.specs.Private.Growth.{ArePaths, AreLinked, IsOrder, IsOrdered, StandOnce, link_of, next_of, node_of}
use Rattle.branch_plan.specs.Private.Known.{IsKnown}
use Rattle.branch_plan.specs.Private.Leaves.{IsFreeUnit, IsLeafOn, MayBranch, MayStand}
use Rattle.branch_plan.specs.Private.Found.{AreSearchedIn, EachBranchFits, IsFounded, IsNoLower}
use Rattle.branch_plan.specs.Private.Valued.{AreValued, IsValuedBy}

-- the bytes of nodes in a certificate
abbrev pub tree_bytes : List Node → ℕ
tree_bytes nodes = length (flat_map bytes_of_node nodes)

-- the nodes are one tree, in which each stands once, and the links tell their order and paths
pub record IsTree (table : Table) (nodes : List Node) (links : List Link) (path : ℕ → List (Option ℕ)) (tree : Forest) : Type 0 where
  pub one : width tree ≡ 1
  pub stands : Stands table (length nodes) (node_of nodes) path (λ j. unfixed table) 0 tree
  pub once : (j : ℕ) → j < length nodes → occurs j tree ≡ 1
  pub count : size tree ≡ length nodes
  pub follows : Follows (next_of links) (length nodes) 0 (ids_then tree [])
  pub as_many : length links ≡ length nodes
  pub linked : AreLinked table links
  pub paths : ArePaths table links path
  pub fixes : (j : ℕ) → j < length nodes → FixesVersions table (path j)

-- a leaf that may be branched, of this bound and number
pub record IsOpenAt (table : Table) (nodes : List Node) (path : ℕ → List (Option ℕ)) (root bound j : ℕ) : Type 0 where
  pub within : j < length nodes
  pub leaf : IsLeaf (node_of nodes j)
  pub may : MayBranch table (path j) (node_of nodes j) bound
  pub at_least : root ≤ bound
  pub searched : AreSearchedIn table (node_of nodes j)

-- a leaf has a bound no less than a distortion, or it is among these
abbrev pub IsSettledIn : Table → (nodes : List Node) → (path : ℕ → List (Option ℕ)) → (leaves : List (Reverse (ℕ × ℕ))) → (distortion j : ℕ) → Type 0
IsSettledIn table nodes path leaves distortion j =
    IsAtMost distortion (bound_of_leaf table (path j) (node_of nodes j))
    ⊎ ((leaf : Reverse (ℕ × ℕ)) × Contains leaves leaf × (leaf.0.1 ≡ j) × (bound_of_leaf table (path j) (node_of nodes j) ≡ Some leaf.0.0))

-- how often the number of a node is among leaves
unfoldable pub times_in : ℕ → List (Reverse (ℕ × ℕ)) → ℕ
times_in j leaves = sum_by (λ leaf. cond (leaf.0.1 == j) 1 0) leaves

-- a tree with the leaves that may be branched: all others have bounds no less than a distortion
pub record IsGrown (table : Table) (most root : ℕ) (nodes : List Node) (links : List Link) (leaves : List (Reverse (ℕ × ℕ))) (distortion : ℕ) : Type 0 where
  pub path : ℕ → List (Option ℕ)
  pub tree : Forest
  pub is : IsTree table nodes links path tree
  pub each : (j : ℕ) → j < length nodes → MayStand table most (node_of nodes j)
  pub settled : (j : ℕ) → j < length nodes → IsLeaf (node_of nodes j) → IsSettledIn table nodes path leaves distortion j
  pub are_open : (leaf : Reverse (ℕ × ℕ)) → Contains leaves leaf → IsOpenAt table nodes path root leaf.0.0 leaf.0.1
  pub single : (j : ℕ) → times_in j leaves ≤ 1

-- the nodes of a tree have so many bytes, and a certificate has room for them
pub record HasBytes (table : Table) (nodes : List Node) (bytes : ℕ) : Type 0 where
  pub are : bytes ≡ tree_bytes nodes
  pub within : HEAD_BYTES + length (units_of table) + bytes ≤ CERT_BYTES_MOST

-- a tree, its leaves in a heap, and a choice that is known
pub record IsGrowth (table : Table) (most : ℕ) (growth : Growth) : Type 0 where
  pub grown : IsGrown table most growth.root growth.arena.nodes.items growth.arena.links.items (heap_items growth.leaves) growth.known.distortion
  pub valued : AreValued table growth.found.buffers growth.arena.nodes.items grown.path growth.arena.values.items
  pub ordered : IsOrdered (heap_items growth.leaves)
  pub known : IsKnown table growth.known
  pub root : BoundsAll table growth.root
  pub founded : IsFounded table most growth.found growth.time growth.root growth.arena.nodes.items
  pub nodes : length growth.arena.nodes.items ≤ most
  pub bytes : HasBytes table growth.arena.nodes.items growth.bytes

-- the same, where a leaf of least bound, below the distortion, has been taken out of the heap
pub record IsTaken (table : Table) (most : ℕ) (growth : Growth) (bound number : ℕ) : Type 0 where
  pub all : List (Reverse (ℕ × ℕ))
  pub top : Reverse (ℕ × ℕ)
  pub bound_is : top.0.0 ≡ bound
  pub number_is : top.0.1 ≡ number
  pub grown : IsGrown table most growth.root growth.arena.nodes.items growth.arena.links.items all growth.known.distortion
  pub valued : AreValued table growth.found.buffers growth.arena.nodes.items grown.path growth.arena.values.items
  pub taken : IsPermutation all (top ∷ heap_items growth.leaves)
  pub least : AllByRecursion (λ other. bound ≤ other.0.0) (heap_items growth.leaves)
  pub below : bound < growth.known.distortion
  pub ordered : IsOrdered (heap_items growth.leaves)
  pub known : IsKnown table growth.known
  pub root : BoundsAll table growth.root
  pub founded : IsFounded table most growth.found growth.time growth.root growth.arena.nodes.items
  pub nodes : length growth.arena.nodes.items ≤ most
  pub bytes : HasBytes table growth.arena.nodes.items growth.bytes

-- a search of so many nodes may end at these, whose bound is this
abbrev pub IsSpentAt : Table → (most : ℕ) → List Node → (bound : ℕ) → Type 0
IsSpentAt table most nodes bound =
    (cert : Cert) → cert.nodes ≡ nodes → cert.bound ≡ bound → length cert.choice ≡ length (units_of table) → IsSpent table most cert

-- a tree that isn't branched any more: its bound is the distortion, or the nodes are spent
pub record Ends (table : Table) (most : ℕ) (ended : EndedTree) : Type 0 where
  pub ids : List ℕ
  pub there : (j : ℕ) → j < length ended.arena.nodes.items → Contains ids j
  pub order : IsOrder ended.arena.nodes.items ended.arena.links.items ids
  pub once : StandOnce (length ended.arena.nodes.items) ids
  pub as_many : length ended.arena.links.items ≡ length ended.arena.nodes.items
  pub nodes : length ended.arena.nodes.items ≤ most
  pub bytes : HEAD_BYTES + length (units_of table) + tree_bytes (map (node_of ended.arena.nodes.items) ids) ≤ CERT_BYTES_MOST
  pub each : (j : ℕ) → j < length ended.arena.nodes.items → MayStand table most (node_of ended.arena.nodes.items j)
  pub known : IsKnown table ended.known
  pub shows : Walks table (unfixed table) (map (node_of ended.arena.nodes.items) ids) (Shows (Some ended.bound) [])
  pub time : bound_of_value (value_of_windows table (unfixed table) ended.found.time.items) ≤ ended.bound
  pub buffers : EachBranchFits table ended.arena.nodes.items → (bound : ℕ) → bound_of_buffer_windows table (unfixed table) ended.found.buffers ≡ Some bound → bound ≤ ended.bound
  pub at_most : ended.bound ≤ ended.known.distortion
  pub spent : ended.bound < ended.known.distortion → IsSpentAt table most (map (node_of ended.arena.nodes.items) ids) ended.bound

-- what a step comes to: more nodes, or the end
abbrev pub EndsOrGrows : Table → (most : ℕ) → (before : Growth) → Step → Type 0
EndsOrGrows table most before (Grown growth) =
    IsGrowth table most growth × (length before.arena.nodes.items < length growth.arena.nodes.items) × (growth.known.distortion ≤ before.known.distortion) × (growth.found ≡ before.found)
EndsOrGrows table most before (Ended ended) = Ends table most ended × (ended.known.distortion ≤ before.known.distortion) × (ended.found ≡ before.found)

-- a heap with one more leaf, where there is one
pub record IsWith (bound : Option ℕ) (number : ℕ) (leaves more : List (Reverse (ℕ × ℕ))) : Type 0 where
  pub kept : (leaf : Reverse (ℕ × ℕ)) → Contains leaves leaf → Contains more leaf
  pub new : (b : ℕ) → bound ≡ Some b → (leaf : Reverse (ℕ × ℕ)) × Contains more leaf × (leaf.0.0 ≡ b) × (leaf.0.1 ≡ number)
  pub only : (leaf : Reverse (ℕ × ℕ)) → Contains more leaf → Contains leaves leaf ⊎ ((bound ≡ Some leaf.0.0) × (leaf.0.1 ≡ number))
  pub times : (j : ℕ) → times_in j more ≤ cond (number == j) 1 0 + times_in j leaves

-- the first children of a branch: each is right where its version is fixed too, and has a bound no less than a distortion or is among the
-- leaves, which besides it has those of before
pub record AreChildren (table : Table) (most floor : ℕ) (fixed : List (Option ℕ)) (unit first k : ℕ) (made : List Node) (before leaves : List (Reverse (ℕ × ℕ))) (distortion : ℕ) : Type 0 where
  pub count : length made ≡ k
  pub is : (j : ℕ) → j < k → IsLeaf (node_of made j)
  pub right : (j : ℕ) → j < k → IsRight table (fix unit j fixed) (node_of made j)
  pub each : (j : ℕ) → j < k → MayStand table most (node_of made j)
  pub settled : (j : ℕ) → j < k → IsAtMost distortion (bound_of_leaf table (fix unit j fixed) (node_of made j))
      ⊎ ((leaf : Reverse (ℕ × ℕ)) × Contains leaves leaf × (leaf.0.1 ≡ first + j) × (bound_of_leaf table (fix unit j fixed) (node_of made j) ≡ Some leaf.0.0))
  pub kept : (leaf : Reverse (ℕ × ℕ)) → Contains before leaf → Contains leaves leaf
  pub only : (leaf : Reverse (ℕ × ℕ)) → Contains leaves leaf → Contains before leaf
      ⊎ ((j : ℕ) × (j < k) × (leaf.0.1 ≡ first + j) × MayBranch table (fix unit j fixed) (node_of made j) leaf.0.0 × (floor ≤ leaf.0.0) × AreSearchedIn table (node_of made j))
  pub outside : (j : ℕ) → (j < first) ⊎ (first + k ≤ j) → times_in j leaves ≤ times_in j before
  pub inside : (j : ℕ) → times_in j leaves ≤ 1 + times_in j before

-- so many links behind the others, of the children of a node, which stand behind it in preorder
pub record AreLinkedBehind (i unit count : ℕ) (links more : List Link) : Type 0 where
  pub long : length more ≡ length links + count
  pub parent : (j : ℕ) → j < length links → (link_of more j).parent ≡ (link_of links j).parent
  pub unit_kept : (j : ℕ) → j < length links → (link_of more j).unit ≡ (link_of links j).unit
  pub version_kept : (j : ℕ) → j < length links → (link_of more j).version ≡ (link_of links j).version
  pub next_kept : (j : ℕ) → j < length links → j ≢ i → next_of more j ≡ next_of links j
  pub next_at : next_of more i ≡ length links
  pub new_parent : (j k : ℕ) → j ≡ length links + k → k < count → (link_of more j).parent ≡ i
  pub new_unit : (j k : ℕ) → j ≡ length links + k → k < count → (link_of more j).unit ≡ unit
  pub new_version : (j k : ℕ) → j ≡ length links + k → k < count → (link_of more j).version ≡ k
  pub rise : (j : ℕ) → length links ≤ j → j + 1 < length links + count → next_of more j ≡ j + 1
  pub last : (j : ℕ) → j + 1 ≡ length links + count → next_of more j ≡ next_of links i

-- no leaf of a search in which these windows that see the buffers were found has more bytes than this
pub record IsLeafMost (seeing : List SeeingWindow) (bytes : ℕ) : Type 0 where
  pub seen : 3 + 25 * length seeing ≤ bytes
  pub time : 3 + 24 * WINDOWS_MOST ≤ bytes
  pub limit : bytes ≤ NODE_BYTES_MOST

-- a certificate has so many bytes with the tree and a branch more of so many children, whatever leaves these are
abbrev pub bytes_behind : Table → Growth → (versions leaf_most : ℕ) → ℕ
bytes_behind table growth versions leaf_most = HEAD_BYTES + length (units_of table) + growth.bytes + BRANCH_BYTES + versions * leaf_most

-- a certificate has room for it, or it may not have
abbrev pub HasRoom : Table → Growth → (versions : ℕ) → Type 0
HasRoom table growth versions =
    (leaf_most : ℕ) × IsLeafMost growth.found.buffers leaf_most × (bytes_behind table growth versions leaf_most ≤ CERT_BYTES_MOST)

abbrev pub IsFull : Table → Growth → (versions : ℕ) → Type 0
IsFull table growth versions =
    (leaf_most : ℕ) × IsLeafMost growth.found.buffers leaf_most × (CERT_BYTES_MOST < bytes_behind table growth versions leaf_most)

-- where a tree is branched: a leaf that was taken, with what is fixed there, and a free unit, for whose versions there is room
pub record IsPlace (table : Table) (most : ℕ) (growth : Growth) (place : Place) : Type 0 where
  pub bound : ℕ
  pub taken : IsTaken table most growth bound place.number
  pub fixed : place.fixed ≡ taken.grown.path place.number
  pub free : IsFreeUnit table place.fixed place.unit
  pub room : length growth.arena.nodes.items + versions_of table place.unit ≤ most
  pub bytes : HasRoom table growth (versions_of table place.unit)

-- a tree with one more branch
pub record IsBranched (table : Table) (most : ℕ) (old growth : Growth) : Type 0 where
  pub is : IsGrowth table most growth
  pub more : length old.arena.nodes.items < length growth.arena.nodes.items
  pub kept : growth.known.distortion ≤ old.known.distortion
  pub found : growth.found ≡ old.found

-- children with one more, a leaf where these versions are fixed
pub record IsWithChild (table : Table) (seeing : List SeeingWindow) (most floor : ℕ) (fixed : List (Option ℕ)) (number : ℕ) (children more : Children) : Type 0 where
  pub leaf : Leaf
  pub is : IsLeafOn table most fixed children.known.distortion leaf
  pub no_lower : IsNoLower floor leaf.bound
  pub nodes : more.nodes.items ≡ children.nodes.items ++ leaf.node ∷ []
  pub values : more.values.items ≡ children.values.items ++ leaf.values ∷ []
  pub valued : IsValuedBy table seeing fixed leaf.node leaf.values
  pub leaves : IsWith leaf.bound number (heap_items children.leaves) (heap_items more.leaves)
  pub known : more.known ≡ leaf.known
