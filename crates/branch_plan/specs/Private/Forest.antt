-- The tree of a search: its shape, over nodes that are told by their numbers.
use Rattle.std.specs.Prelude.{◌≡◌, ℕ, zero, suc, ◌+◌, ◌<◌, ◌≤◌, ◌==◌, cond, List, [], ◌∷◌, Option, None}
use Rattle.version_table.specs.declared.table.Table.{Table}
use Rattle.bound_certificate.specs.declared.cert.Node.{Node}
use Rattle.bound_certificate.specs.declared.cert.Node.TheVariants.{Branch}
use Rattle.certificate_checker.specs.Shown.{bound_of_leaf, fix, lesser, versions_of}
use Rattle.certificate_checker.specs.Faults.{IsRight}
use Rattle.certificate_checker.specs.Walk.{IsLeaf}

-- trees side by side: none; a leaf of this number and more; a branch of this number on a unit, the trees of its children, and more
pub data Forest : Type 0 where
  no_tree : Forest
  leaf_at : (id : ℕ) → (more : Forest) → Forest
  branch_at : (id unit : ℕ) → (below more : Forest) → Forest

-- how many trees stand side by side
abbrev pub width : Forest → ℕ
width no_tree = 0
width (leaf_at id more) = suc (width more)
width (branch_at id unit below more) = suc (width more)

-- the numbers of the nodes in preorder, and others behind them
abbrev pub ids_then : Forest → List ℕ → List ℕ
ids_then no_tree behind = behind
ids_then (leaf_at id more) behind = id ∷ ids_then more behind
ids_then (branch_at id unit below more) behind = id ∷ ids_then below (ids_then more behind)

-- leaves with numbers one after the other
abbrev pub leaves : (first count : ℕ) → Forest
leaves first zero = no_tree
leaves first (suc count) = leaf_at first (leaves (first + 1) count)

-- the leaf of a number made a branch on a unit, with these trees below it
abbrev pub split : (i unit : ℕ) → (made : Forest) → Forest → Forest
split i unit made no_tree = no_tree
split i unit made (leaf_at id more) = cond (id == i) (branch_at id unit made (split i unit made more)) (leaf_at id (split i unit made more))
split i unit made (branch_at id other below more) = branch_at id other (split i unit made below) (split i unit made more)

-- how many nodes trees have
abbrev pub size : Forest → ℕ
size no_tree = 0
size (leaf_at id more) = suc (size more)
size (branch_at id unit below more) = suc (size below + size more)

-- how often trees have the node of a number
abbrev pub occurs : ℕ → Forest → ℕ
occurs j no_tree = 0
occurs j (leaf_at id more) = cond (id == j) 1 0 + occurs j more
occurs j (branch_at id unit below more) = cond (id == j) 1 0 + (occurs j below + occurs j more)

-- how often a number is among others
abbrev pub times_among : ℕ → List ℕ → ℕ
times_among j [] = 0
times_among j (x ∷ xs) = cond (x == j) 1 0 + times_among j xs

-- how often trees have the leaf of a number
abbrev pub leaf_occurs : ℕ → Forest → ℕ
leaf_occurs j no_tree = 0
leaf_occurs j (leaf_at id more) = cond (id == j) 1 0 + leaf_occurs j more
leaf_occurs j (branch_at id unit below more) = leaf_occurs j below + leaf_occurs j more

-- from a node on, the nodes behind each other are these, of the first so many
abbrev pub Follows : (next : ℕ → ℕ) → (n at : ℕ) → List ℕ → Type 0
Follows next n at [] = Unit {0}
Follows next n at (x ∷ xs) = (at ≡ x) × (x < n) × Follows next n (next x) xs

-- nothing is wrong with the nodes of trees, whose numbers are below one and of which the first is version k: the versions that are fixed
-- at a leaf are those of its path, and a branch has a child for each version of its unit, of which there are two or more
abbrev pub Stands : Table → (n : ℕ) → (node : ℕ → Node) → (path : ℕ → List (Option ℕ)) → (own : ℕ → List (Option ℕ)) → (k : ℕ) → Forest → Type 0
Stands table n node path own k no_tree = Unit {0}
Stands table n node path own k (leaf_at id more) =
    (id < n) × (path id ≡ own k) × IsLeaf (node id) × IsRight table (own k) (node id) × Stands table n node path own (k + 1) more
Stands table n node path own k (branch_at id unit below more) =
    (id < n) × (node id ≡ Branch unit) × IsRight table (own k) (Branch unit) × (2 ≤ versions_of table unit) × (width below ≡ versions_of table unit)
    × Stands table n node path (λ j. fix unit j (own k)) 0 below × Stands table n node path own (k + 1) more

-- the least bound of the leaves of trees
abbrev pub least_shown : Table → (node : ℕ → Node) → (own : ℕ → List (Option ℕ)) → (k : ℕ) → Forest → Option ℕ
least_shown table node own k no_tree = None
least_shown table node own k (leaf_at id more) = lesser (bound_of_leaf table (own k) (node id)) (least_shown table node own (k + 1) more)
least_shown table node own k (branch_at id unit below more) =
    lesser (least_shown table node (λ j. fix unit j (own k)) 0 below) (least_shown table node own (k + 1) more)
