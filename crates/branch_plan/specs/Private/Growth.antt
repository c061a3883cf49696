-- A tree of a search while it grows: its nodes by number, the leaves that may be branched, and what is known of them.
use Rattle.std.specs.Prelude.{◌≡◌, ℕ, ◌<◌, ◌≤◌, List, length, slice_index_or, Option}
use Rattle.std.specs.Ordering.{nat_cmp, ordering_then}
use Rattle.std.specs.BinaryHeap.{IsHeap}
use Rattle.std.specs.declared.cmp.Reverse.{Reverse}
use Rattle.version_table.specs.declared.table.Table.{Table}
use Rattle.version_table.specs.Table.{units_of}
use Rattle.bound_certificate.specs.declared.cert.Node.{Node}
use Rattle.bound_certificate.specs.declared.cert.Node.TheVariants.{Open}
use Rattle.certificate_checker.specs.Shown.{fix, unfixed}
use Rattle.branch_plan.specs.declared.arena.Link.{Link}
use Rattle.branch_plan.specs.Private.Forest.{Follows, times_among}

-- the node of a number
abbrev pub node_of : List Node → ℕ → Node
node_of nodes j = slice_index_or nodes j Open

-- where the node of a number hangs
abbrev pub link_of : List Link → ℕ → Link
link_of links j = slice_index_or links j (record { parent = 0; unit = 0; version = 0; next = 0 })

-- the number of the node behind another
abbrev pub next_of : List Link → ℕ → ℕ
next_of links j = (link_of links j).next

-- each node but the root hangs below one before it, by a unit of the table
pub record AreLinked (table : Table) (links : List Link) : Type 0 where
  pub some : 0 < length links
  pub back : (j : ℕ) → 0 < j → j < length links → (link_of links j).parent < j
  pub unit : (j : ℕ) → 0 < j → j < length links → (link_of links j).unit < length (units_of table)

-- the versions that are fixed on each path: none at the root, and at a child one more
pub record ArePaths (table : Table) (links : List Link) (path : ℕ → List (Option ℕ)) : Type 0 where
  pub root : path 0 ≡ unfixed table
  pub child : (j : ℕ) → 0 < j → j < length links → path j ≡ fix (link_of links j).unit (link_of links j).version (path (link_of links j).parent)

-- the numbers of all nodes, each behind the one before it
abbrev pub IsOrder : List Node → List Link → (ids : List ℕ) → Type 0
IsOrder nodes links ids = Follows (next_of links) (length nodes) 0 ids × (length ids ≡ length nodes)

-- each of the first so many numbers is once among these at most
abbrev pub StandOnce : (count : ℕ) → (ids : List ℕ) → Type 0
StandOnce count ids = (j : ℕ) → j < count → times_among j ids ≤ 1

-- leaves are in a heap by bound and number
abbrev pub IsOrdered : List (Reverse (ℕ × ℕ)) → Type 0
IsOrdered leaves = IsHeap (λ a b. ordering_then (nat_cmp b.0.0 a.0.0) (nat_cmp b.0.1 a.0.1)) leaves
