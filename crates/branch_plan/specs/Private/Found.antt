-- The windows that a search found for its root, and what the leaves of its tree make of them.
use Rattle.std.specs.Prelude.{◌≡◌, ℕ, ◌*◌, ◌<◌, ◌≤◌, ◌⊎◌, true, List, [], length, Option, Some, None}
use Rattle.version_table.specs.declared.table.Table.{Table}
use Rattle.dual_bounds.specs.declared.windows.Window.{Window as PricedWindow}
use Rattle.dual_bounds.specs.Bounds.{bound_of_value}
use Rattle.dual_bounds.specs.Values.{value_of_windows}
use Rattle.buffer_windows.specs.declared.windows.BufferWindow.{BufferWindow as SeeingWindow}
use Rattle.buffer_windows.specs.Bounds.{bound_of_buffer_windows}
use Rattle.multiplier_search.specs.Buffered.{AreSearchedBuffered}
use Rattle.multiplier_search.specs.Windows.{AreSearched}
use Rattle.bound_certificate.specs.declared.cert.Node.{Node}
use Rattle.bound_certificate.specs.declared.cert.Node.TheVariants.{Branch, Dual, Run, Open, Window, BufferWindow}
use Rattle.certificate_checker.specs.Shown.{unfixed, windows_in}
use Rattle.branch_plan.specs.declared.limits.TheConstants.{WINDOWS_IN_ALL}
use Rattle.branch_plan.specs.declared.found.Found.{Found}
use Rattle.branch_plan.specs.Bound.{BranchesOnFitting, unit_fits}
use Rattle.branch_plan.specs.Plan.{BoundsAll}
use Rattle.branch_plan.specs.Tree.{AreEnough}
use Rattle.branch_plan.specs.Private.Growth.{node_of}

-- so many windows of a kind are few enough for each leaf of a tree of so many nodes, where these have room for the whole tree
abbrev pub AreShared : Table → (most count : ℕ) → Type 0
AreShared table most count = AreEnough table most → most * count ≤ WINDOWS_IN_ALL

-- windows of both kinds that may stand in the nodes of a search of so many
pub record IsSound (table : Table) (most : ℕ) (found : Found) : Type 0 where
  pub time : AreSearched found.time.items
  pub few : AreShared table most (length found.time.items)
  pub buffers : AreSearchedBuffered table found.buffers
  pub shared : AreShared table most (length found.buffers)

-- the windows that see the buffers of a node
abbrev pub buffer_windows_in : Node → List SeeingWindow
buffer_windows_in (Branch unit) = []
buffer_windows_in (Dual priced) = []
buffer_windows_in (Run scheduled) = []
buffer_windows_in Open = []
buffer_windows_in (Window priced) = []
buffer_windows_in (BufferWindow priced) = priced

-- a node's windows of either kind are what a search gives
abbrev pub AreSearchedIn : Table → Node → Type 0
AreSearchedIn table node = AreSearched (windows_in node) × AreSearchedBuffered table (buffer_windows_in node)

-- the windows of time of a node that has some, and else others
abbrev pub time_of : Node → List PricedWindow → List PricedWindow
time_of (Branch unit) others = others
time_of (Dual priced) others = others
time_of (Run scheduled) others = others
time_of Open others = others
time_of (Window priced) others = priced.items
time_of (BufferWindow priced) others = others

-- the windows that see the buffers of a node that has some, and else others
abbrev pub buffers_of : Node → List SeeingWindow → List SeeingWindow
buffers_of (Branch unit) others = others
buffers_of (Dual priced) others = others
buffers_of (Run scheduled) others = others
buffers_of Open others = others
buffers_of (Window priced) others = others
buffers_of (BufferWindow priced) others = priced

-- windows of one of the two kinds bound no lower than this, where these versions are fixed
abbrev pub IsReached : Table → (fixed : List (Option ℕ)) → List PricedWindow → List SeeingWindow → (floor : ℕ) → Type 0
IsReached table fixed windows buffers floor =
    (floor ≤ bound_of_value (value_of_windows table fixed windows))
    ⊎ ((bound : ℕ) × (bound_of_buffer_windows table fixed buffers ≡ Some bound) × (floor ≤ bound))

-- the same of a leaf, so that it holds of its children on a unit too: by windows that see the buffers only where each version of that
-- unit fits its buffer
abbrev pub IsReachedAbove : Table → (fixed : List (Option ℕ)) → (unit : ℕ) → List PricedWindow → List SeeingWindow → (floor : ℕ) → Type 0
IsReachedAbove table fixed unit windows buffers floor =
    (floor ≤ bound_of_value (value_of_windows table fixed windows))
    ⊎ ((unit_fits table unit ≡ true) × ((bound : ℕ) × (bound_of_buffer_windows table fixed buffers ≡ Some bound) × (floor ≤ bound)))

-- the bound of a leaf that may be branched is no lower than this
abbrev pub IsNoLower : (floor : ℕ) → Option ℕ → Type 0
IsNoLower floor None = Unit {0}
IsNoLower floor (Some bound) = floor ≤ bound

-- a bound that the windows of a root reach, whichever kind bounds closer, and that no scheduled choice falls below
pub record ReachesBoth (table : Table) (found : Found) (time root : ℕ) : Type 0 where
  pub least : time ≤ root
  pub buffers : (bound : ℕ) → bound_of_buffer_windows table (unfixed table) found.buffers ≡ Some bound → bound ≤ root
  pub reached : IsReached table (unfixed table) found.time.items found.buffers root
  pub bounds : BoundsAll table root

-- no branch of a tree is on a unit with a version that doesn't fit its buffer
abbrev pub EachBranchFits : Table → List Node → Type 0
EachBranchFits table nodes = (j : ℕ) → j < length nodes → BranchesOnFitting table (node_of nodes j)

-- what was found for a root, and the bound that the tree's open leaves keep to
pub record IsFounded (table : Table) (most : ℕ) (found : Found) (time root : ℕ) (nodes : List Node) : Type 0 where
  pub sound : IsSound table most found
  pub time_is : time ≡ bound_of_value (value_of_windows table (unfixed table) found.time.items)
  pub least : time ≤ root
  pub buffers : EachBranchFits table nodes → (bound : ℕ) → bound_of_buffer_windows table (unfixed table) found.buffers ≡ Some bound → bound ≤ root
