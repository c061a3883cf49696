-- What windows come to, as a search keeps it with the nodes of its tree.
use Rattle.std.specs.Prelude.{◌≡◌, ◌≢◌, ℕ, ◌<◌, true, List, length, slice_index_or, Option, Some, None, MatchOption}
use Rattle.version_table.specs.declared.table.Table.{Table}
use Rattle.dual_bounds.specs.declared.windows.Window.{Window as PricedWindow}
use Rattle.dual_bounds.specs.Values.{value_of_windows}
use Rattle.buffer_windows.specs.declared.windows.BufferWindow.{BufferWindow as SeeingWindow}
use Rattle.buffer_windows.specs.Bounds.{bound_of_buffer_windows, each_has_left}
use Rattle.buffer_windows.specs.Values.{value_of_buffer_windows}
use Rattle.bound_certificate.specs.declared.cert.Node.{Node}
use Rattle.bound_certificate.specs.declared.cert.Node.TheVariants.{Branch, Dual, Run, Open, Window, BufferWindow}
use Rattle.certificate_checker.specs.Shown.{fix}
use Rattle.branch_plan.specs.declared.values.TheConstants.{UNKNOWN}
use Rattle.branch_plan.specs.declared.values.KeptValue.{KeptValue}
use Rattle.branch_plan.specs.declared.values.Valued.{Valued as ValuedWindows}
use Rattle.branch_plan.specs.declared.values.Values.{Values}
use Rattle.branch_plan.specs.Private.Growth.{node_of}

-- what is kept is the value of windows of time where these versions are fixed
abbrev pub IsTimeKept : Table → (fixed : List (Option ℕ)) → List PricedWindow → KeptValue → Type 0
IsTimeKept table fixed windows kept = kept.parts ≢ UNKNOWN → kept.parts ≡ value_of_windows table fixed windows

-- what is kept is the value of windows that see the buffers where these versions are fixed, and each unit has a version left
abbrev pub IsSeenKept : Table → (fixed : List (Option ℕ)) → List SeeingWindow → KeptValue → Type 0
IsSeenKept table fixed seeing kept = kept.parts ≢ UNKNOWN → (each_has_left table fixed ≡ true) × (kept.parts ≡ value_of_buffer_windows table fixed seeing)

-- the same of both kinds
pub record AreKept (table : Table) (fixed : List (Option ℕ)) (windows : List PricedWindow) (seeing : List SeeingWindow) (values : Values) : Type 0 where
  pub time : IsTimeKept table fixed windows values.time
  pub seen : IsSeenKept table fixed seeing values.seen

-- windows that see the buffers give this bound, and what they come to is kept; or they give none
abbrev pub IsSeenBy : Table → (fixed : List (Option ℕ)) → List SeeingWindow → Option ValuedWindows → Type 0
IsSeenBy table fixed seeing seen =
    MatchOption seen (bound_of_buffer_windows table fixed seeing ≡ None)
    (λ own. (bound_of_buffer_windows table fixed seeing ≡ Some own.bound) × IsSeenKept table fixed seeing own.kept)

-- what is kept with a leaf is what its windows come to, of which those that see the buffers are the root's
abbrev pub IsValuedBy : Table → List SeeingWindow → (fixed : List (Option ℕ)) → Node → Values → Type 0
IsValuedBy table seeing fixed (Branch unit) values = Unit {0}
IsValuedBy table seeing fixed (Dual priced) values = Unit {0}
IsValuedBy table seeing fixed (Run scheduled) values = Unit {0}
IsValuedBy table seeing fixed Open values = Unit {0}
IsValuedBy table seeing fixed (Window priced) values = AreKept table fixed priced.items seeing values
IsValuedBy table seeing fixed (BufferWindow priced) values = (priced ≡ seeing) × (values.time.parts ≡ UNKNOWN) × IsSeenKept table fixed seeing values.seen

-- what is kept with the node of a number
abbrev pub values_of : List Values → ℕ → Values
values_of values j = slice_index_or values j (record { time = record { parts = UNKNOWN }; seen = record { parts = UNKNOWN } })

-- each node of a tree has values beside it
pub record AreValued (table : Table) (seeing : List SeeingWindow) (nodes : List Node) (path : ℕ → List (Option ℕ)) (values : List Values) : Type 0 where
  pub as_many : length values ≡ length nodes
  pub each : (j : ℕ) → j < length nodes → IsValuedBy table seeing (path j) (node_of nodes j) (values_of values j)

-- the same of the first children of a branch
pub record AreValuedBelow (table : Table) (seeing : List SeeingWindow) (fixed : List (Option ℕ)) (unit k : ℕ) (made : List Node) (values : List Values) : Type 0 where
  pub as_many : length values ≡ k
  pub each : (j : ℕ) → j < k → IsValuedBy table seeing (fix unit j fixed) (node_of made j) (values_of values j)
