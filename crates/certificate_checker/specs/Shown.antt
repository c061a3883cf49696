-- What the nodes of a tree show where versions are fixed on the way to them.
use Rattle.std.specs.Prelude.{ℕ, min, Bool, true, false, List, [], map, length, slice_index_or, slice_set, Option, Some, None}
use Rattle.std.specs.Option.{unwrap_or}
use Rattle.version_table.specs.declared.table.Table.{Table}
use Rattle.version_table.specs.Choice.{distortion_of_choice}
use Rattle.version_table.specs.Table.{units_of}
use Rattle.dual_bounds.specs.declared.windows.Window.{Window as PricedWindow}
use Rattle.dual_bounds.specs.Bounds.{bound_of_value}
use Rattle.dual_bounds.specs.Values.{from_start, value_of_windows}
use Rattle.buffer_windows.specs.Bounds.{bound_of_buffer_windows}
use Rattle.bound_certificate.specs.declared.cert.Node.{Node}
use Rattle.bound_certificate.specs.declared.cert.Node.TheVariants.{Branch, Dual, Run, Open, Window, BufferWindow}

-- no version is fixed of any unit
abbrev pub unfixed : Table → List (Option ℕ)
unfixed table = map (λ unit. None) (units_of table)

-- version k of a unit is fixed too
abbrev pub fix : (unit k : ℕ) → List (Option ℕ) → List (Option ℕ)
fix unit k fixed = slice_set fixed unit (Some k)

-- how many versions a unit has, numbered over all programs in order; one that there isn't has none
abbrev pub versions_of : Table → (unit : ℕ) → ℕ
versions_of table unit = length (slice_index_or (units_of table) unit (record { due = 0; versions = record { items = [] } })).versions.items

-- the version that is fixed of a unit, or 0
abbrev pub version_left : Option ℕ → ℕ
version_left entry = unwrap_or entry 0

-- the one choice that is left where each unit is fixed or has one version
abbrev pub choice_left : List (Option ℕ) → List ℕ
choice_left fixed = map version_left fixed

-- the windows of time of a node: its own, those of its multipliers, which reach from time 0 on, or none
abbrev pub windows_in : Node → List PricedWindow
windows_in (Branch unit) = []
windows_in (Dual priced) = map from_start priced.items
windows_in (Run scheduled) = []
windows_in Open = []
windows_in (Window priced) = priced.items
windows_in (BufferWindow priced) = []

-- the bound of a choice that was tried: its distortion, or none where it isn't scheduled
abbrev pub bound_of_run : Table → List ℕ → (scheduled : Bool) → Option ℕ
bound_of_run table choice true = Some (distortion_of_choice table choice)
bound_of_run table choice false = None

-- the bound of some windows, where these versions are fixed
abbrev pub bound_of_windows : Table → List (Option ℕ) → List PricedWindow → Option ℕ
bound_of_windows table fixed windows = Some (bound_of_value (value_of_windows table fixed windows))

-- the bound of a node without children
abbrev pub bound_of_leaf : Table → List (Option ℕ) → Node → Option ℕ
bound_of_leaf table fixed (Run scheduled) = bound_of_run table (choice_left fixed) scheduled
bound_of_leaf table fixed (BufferWindow priced) = bound_of_buffer_windows table fixed priced
bound_of_leaf table fixed node = bound_of_windows table fixed (windows_in node)

-- the lesser of two bounds, where there are two; none is left out
abbrev pub lesser : Option ℕ → Option ℕ → Option ℕ
lesser None b = b
lesser (Some a) None = Some a
lesser (Some a) (Some b) = Some (min a b)
