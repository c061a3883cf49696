-- What trying single changes of a known choice comes to.
use Rattle.std.specs.Prelude.{◌≡◌, ◌≢◌, ℕ, suc, ◌+◌, ◌-◌, ◌/◌, ◌<◌, ◌≤◌, cond, nat_le, List, [], ◌∷◌, length, sum_by, take, slice_index_or, slice_set}
use Rattle.version_table.specs.declared.table.Version.{Version}
use Rattle.version_table.specs.declared.table.Unit.{Unit as CodedUnit}
use Rattle.version_table.specs.declared.table.Table.{Table}
use Rattle.version_table.specs.Choice.{version_at}
use Rattle.version_table.specs.Table.{units_of}
use Rattle.slot_rule.specs.Schedule.{IsScheduled}
use Rattle.certificate_checker.specs.Shown.{versions_of}
use Rattle.branch_plan.specs.declared.known.Known.{Known}
use Rattle.branch_plan.specs.declared.changes.Change.{Change}
use Rattle.branch_plan.specs.declared.changes.Change.TheVariants.{Helps, Fails}
use Rattle.branch_plan.specs.declared.changes.Tried.{Tried}
use Rattle.branch_plan.specs.declared.changes.Tried.TheVariants.{Better, Nothing, Spent}
use Rattle.branch_plan.specs.Changes.{HelpsAlone, change_count}
use Rattle.branch_plan.specs.Private.Known.{IsKnown}

-- a unit, numbered over all programs in order; one that there isn't has no version
abbrev pub unit_at : Table → (place : ℕ) → CodedUnit
unit_at table place = slice_index_or (units_of table) place (record { due = 0; versions = record { items = [] } })

-- how many of some versions have less distortion than this
abbrev pub lesser_count : (most : ℕ) → List Version → ℕ
lesser_count most [] = 0
lesser_count most (version ∷ versions) = cond (nat_le (suc version.distortion) most) 1 0 + lesser_count most versions

-- how many versions of less distortion than the chosen ones some units have
abbrev pub better_count : List CodedUnit → List ℕ → ℕ
better_count (unit ∷ units) (k ∷ choice) = lesser_count (version_at unit k).distortion unit.versions.items + better_count units choice
better_count [] choice = 0
better_count (unit ∷ units) [] = 0

-- how many changes that lessen the distortion a choice has
unfoldable pub changes_left : Table → (choice : List ℕ) → ℕ
changes_left table choice = better_count (units_of table) choice

-- how many single changes the first units have: of each its versions less one
unfoldable pub changes_before : Table → (place : ℕ) → ℕ
changes_before table place = sum_by (λ unit. length unit.versions.items - 1) (take place (units_of table))

-- version k of a unit has less distortion than the chosen one
abbrev pub IsLesserAt : Table → (choice : List ℕ) → (place k : ℕ) → Type 0
IsLesserAt table choice place k = (version_at (unit_at table place) k).distortion < (version_at (unit_at table place) (slice_index_or choice place 0)).distortion

-- a choice isn't scheduled with version k of this unit
abbrev pub FailsWith : Table → (choice : List ℕ) → (place k : ℕ) → Type 0
FailsWith table choice place k = IsScheduled table (slice_set choice place k) → ⊥

-- a choice isn't scheduled with any version of less distortion of this unit, of those below a number
abbrev pub FailsBelow : Table → (choice : List ℕ) → (place most : ℕ) → Type 0
FailsBelow table choice place most = (k : ℕ) → k < most → IsLesserAt table choice place k → FailsWith table choice place k

-- no unit of these numbers, changed to a version of less distortion, gives a scheduled choice
abbrev pub FailBetween : Table → (choice : List ℕ) → (low high : ℕ) → Type 0
FailBetween table choice low high = (place : ℕ) → low ≤ place → place < high → FailsBelow table choice place (versions_of table place)

-- a change helps, and the choice with it is known and has less distortion; or the choice is as it was, and isn't scheduled with it
abbrev pub IsChangeOf : Table → (old : Known) → (place k : ℕ) → Change → Type 0
IsChangeOf table old place k (Helps known) =
    IsKnown table known × (known.distortion < old.distortion) × (changes_left table known.choice < changes_left table old.choice)
IsChangeOf table old place k (Fails known) = (known ≡ old) × FailsWith table old.choice place k

-- one of the changes of the units from one up to another helps, or none does and the choice is as it was, or no run is left for one of
-- them; no more runs are used than there are changes
abbrev pub IsTriedFrom : Table → (old : Known) → (left low high : ℕ) → Tried → Type 0
IsTriedFrom table old left low high (Better known place rest) =
    IsKnown table known × (known.distortion < old.distortion) × (changes_left table known.choice < changes_left table old.choice) × (rest < left)
    × (place < length (units_of table)) × (left + changes_before table low ≤ rest + changes_before table high)
IsTriedFrom table old left low high (Nothing known rest) =
    (known ≡ old) × (rest ≤ left) × (left + changes_before table low ≤ rest + changes_before table high) × FailBetween table old.choice low high
IsTriedFrom table old left low high (Spent known) = (known ≡ old) × (left + changes_before table low < changes_before table high)

-- where a single change is left that helps, a distortion lies below a start by one at least for each whole round of runs
abbrev pub GainsOver : Table → (evaluations : ℕ) → (choice : List ℕ) → (distortion start : ℕ) → Type 0
GainsOver table evaluations choice distortion start =
    (changed : List ℕ) → change_count table ≢ 0 → HelpsAlone table choice changed → distortion + evaluations / change_count table ≤ start
