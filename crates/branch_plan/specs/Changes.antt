-- Single changes of a choice: one unit changed alone to a version of less distortion.
use Rattle.std.specs.Prelude.{◌≡◌, ◌≢◌, ℕ, ◌+◌, ◌*◌, ◌-◌, ◌/◌, ◌<◌, ◌≤◌, List, length, sum_by, slice_get, slice_set, slice_index_or, Some}
use Rattle.version_table.specs.declared.table.Unit.{Unit as CodedUnit}
use Rattle.version_table.specs.declared.table.Table.{Table}
use Rattle.version_table.specs.Choice.{HasVersion, distortion_of_choice, version_at}
use Rattle.version_table.specs.Table.{units_of}
use Rattle.slot_rule.specs.Schedule.{IsScheduled}
use Rattle.branch_plan.specs.Plan.{IsPremise}

-- a choice changed alone in one unit, to another of its versions, of less distortion
pub record IsLesserChange (table : Table) (choice changed : List ℕ) : Type 0 where
  pub place : ℕ
  pub unit : CodedUnit
  pub version : ℕ
  pub is_unit : slice_get (units_of table) place ≡ Some unit
  pub exists : HasVersion unit version
  pub less : (version_at unit version).distortion < (version_at unit (slice_index_or choice place 0)).distortion
  pub is : changed ≡ slice_set choice place version

-- a scheduled choice that is such a change
abbrev pub HelpsAlone : Table → (choice changed : List ℕ) → Type 0
HelpsAlone table choice changed = IsLesserChange table choice changed × IsScheduled table changed

-- no unit changed alone to a version of less distortion gives a scheduled choice
abbrev pub IsBestAlone : Table → (choice : List ℕ) → Type 0
IsBestAlone table choice = (changed : List ℕ) → HelpsAlone table choice changed → ⊥

-- how many single changes a table has: of each unit its versions less one
abbrev pub change_count : Table → ℕ
change_count table = sum_by (λ unit. length unit.versions.items - 1) (units_of table)

-- with runs enough for a whole round behind each change, no single change of the choice is left that helps
abbrev pub EndsBestAlone : Table → (evaluations : ℕ) → (choice : List ℕ) → Type 0
EndsBestAlone table evaluations choice = 1 + (change_count table + 1) * change_count table ≤ evaluations → IsBestAlone table choice

-- a distortion is so much below that of the smallest choice and of each level choice, where they are scheduled
abbrev pub IsBelowPremises : Table → (distortion less : ℕ) → Type 0
IsBelowPremises table distortion less = (premise : List ℕ) → IsPremise table premise → IsScheduled table premise → distortion + less ≤ distortion_of_choice table premise

-- where a single change is left that helps, each whole round of runs has lowered the distortion by one at least
abbrev pub GainsByRounds : Table → (evaluations : ℕ) → (choice : List ℕ) → (distortion : ℕ) → Type 0
GainsByRounds table evaluations choice distortion =
    (changed : List ℕ) → change_count table ≢ 0 → HelpsAlone table choice changed → IsBelowPremises table distortion (evaluations / change_count table)
