-- A choice that is known to be scheduled.
use Rattle.std.specs.Prelude.{◌≡◌, ℕ, ◌≤◌}
use Rattle.version_table.specs.declared.table.Table.{Table}
use Rattle.version_table.specs.Choice.{Fits, distortion_of_choice, level_choice}
use Rattle.slot_rule.specs.Schedule.{IsScheduled}
use Rattle.branch_plan.specs.declared.known.Known.{Known}

-- a known choice is scheduled, and its distortion is the sum of its units'
pub record IsKnown (table : Table) (known : Known) : Type 0 where
  pub fits : Fits table known.choice
  pub scheduled : IsScheduled table known.choice
  pub distortion : known.distortion ≡ distortion_of_choice table known.choice

-- a distortion is at most that of the level choice, if that is scheduled
abbrev pub IsNoWorseThanLevel : Table → (level distortion : ℕ) → Type 0
IsNoWorseThanLevel table level distortion = IsScheduled table (level_choice table level) → distortion ≤ distortion_of_choice table (level_choice table level)
