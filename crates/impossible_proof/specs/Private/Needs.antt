-- What the units of a table need, as a list in the order of due times.
use Rattle.std.specs.Prelude.{ℕ, ◌*◌, ◌≤◌, ◌^◌, List, length, map, All, sum_by, cond}
use Rattle.std.specs.List.Sorted.{IsNonDecreasingBy, IsPermutation}
use Rattle.version_table.specs.declared.limits.TheConstants.{TIME_SLOTS_MOST}
use Rattle.version_table.specs.declared.table.Table.{Table}
use Rattle.version_table.specs.declared.table.Unit.{Unit as CodedUnit}
use Rattle.version_table.specs.Table.{units_of}
use Rattle.dual_bounds.specs.Room.{is_within}
use Rattle.impossible_proof.specs.declared.needs.UnitNeed.{UnitNeed}
use Rattle.impossible_proof.specs.NoRoom.{fewest_packets}

-- what a unit needs
abbrev pub need_of : CodedUnit → UnitNeed
need_of unit = record { due = unit.due; packets = fewest_packets unit }

-- what a unit needs where it is due in a window, else nothing
abbrev pub packets_in : (from due : ℕ) → UnitNeed → ℕ
packets_in from due one = cond (is_within from due one.due) one.packets 0

-- what is needed in a window
unfoldable pub need_in : (from due : ℕ) → List UnitNeed → ℕ
need_in from due needs = sum_by (packets_in from due) needs

-- they are few, and each is small
pub record AreFew (needs : List UnitNeed) : Type 0 where
  pub few : length needs ≤ 2 ^ 22
  pub small : All (λ one. one.packets ≤ 2 ^ 15) needs

-- what the units of a table need, in the order of due times
pub record AreNeeds (table : Table) (needs : List UnitNeed) : Type 0 where
  pub rising : IsNonDecreasingBy (λ one. one.due) needs
  pub each : IsPermutation (map need_of (units_of table)) needs
  pub few : AreFew needs
  pub dues : All (λ one. one.due ≤ TIME_SLOTS_MOST * table.slot) needs
