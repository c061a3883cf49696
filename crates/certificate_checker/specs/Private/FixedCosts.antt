-- What the packets of fixed versions are charged, and which of them are due in a window.
use Rattle.std.specs.Prelude.{ℕ, ◌*◌, ◌<◌, ◌≤◌, List, length, cond, slice_index_or}
use Rattle.dual_bounds.specs.declared.windows.Window.{Window as PricedWindow}
use Rattle.dual_bounds.specs.Room.{is_within}
use Rattle.dual_bounds.specs.Values.{price}
use Rattle.certificate_checker.specs.declared.order.DueUnit.{DueUnit}
use Rattle.certificate_checker.specs.declared.tally.Tally.{Tally}
use Rattle.certificate_checker.specs.Private.PlaceSums.{number_at}

-- when the unit at a place is due
abbrev pub due_at : List DueUnit → (place : ℕ) → ℕ
due_at order place = (slice_index_or order place (record { due = 0; unit = 0; program = 0; place = 0 })).due

-- the packets of the version that is fixed of the unit at a place, where it is due in the window
abbrev pub packets_within : Tally → (from due place : ℕ) → ℕ
packets_within tally from due place = cond (is_within from due (due_at tally.order.items place)) (number_at tally.packets place) 0

-- what the packets of the version that is fixed of the unit at a place are charged
abbrev pub charged_at : Tally → List PricedWindow → (place : ℕ) → ℕ
charged_at tally windows place = number_at tally.packets place * price windows (due_at tally.order.items place)

-- the units before this place are due before a time, and the others not
pub record SplitsBefore (time : ℕ) (order : List DueUnit) (place : ℕ) : Type 0 where
  pub within : place ≤ length order
  pub before : (k : ℕ) → k < place → due_at order k < time
  pub others : (k : ℕ) → place ≤ k → k < length order → time ≤ due_at order k

-- the units before this place are due by a time, and the others later
pub record SplitsBy (time : ℕ) (order : List DueUnit) (place : ℕ) : Type 0 where
  pub within : place ≤ length order
  pub by : (k : ℕ) → k < place → due_at order k ≤ time
  pub others : (k : ℕ) → place ≤ k → k < length order → time < due_at order k
