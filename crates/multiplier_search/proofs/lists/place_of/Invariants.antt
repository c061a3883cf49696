use Rattle.std.proofs.Common.{ℕ, ◌-◌, ◌<◌, ◌≤◌, length, get_or}
use Rattle.dual_bounds.specs.declared.windows.Window.{Window}
use Rattle.multiplier_search.specs.Windows.{Precedes}
use Rattle.multiplier_search.proofs.lists.place_of.Given as goal

abbrev pub invariant-loop-place : goal.invariant-loop-place
invariant-loop-place l = record {
  within : l.place ≤ length l.windows;
  before : (k : ℕ) (d : Window) → k < l.place → Precedes (get_or l.windows k d) l.window;
}

abbrev pub decreases-loop-place : goal.decreases-loop-place
decreases-loop-place l = length l.windows - l.place
