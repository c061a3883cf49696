use Rattle.std.proofs.Common.{◌≢◌, ◌<◌, ℕ, get_or}
use Rattle.dual_bounds.specs.declared.windows.Window.{Window}
use Rattle.multiplier_search.proofs.additions.end_at.Given as goal

-- none of the windows passed ends at the time
abbrev pub invariant-loop-window : goal.invariant-loop-window
invariant-loop-window l = (k : ℕ) (d : Window) → k < l.window-index → (get_or l.windows k d).due ≢ l.time
