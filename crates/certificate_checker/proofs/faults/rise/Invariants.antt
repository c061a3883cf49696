use Rattle.std.proofs.Common.{ℕ, ◌+◌, ◌<◌, get_or}
use Rattle.dual_bounds.specs.declared.windows.Window.{Window}
use Rattle.certificate_checker.specs.Faults.{WindowGoesBefore}
use Rattle.certificate_checker.proofs.faults.rise.Given as goal

-- each of the windows before this one goes before the next
abbrev pub invariant-loop-i : goal.invariant-loop-i
invariant-loop-i l = (k : ℕ) (d : Window) → k + 1 < l.i → WindowGoesBefore (get_or l.windows k d) (get_or l.windows (k + 1) d)
