use Rattle.std.proofs.Common.{ℕ, ◌+◌, ◌<◌, get_or}
use Rattle.buffer_windows.specs.declared.windows.BufferWindow.{BufferWindow}
use Rattle.certificate_checker.specs.Faults.{BufferWindowGoesBefore}
use Rattle.certificate_checker.proofs.buffer_faults.buffer_windows_rise.Given as goal

-- each of the windows before this one goes before the next
abbrev pub invariant-loop-i : goal.invariant-loop-i
invariant-loop-i l = (k : ℕ) (d : BufferWindow) → k + 1 < l.i → BufferWindowGoesBefore (get_or l.windows k d) (get_or l.windows (k + 1) d)
