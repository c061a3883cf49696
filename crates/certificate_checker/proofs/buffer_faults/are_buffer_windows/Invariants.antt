use Rattle.std.proofs.Common.{ℕ, ◌<◌, get_or}
use Rattle.buffer_windows.specs.declared.windows.BufferWindow.{BufferWindow}
use Rattle.buffer_windows.specs.Windows.{IsBufferWindow}
use Rattle.certificate_checker.proofs.buffer_faults.are_buffer_windows.Given as goal

-- the windows before this one are right
abbrev pub invariant-loop-window : goal.invariant-loop-window
invariant-loop-window l = (k : ℕ) (d : BufferWindow) → k < l.window-index → IsBufferWindow l.slot (get_or l.windows k d)
