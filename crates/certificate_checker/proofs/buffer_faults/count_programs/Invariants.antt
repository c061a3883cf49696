use Rattle.std.proofs.Common.{ℕ, ◌<◌, ◌^◌, get_or}
use Rattle.buffer_windows.specs.declared.windows.BufferWindow.{BufferWindow}
use Rattle.certificate_checker.proofs.buffer_faults.count_programs.Given as goal

-- the windows before this one count programs that there are
abbrev pub invariant-loop-window : goal.invariant-loop-window
invariant-loop-window l = (k : ℕ) (d : BufferWindow) → k < l.window-index → (get_or l.windows k d).programs < 2 ^ l.programs
