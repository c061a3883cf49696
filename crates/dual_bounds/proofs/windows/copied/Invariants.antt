use Rattle.std.proofs.Common.{◌≡◌, take}
use Rattle.dual_bounds.proofs.windows.copied.Given as goal

abbrev pub invariant-loop-window : goal.invariant-loop-window
invariant-loop-window l = l.copy.items ≡ take l.window-index l.windows
