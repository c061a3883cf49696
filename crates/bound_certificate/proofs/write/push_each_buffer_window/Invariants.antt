use Rattle.std.proofs.Common.{◌≡◌, ◌++◌, take}
use Rattle.std.specs.List.{flat_map}
use Rattle.bound_certificate.specs.Spelling.{bytes_of_buffer_window}
use Rattle.bound_certificate.proofs.write.push_each_buffer_window.Given as goal

abbrev pub invariant-loop-window : goal.invariant-loop-window
invariant-loop-window l = l.out.items ≡ l.initial.out.items ++ flat_map bytes_of_buffer_window (take l.window-index l.windows)
