use Rattle.std.proofs.Common.{drop}
use Rattle.std.specs.List.{AllByRecursion}
use Rattle.bound_certificate.specs.Cert.{IsStatedBufferWindow}
use Rattle.plan_command.proofs.cert_room.look_at_buffer_windows.Given as goal

abbrev pub invariant-loop-window : goal.invariant-loop-window
invariant-loop-window l = AllByRecursion IsStatedBufferWindow (drop l.window-index l.windows) → AllByRecursion IsStatedBufferWindow l.windows
