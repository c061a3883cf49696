use Rattle.std.proofs.Common.{drop}
use Rattle.std.specs.List.{AllByRecursion}
use Rattle.bound_certificate.specs.Cert.{IsStatedWindow}
use Rattle.plan_command.proofs.cert_room.look_at_windows.Given as goal

abbrev pub invariant-loop-window : goal.invariant-loop-window
invariant-loop-window l = AllByRecursion IsStatedWindow (drop l.window-index l.windows) → AllByRecursion IsStatedWindow l.windows
