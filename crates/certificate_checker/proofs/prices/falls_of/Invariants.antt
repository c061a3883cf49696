use Rattle.std.proofs.Common.{◌≡◌, map, take}
use Rattle.certificate_checker.specs.Private.Prices.{fall_of}
use Rattle.certificate_checker.proofs.prices.falls_of.Given as goal

abbrev pub invariant-loop-window : goal.invariant-loop-window
invariant-loop-window l = l.falls.items ≡ map fall_of (take l.window-index l.windows)
