use Rattle.std.proofs.Common.{◌≡◌, map, take}
use Rattle.certificate_checker.specs.Private.Prices.{rise_of}
use Rattle.certificate_checker.proofs.prices.rises_of.Given as goal

abbrev pub invariant-loop-window : goal.invariant-loop-window
invariant-loop-window l = l.rises.items ≡ map rise_of (take l.window-index l.windows)
