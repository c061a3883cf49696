use Rattle.std.proofs.Common.{◌≡◌, map, take}
use Rattle.dual_bounds.specs.Values.{from_start}
use Rattle.multiplier_search.proofs.lists.multipliers_of.Given as goal

abbrev pub invariant-loop-window : goal.invariant-loop-window
invariant-loop-window l = map from_start l.multipliers.items ≡ take l.window-index l.windows
