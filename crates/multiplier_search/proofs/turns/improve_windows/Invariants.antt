use Rattle.std.proofs.Common.{◌≡◌, ◌<◌, ◌≤◌, length, ◌≤ℤ◌}
use Rattle.dual_bounds.specs.Values.{value_of_windows}
use Rattle.multiplier_search.specs.Turns.{BeatChanges}
use Rattle.multiplier_search.specs.Windows.{AreSearched}
use Rattle.multiplier_search.proofs.turns.improve_windows.Given as goal

abbrev pub invariant-loop-left : goal.invariant-loop-left
invariant-loop-left l = record {
  order : l.left ≤ l.turns;
  few : length l.with.items ≤ length l.from.items;
  searched : AreSearched l.with.items;
  value : value_of_windows l.table l.fixed l.from.items ≤ℤ value_of_windows l.table l.fixed l.with.items;
  fresh : l.left ≡ l.turns → l.with.items ≡ l.from.items;
  changes : l.left < l.turns → BeatChanges l.table l.fixed l.from.items l.with.items;
}

abbrev pub decreases-loop-left : goal.decreases-loop-left
decreases-loop-left l = l.left
