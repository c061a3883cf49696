use Rattle.std.proofs.Common.{◌≡◌, ◌+◌, ◌<◌, ◌≤◌, length, map, ◌≤ℤ◌}
use Rattle.version_table.specs.Table.{units_of}
use Rattle.dual_bounds.specs.declared.constants.TheConstants.{WINDOWS_MOST}
use Rattle.dual_bounds.specs.Values.{from_start, value_of_windows}
use Rattle.multiplier_search.specs.Private.Turns.{AreFromStart}
use Rattle.multiplier_search.specs.Single.{dues_of}
use Rattle.multiplier_search.specs.Turns.{BeatAdditions, BeatChanges}
use Rattle.multiplier_search.specs.Windows.{AreSearched}
use Rattle.multiplier_search.proofs.turns.improve.Given as goal

abbrev pub invariant-loop-left : goal.invariant-loop-left
invariant-loop-left l = record {
  order : l.left ≤ l.turns;
  few : length l.with.items + l.left ≤ length l.from.items + l.turns;
  searched : AreSearched l.with.items;
  starts : AreFromStart l.with.items;
  value : value_of_windows l.table l.fixed (map from_start l.from.items) ≤ℤ value_of_windows l.table l.fixed l.with.items;
  fresh : l.left ≡ l.turns → l.with.items ≡ map from_start l.from.items;
  changes : l.left < l.turns → BeatChanges l.table l.fixed (map from_start l.from.items) l.with.items;
  additions : l.left < l.turns → length l.from.items < WINDOWS_MOST → BeatAdditions l.table l.fixed (dues_of (units_of l.table)) (map from_start l.from.items) l.with.items;
}

abbrev pub decreases-loop-left : goal.decreases-loop-left
decreases-loop-left l = l.left
