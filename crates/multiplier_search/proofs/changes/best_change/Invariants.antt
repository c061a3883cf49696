use Rattle.std.proofs.Common.{◌≤ℤ◌}
use Rattle.dual_bounds.specs.Values.{value_of_windows}
use Rattle.multiplier_search.specs.Private.Turns.{AreNext, BeatFirstChanges}
use Rattle.multiplier_search.proofs.changes.best_change.Given as goal

abbrev pub invariant-loop-place : goal.invariant-loop-place
invariant-loop-place l = record {
  next : AreNext l.start 0 l.best.items;
  value : value_of_windows l.table l.fixed l.start ≤ℤ value_of_windows l.table l.fixed l.best.items;
  changes : BeatFirstChanges l.table l.fixed l.place l.start l.best.items;
}
