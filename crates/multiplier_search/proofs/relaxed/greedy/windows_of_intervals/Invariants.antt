use Rattle.multiplier_search.specs.Windows.{AreSearched}
use Rattle.multiplier_search.proofs.relaxed.greedy.windows_of_intervals.Given as goal

abbrev pub invariant-loop-interval : goal.invariant-loop-interval
invariant-loop-interval l = AreSearched l.windows.items
