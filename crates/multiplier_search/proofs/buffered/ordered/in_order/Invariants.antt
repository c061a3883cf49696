use Rattle.multiplier_search.specs.Buffered.{AreSearchedBuffered}
use Rattle.multiplier_search.proofs.buffered.ordered.in_order.Given as goal

abbrev pub invariant-loop-window : goal.invariant-loop-window
invariant-loop-window l = AreSearchedBuffered l.table l.ordered
