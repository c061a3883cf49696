use Rattle.std.proofs.Common.{length}
use Rattle.program_reader.specs.Private.StampedPictures.{LeavesFrom}
use Rattle.program_reader.proofs.stamp_walk.stamps_from.Given as goal

abbrev pub invariant-loop-first : goal.invariant-loop-first
invariant-loop-first l = LeavesFrom l.at l.stamps l.left

abbrev pub decreases-loop-first : goal.decreases-loop-first
decreases-loop-first l = length l.left
