use Rattle.std.proofs.Common.{length}
use Rattle.version_source_tests.proofs.item.+item_of.Given as goal

abbrev pub decreases-item_of : goal.decreases-item_of
decreases-item_of l = length l.programs.now
