use Rattle.version_source.specs.Pieces.{stream_items}
use Rattle.version_source_tests.specs.Private.Kept.{HasAll}
use Rattle.version_source_tests.proofs.asking.are_right.Given as goal

abbrev pub invariant-loop-ask : goal.invariant-loop-ask
invariant-loop-ask l = HasAll (stream_items l.kept.programs l.kept.versions l.kept.choice.items) l.source
