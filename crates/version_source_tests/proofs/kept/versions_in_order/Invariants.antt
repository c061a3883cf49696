use Rattle.std.proofs.Common.{drop}
use Rattle.version_source_tests.specs.Private.Kept.{AreVersionsSoFar}
use Rattle.version_source_tests.proofs.kept.versions_in_order.Given as goal

abbrev pub invariant-loop-k : goal.invariant-loop-k
invariant-loop-k l = AreVersionsSoFar l.es l.coarser l.units (drop l.k l.units) l.before l.kept
