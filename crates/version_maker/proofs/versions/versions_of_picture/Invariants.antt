use Rattle.version_maker.specs.Private.Bytes.{VersionsSoFar}
use Rattle.version_maker.proofs.versions.versions_of_picture.Given as goal

abbrev pub invariant-loop-m : goal.invariant-loop-m
invariant-loop-m l = record { so_far : VersionsSoFar l.fn.picture l.fn.unit l.fn.coarser l.m-index l.versions }
