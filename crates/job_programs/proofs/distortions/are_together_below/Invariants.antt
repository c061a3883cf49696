use Rattle.std.proofs.Common.{◌≡◌, ◌+◌, ◌<◌, drop}
use Rattle.job_programs.specs.Distortions.{AreNear, weighed_together}
use Rattle.job_programs.specs.declared.limits.TheConstants.{PROGRAM_DISTORTIONS_LIMIT}
use Rattle.job_programs.proofs.distortions.are_together_below.Given as goal

abbrev pub invariant-loop-k : goal.invariant-loop-k
invariant-loop-k l = record {
  some : 0 < l.room;
  sum : weighed_together l.weight l.drift l.units l.sizes + l.room ≡ PROGRAM_DISTORTIONS_LIMIT + weighed_together l.weight l.drift (drop l.k l.units) (drop l.k l.sizes);
  near : AreNear l.weight l.drift (drop l.k l.units) (drop l.k l.sizes);
}
