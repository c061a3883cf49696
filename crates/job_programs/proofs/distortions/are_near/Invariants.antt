use Rattle.std.proofs.Common.{◌↔◌, drop}
use Rattle.job_programs.specs.Distortions.{AreNear}
use Rattle.job_programs.proofs.distortions.are_near.Given as goal

abbrev pub invariant-loop-k : goal.invariant-loop-k
invariant-loop-k l = AreNear l.weight l.drift (drop l.k l.units) (drop l.k l.sizes) ↔ AreNear l.weight l.drift l.units l.sizes
