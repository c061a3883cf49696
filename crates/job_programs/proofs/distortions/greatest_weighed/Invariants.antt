use Rattle.std.proofs.Common.{◌≡◌, ◌*◌, take, map}
use Rattle.version_table.specs.Table.{greatest}
use Rattle.job_programs.proofs.distortions.greatest_weighed.Given as goal

abbrev pub invariant-loop-size : goal.invariant-loop-size
invariant-loop-size l = l.most ≡ greatest (map (λ size. size.distortion * l.weight) (take l.size-index l.sizes))
