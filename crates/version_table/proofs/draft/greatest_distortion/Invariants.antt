use Rattle.std.proofs.Common.{◌≡◌, take, map}
use Rattle.version_table.specs.Table.{greatest}
use Rattle.version_table.proofs.draft.greatest_distortion.Given as goal

abbrev pub invariant-loop-version : goal.invariant-loop-version
invariant-loop-version l = l.most ≡ greatest (map (λ version. version.distortion) (take l.version-index l.versions))
