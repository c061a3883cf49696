use Rattle.std.proofs.Common.{◌≡◌, take, map, min, fold}
use Rattle.version_table.specs.Choice.{version_at}
use Rattle.version_table.proofs.choices.least_of_versions.Given as goal

abbrev pub invariant-loop-version : goal.invariant-loop-version
invariant-loop-version l = l.least ≡ fold min (version_at l.unit 0).distortion (map (λ version. version.distortion) (take l.version-index l.version-items))
