use Rattle.std.proofs.Common.{◌≡◌, take, map, min, fold}
use Rattle.std.specs.Prelude.{slice_index_or}
use Rattle.dual_bounds.specs.Values.{cost}
use Rattle.dual_bounds.proofs.costs.least_of_versions.Given as goal

abbrev pub invariant-loop-version : goal.invariant-loop-version
invariant-loop-version l =
    l.least ≡ fold min (cost l.charged (slice_index_or l.versions 0 (record { bytes = 0; distortion = 0 }))) (map (cost l.charged) (take l.version-index l.version-items))
