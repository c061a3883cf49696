use Rattle.std.proofs.Common.{◌≡◌, take, map, min, fold}
use Rattle.std.specs.Prelude.{slice_index_or}
use Rattle.dual_bounds.specs.Values.{packet_count}
use Rattle.impossible_proof.proofs.needs.fewest_packets.Given as goal

abbrev pub invariant-loop-version : goal.invariant-loop-version
invariant-loop-version l =
    l.fewest ≡ fold min (packet_count (slice_index_or l.versions 0 (record { bytes = 0; distortion = 0 }))) (map packet_count (take l.version-index l.version-items))
