use Rattle.std.proofs.Common.{◌≡◌, ◌-◌}
use Rattle.ts_packets.specs.TransportStream.{piece_count}
use Rattle.ts_demux.specs.TableWalk.{IsBetween}
use Rattle.ts_demux.proofs.placed_map.find_map.Given as goal

abbrev pub invariant-loop-bytes : goal.invariant-loop-bytes
invariant-loop-bytes l = record { between : IsBetween l.file l.n l.walk; program : l.walk.program ≡ l.program }

abbrev pub decreases-loop-bytes : goal.decreases-loop-bytes
decreases-loop-bytes l = piece_count l.file - l.n
