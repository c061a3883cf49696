use Rattle.std.proofs.Common.{◌≡◌, ◌-◌, ◌++◌}
use Rattle.ts_packets.specs.TransportStream.{piece_count}
use Rattle.ts_demux.specs.Private.PayloadWalk.{left_of}
use Rattle.ts_demux.proofs.payloads.refilled.Given as goal

abbrev pub invariant-loop-walk : goal.invariant-loop-walk
invariant-loop-walk l = l.payload ++ left_of l.walk ≡ l.fn.current ++ left_of l.fn.walk

abbrev pub decreases-loop-walk : goal.decreases-loop-walk
decreases-loop-walk l = piece_count l.walk.file.now - l.walk.next
