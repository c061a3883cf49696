use Rattle.std.proofs.Common.{◌≡◌, ◌<◌, ◌++◌, List, All, length}
use Rattle.std.specs.List.{sum_by}
use Rattle.elementary_streams.specs.declared.pes_packets.PlacedPacket.{PlacedPacket}
use Rattle.stream_audit.proofs.frame_removals.HeadersAhead.count_before.Given as goal

abbrev pub invariant-loop-packet : goal.invariant-loop-packet
invariant-loop-packet l = record {
  passed : List PlacedPacket;
  split : l.fn.self.packets.now ≡ passed ++ l.self.packets.now;
  before : All (λ packet. packet.from < l.end) passed;
  bytes_are : l.bytes ≡ sum_by (λ packet. packet.header.len) passed;
}

abbrev pub decreases-loop-packet : goal.decreases-loop-packet
decreases-loop-packet l = length l.self.packets.now
