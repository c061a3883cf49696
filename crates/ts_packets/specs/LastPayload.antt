-- What is kept of the last packet with payload of a PID (ISO/IEC 13818-1, 2.4.3.3).
use Rattle.std.specs.Prelude.{ℕ, List}
use Rattle.ts_packets.specs.Packet.{PacketRecord}

-- counter and payload of a packet, by which the next one with payload is judged
pub record Numbered : Type 0 where
  pub counter : ℕ
  pub payload : List ℕ

-- those of a packet
abbrev pub numbered : PacketRecord → Numbered
numbered packet = record { counter = packet.counter; payload = packet.payload }
