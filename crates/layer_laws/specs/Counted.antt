-- Packets of a PID as records, and what they carry (ISO/IEC 13818-1, 2.4.3.3).
use Rattle.std.specs.Prelude.{◌≡◌, ℕ, ◌+◌, ◌%◌, false, List, [], ◌∷◌, filter, All}
use Rattle.ts_packets.specs.Packet.{PacketRecord}
use Rattle.ts_packets.specs.Carried.{has_payload_on, is_discontinuous}

-- each continuity_counter is the next one modulo 16 behind the one before it
abbrev pub RiseByOne : List PacketRecord → Type 0
RiseByOne [] = Unit {0}
RiseByOne (packet ∷ []) = Unit {0}
RiseByOne (packet ∷ next ∷ packets) = (next.counter ≡ (packet.counter + 1) % 16) × RiseByOne (next ∷ packets)

-- Packets are counted on a PID: the counters of those with payload rise by one, and no packet says that they jump. Packets
-- without payload may have any counter.
pub record AreCounted (pid : ℕ) (packets : List PacketRecord) : Type 0 where
  pub counters : RiseByOne (filter (has_payload_on pid) packets)
  pub continuous : All (λ packet. is_discontinuous packet ≡ false) packets
