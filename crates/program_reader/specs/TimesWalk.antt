-- Where a look-up of the times of units stands, while the PES packets of their video pass.
use Rattle.std.specs.Prelude.{◌≡◌, ℕ, ◌<◌, ◌≤◌, List, [], ◌∷◌, length, take, All}
use Rattle.elementary_streams.specs.declared.pes_packets.PlacedPacket.{PlacedPacket}
use Rattle.program_reader.specs.declared.times_walk.TimesWalk.{TimesWalk}

-- the payloads of PES packets stand one behind the other, from a place up to another
abbrev pub Join : ℕ → List PlacedPacket → ℕ → Type 0
Join from [] end = from ≡ end
Join from (packet ∷ packets) end = (packet.from ≡ from) × (from ≤ packet.end) × Join packet.end packets end

-- the pictures and PES packets that are passed by stand before a place
pub record HasPassed (places : List ℕ) (packets : List PlacedPacket) (bound : ℕ) (walk : TimesWalk) : Type 0 where
  pub places_within : walk.place ≤ length places
  pub packets_within : walk.packet ≤ length packets
  pub places_before : All (λ place. place < bound) (take walk.place places)
  pub packets_before : All (λ packet. packet.end ≤ bound) (take walk.packet packets)
