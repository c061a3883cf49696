-- What a walk over the PES packets of an audio stream has read of it. `HasRead` links its calls: a new one has it of no packet, each `take` hands it on, and `end`
-- says what it is worth.
use Rattle.std.specs.Prelude.{◌≡◌, ℕ, ◌<◌, ◌≤◌, Bool, false, List, ◌∷◌, ◌++◌, length, drop, All, Option, Some, None}
use Rattle.audio_frames.specs.Frames.{has_low_rate}
use Rattle.audio_frames.specs.Walk.{IsWalked, NeverFirst}
use Rattle.pes_units.specs.PesPackets.{packet_refusal}
use Rattle.ts_demux.specs.declared.demuxed.PesUnit.{PesUnit}
use Rattle.elementary_streams.specs.declared.stream_fault.StreamFault.{StreamFault}
use Rattle.elementary_streams.specs.Packets.{IsPacketFault, joined, placed_from}
use Rattle.audio_walk.specs.declared.first_rate.FirstRate.{FirstRate}
use Rattle.audio_walk.specs.declared.walk.AudioWalk.{AudioWalk}

-- ---- how much it has taken

-- how many PES packets are taken
abbrev pub packet_count : AudioWalk → ℕ
packet_count walk = length walk.packets.items

-- how many bytes their payloads have
abbrev pub payload_bytes : AudioWalk → ℕ
payload_bytes walk = walk.bytes

-- ---- the sampling rate of the first frame

-- bytes that are kept from a place on, before which no first frame begins; or, once it is known, whether its rate is low
abbrev pub IsRateOf : (payload kept : List ℕ) → Option Bool → Type 0
IsRateOf payload kept None = (from : ℕ) × (from ≤ length payload) × (drop from payload ≡ kept) × ((k : ℕ) → k < from → NeverFirst payload k)
IsRateOf payload kept (Some low) = (more : List ℕ) → has_low_rate (payload ++ more) ≡ low

-- what is known of it behind these bytes
abbrev pub HasRate : List ℕ → FirstRate → Type 0
HasRate payload rate = IsRateOf payload rate.bytes.items rate.low

-- ---- the walk

-- these PES packets are placed, and the bytes of their payloads have come
pub record IsPlaced (packets : List PesUnit) (walk : AudioWalk) : Type 0 where
  pub placed : walk.packets.items ≡ placed_from 0 packets
  pub bytes : walk.bytes ≡ length (joined packets)
  pub walked : IsWalked (joined packets) walk.frames
  pub rate : HasRate (joined packets) walk.rate

-- A walk has read these PES packets, none of which has a fault where another one follows it.
pub record HasRead (packets : List PesUnit) (walk : AudioWalk) : Type 0 where
  pub sound : All (λ packet. packet_refusal false packet.bytes ≡ None) packets
  pub placed : IsPlaced packets walk

-- whatever packets follow this one, it is the first of the stream that has a fault, and has this one
abbrev pub IsFaultBefore : List PesUnit → PesUnit → StreamFault → Type 0
IsFaultBefore packets packet fault = (next : PesUnit) (more : List PesUnit) → IsPacketFault false (packets ++ packet ∷ next ∷ more) fault
