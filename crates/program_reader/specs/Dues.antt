-- Times of a program: how far from 0 they are, which is the earliest one, and what is due by it.
use Rattle.std.specs.Prelude.{◌≡◌, ◌⊎◌, ℕ, ◌<◌, ◌≤◌, ◌^◌, List, [], ◌∷◌, map, All, Contains, ℤ, ◌≤ℤ◌}
use Rattle.std.specs.List.{flat_map}
use Rattle.audio_frames.specs.declared.frame.Frame.{Frame}
use Rattle.elementary_streams.specs.declared.audio_stream.ReadStream.{ReadStream}
use Rattle.elementary_streams.specs.declared.pes_packets.PlacedPacket.{PlacedPacket}
use Rattle.elementary_streams.specs.NearTimes.{IsTime}
use Rattle.program_reader.specs.declared.kept_units.KeptUnit.{KeptUnit}
use Rattle.program_reader.specs.declared.program.UnitSource.{UnitSource}
use Rattle.program_reader.specs.Audio.{IsDue, packet_size, payload_place, time_of_byte}

-- a time that is far from the ends of 64 bits, and no earlier than another one
pub record IsTimeFrom (earliest time : ℤ) : Type 0 where
  pub is_time : IsTime time
  pub order : earliest ≤ℤ time

-- the earliest of a time and some others
pub record Lowers (times : List ℤ) (before after : ℤ) : Type 0 where
  pub least : All (λ time. after ≤ℤ time) times
  pub below : after ≤ℤ before
  pub stands : (after ≡ before) ⊎ Contains times after

-- a unit with its due time
pub record IsDueUnit (start : ℕ) (earliest : ℤ) (unit : KeptUnit) (source : UnitSource) : Type 0 where
  pub begin : source.begin ≡ unit.begin
  pub end : source.end ≡ unit.end
  pub times : source.times ≡ unit.times
  pub due : IsDue start earliest unit.ticks source.due
  pub kind : source.kind ≡ unit.kind
  pub role : source.role ≡ unit.role

-- units with theirs
abbrev pub AreDueUnits : ℕ → ℤ → List KeptUnit → List UnitSource → Type 0
AreDueUnits start earliest [] [] = Unit {0}
AreDueUnits start earliest (unit ∷ units) (source ∷ sources) = IsDueUnit start earliest unit source × AreDueUnits start earliest units sources
AreDueUnits start earliest units sources = ⊥

-- the times of the frames of streams, in ticks
abbrev pub frame_times : List ReadStream → List ℤ
frame_times read = flat_map (λ one. map (λ frame. frame.time) one.frames) read

-- PES packets, each with payload bytes, whose payloads stand behind a place one behind the other
abbrev pub Follow : ℕ → List PlacedPacket → Type 0
Follow from [] = Unit {0}
Follow from (packet ∷ packets) = (from ≤ packet.from) × (packet.from < packet.end) × (packet.end < 2 ^ 41) × Follow packet.end packets

-- each byte of a PES packet has a time that isn't before the earliest one
abbrev pub HasTimes : ℤ → List Frame → PlacedPacket → Type 0
HasTimes earliest frames packet = (byte : ℕ) → byte < packet_size packet → IsTimeFrom earliest (time_of_byte frames (payload_place packet byte))
