-- The frames of an audio stream and the headers that stand in them, one after the other; no public clause cites these.
use Rattle.std.specs.Prelude.{◌≡◌, ℕ, ◌+◌, ◌-◌, ◌<◌, ◌≤◌, ◌^◌, List, [], ◌∷◌, ◌++◌, All, ℤ, pos, neg_ℤ, ◌+ℤ◌, ◌≤ℤ◌}
use Rattle.std.specs.List.{sum_by}
use Rattle.audio_frames.specs.declared.frame.Frame.{Frame}
use Rattle.tstd_model.specs.declared.decoder_input.Removal.{Removal}
use Rattle.stream_audit.specs.declared.frame_removals.FrameClock.{FrameClock}
use Rattle.elementary_streams.specs.declared.pes_packets.PlacedPacket.{PlacedPacket}
use Rattle.stream_audit.specs.Removals.{header_bytes_in, removed_at}

-- each frame begins where the one before ends, the first one at a place
abbrev pub AreChained : ℕ → List Frame → Type 0
AreChained at [] = Unit {0}
AreChained at (frame ∷ frames) = (frame.at ≡ at) × AreChained (frame.at + frame.len) frames

-- payloads begin at a place or behind it, each later one no earlier
abbrev pub Climb : ℕ → List PlacedPacket → Type 0
Climb at [] = Unit {0}
Climb at (packet ∷ packets) = (at ≤ packet.from) × Climb packet.from packets

-- the first packet, where there is one, doesn't begin before a place
abbrev pub AreBehind : ℕ → List PlacedPacket → Type 0
AreBehind end [] = Unit {0}
AreBehind end (packet ∷ packets) = end ≤ packet.from

-- the header bytes of the first packets, whose payloads begin before a place, and the packets behind them, the first of which doesn't begin before it
pub record CountsHeaders (end : ℕ) (was : List PlacedPacket) (bytes : ℕ) (now : List PlacedPacket) : Type 0 where
  pub passed : List PlacedPacket
  pub split : was ≡ passed ++ now
  pub before : All (λ packet. packet.from < end) passed
  pub bytes_are : bytes ≡ sum_by (λ packet. packet.header.len) passed
  pub next : AreBehind end now

-- a due that is far from the ends of 64 bits, and not too late to be judged
pub record FallsWithin (due : ℤ) : Type 0 where
  pub least : neg_ℤ (pos (2 ^ 63 - 2 ^ 40)) ≤ℤ due
  pub most : due ≤ℤ pos (2 ^ 52)

-- the due of a first unit, less the time that it states
pub record IsOffset (offset : ℤ) : Type 0 where
  pub least : neg_ℤ (pos (2 ^ 52)) ≤ℤ offset
  pub most : offset ≤ℤ pos (2 ^ 52)

-- what a frame removes, by a clock
abbrev pub frame_removal : FrameClock → List PlacedPacket → Frame → Removal
frame_removal clock packets frame = record {
  due = removed_at clock.zero clock.base (frame.time +ℤ clock.offset);
  bytes = frame.len + header_bytes_in frame packets;
}
