-- When a decoder removes the units and frames of a program, by the clock of the file (ISO/IEC 13818-1, 2.4.2.3 and 2.4.3.7).
use Rattle.std.specs.Prelude.{ℕ, ◌+◌, ◌*◌, ◌/◌, ◌%◌, nat_lt, nat_le, Bool, ◌&&◌, filter, List, map, take, sum_by, All, ◌^◌, ℤ, pos, negsuc, ◌+ℤ◌, ◌-ℤ◌, ◌≤ℤ◌}
use Rattle.stream_constants.specs.declared.clock.TheConstants.{TICKS_PER_TIME_UNIT}
use Rattle.pcr_writer.specs.declared.pcr.TheConstants.{PCR_MODULUS}
use Rattle.audio_frames.specs.declared.frame.Frame.{Frame}
use Rattle.tstd_model.specs.declared.decoder_input.Removal.{Removal}
use Rattle.ts_demux.specs.declared.demuxed.PesUnit.{PesUnit}
use Rattle.stream_audit.specs.declared.kept_units.KeptUnits.{KeptUnits}
use Rattle.stream_audit.specs.Clock.{shift}
use Rattle.elementary_streams.specs.declared.pes_packets.PlacedPacket.{PlacedPacket}
use Rattle.elementary_streams.specs.Packets.{placed_from}

-- ---- the time of a removal

-- a time before the file's first byte counts as that byte's
abbrev pub not_before_zero : ℤ → ℕ
not_before_zero (pos ticks) = ticks
not_before_zero (negsuc before) = 0

-- ticks from the file's first byte on up to a time that is due so many ticks behind the program's base, where the file's clock begins at `clock_zero`
abbrev pub removed_at : (clock_zero base : ℕ) → (due : ℤ) → ℕ
removed_at clock_zero base due = not_before_zero (due +ℤ shift clock_zero base)

-- ---- video

-- the units that are kept, each by its due
abbrev pub unit_removals : (clock_zero : ℕ) → KeptUnits → List Removal
unit_removals clock_zero kept = map (λ unit. record { due = removed_at clock_zero kept.base (pos unit.due); bytes = unit.bytes }) kept.units

-- the bytes of all units
abbrev pub bytes_of_units : KeptUnits → ℕ
bytes_of_units kept = sum_by (λ unit. unit.bytes) kept.units

-- ---- audio

-- the due of the first unit
abbrev pub first_due : KeptUnits → ℕ
first_due kept = sum_by (λ unit. unit.due) (take 1 kept.units)

-- the decoding time that it states, in units of 1/90,000 s: what the program's clock shows then
abbrev pub first_time : KeptUnits → ℕ
first_time kept = (kept.base + first_due kept) % PCR_MODULUS / TICKS_PER_TIME_UNIT

-- a PES packet's payload begins within a frame
abbrev pub begins_in : Frame → PlacedPacket → Bool
begins_in frame packet = nat_le frame.at packet.from && nat_lt packet.from (frame.at + frame.len)

-- the header bytes of those PES packets whose payloads begin within a frame
abbrev pub header_bytes_in : Frame → List PlacedPacket → ℕ
header_bytes_in frame packets = sum_by (λ packet. packet.header.len) (filter (begins_in frame) packets)

-- a frame's time as a due: that of the first unit, and the ticks from the program's first video time on
abbrev pub frame_due : KeptUnits → Frame → ℤ
frame_due kept frame = pos (first_due kept) +ℤ (frame.time -ℤ pos (TICKS_PER_TIME_UNIT * first_time kept))

-- no frame is due later than 2^52 ticks, which are five years
abbrev pub AreInTime : KeptUnits → List Frame → Type 0
AreInTime kept frames = All (λ frame. frame_due kept frame ≤ℤ pos (2 ^ 52)) frames

-- the frames of an audio stream, each with the PES headers of the packets that begin in it, by its time
abbrev pub frame_removals : (clock_zero : ℕ) → KeptUnits → List PesUnit → List Frame → List Removal
frame_removals clock_zero kept packets frames =
    map (λ frame. record {
      due = removed_at clock_zero kept.base (frame_due kept frame);
      bytes = frame.len + header_bytes_in frame (placed_from 0 packets);
    }) frames
