-- Worked examples of the definitions.
use Rattle.std.proofs.Common.{◌≡◌, ℕ, ◌+◌, ◌*◌, ◌<◌, Bool, true, false, List, [], ◌∷◌, None, Some, refl, arith, ℤ, pos, ◌+ℤ◌, ◌*ℤ◌}
use Rattle.std.proofs.lemmas.Int.{ints}
use Rattle.bit_lists.specs.Fields.{bit, bits}
use Rattle.syntax_types.specs.declared.picture.PicCoding.{PicCoding}
use Rattle.syntax_types.specs.declared.picture.SeqState.{SeqState}
use Rattle.audio_frames.specs.declared.frame.Frame.{Frame}
use Rattle.ts_packets.specs.Packet.{PacketRecord}
use Rattle.pcr_writer.specs.PcrPacket.{pcr_at}
use Rattle.ts_demux.specs.declared.demuxed.PesUnit.{PesUnit}
use Rattle.elementary_streams.specs.declared.pes_packets.PlacedPacket.{PlacedPacket}
use Rattle.program_reader.specs.declared.timed_picture.Role.{Role}
use Rattle.program_reader.specs.declared.timed_picture.Role.TheVariants as roles
use Rattle.program_reader.specs.Audio.{placed_pieces}
use Rattle.time_laws.specs.Audio.{AreWantedWhen}
use Rattle.time_laws.specs.Clock.{HasPcrIn, IsFirstShown, pcr_of}
use Rattle.time_laws.specs.Video.{BeginAt, DecodedPicture, IsDecodedWhen, stated_time}

-- ---- PCRs: slots of 4,000 ticks, in a stream at whose first byte the clock shows 200 ticks less than a round

null_packet : PacketRecord
null_packet = record { pid = 0x1FFF; start = false; counter = 0; field = None; payload = 0xFF ∷ [] }

-- byte 10 of slot 1 comes 4,212 ticks behind the first byte
with_pcr : PacketRecord
with_pcr = record { pid = 0x101; start = false; counter = 15; field = Some (record { discontinuity = false; pcr = Some 4012 }); payload = [] }

pcr_example : HasPcrIn (null_packet ∷ with_pcr ∷ []) 0x101 1 4012
unfolding null_packet with_pcr
pcr_example = record { packet = with_pcr; there = refl; pid_is = refl; pcr_is = refl }

no_pcr_example : pcr_of null_packet ≡ None
unfolding null_packet
no_pcr_example = refl

wrapped_example : pcr_at 2576980377400 1 4000 ≡ 4012
wrapped_example = refl

-- ---- times shown: a clock that shows 27,000 ticks less than a round at the first byte

shown_example : IsFirstShown 2576980350600 (pos (300 * 0)) 27000
shown_example = record { first = omega arith; shown = (pos 1, refl) }

-- a decoding time of one unit more is shown 300 ticks later, and not then; nor is this time shown a tick later, or a whole round later
one_more_example : IsFirstShown 2576980350600 (pos (300 * 1)) 27300
one_more_example = record { first = omega arith; shown = (pos 1, refl) }

another_time : (turns : ℤ) → pos 2576980377600 ≡ (pos 300 +ℤ turns *ℤ pos 2576980377600) → ⊥
another_time turns same = omega (arith, ints)

another_tick : (turns : ℤ) → pos 2576980377601 ≡ (pos 0 +ℤ turns *ℤ pos 2576980377600) → ⊥
another_tick turns same = omega (arith, ints)

not_then_example : IsFirstShown 2576980350600 (pos (300 * 1)) 27000 → ⊥
not_then_example is = another_time is.shown.0 is.shown.1

not_later_example : IsFirstShown 2576980350600 (pos (300 * 0)) 27001 → ⊥
not_later_example is = another_tick is.shown.0 is.shown.1

not_again_example : IsFirstShown 2576980350600 (pos (300 * 0)) (27000 + 2576980377600) → ⊥
not_again_example is = let first : 27000 + 2576980377600 < 2576980377600 = is.first in omega (arith, first)

-- ---- decoding times of PES headers

-- a PTS of 7,200 and a DTS of 3,600
both : PesUnit
both = record {
  at = 0;
  bytes = 0x00 ∷ 0x00 ∷ 0x01 ∷ 0xE0 ∷ 0x00 ∷ 0x00 ∷ 0x80 ∷ 0xC0 ∷ 0x0A ∷ 0x31 ∷ 0x00 ∷ 0x01 ∷ 0x38 ∷ 0x41 ∷ 0x11 ∷ 0x00 ∷ 0x01 ∷ 0x1C ∷ 0x21 ∷ 0x00 ∷ [];
}

-- a PTS of 3,600, which is the DTS too
one_time : PesUnit
one_time = record { at = 0; bytes = 0x00 ∷ 0x00 ∷ 0x01 ∷ 0xE0 ∷ 0x00 ∷ 0x00 ∷ 0x80 ∷ 0x80 ∷ 0x05 ∷ 0x21 ∷ 0x00 ∷ 0x01 ∷ 0x1C ∷ 0x21 ∷ 0x00 ∷ [] }

no_time : PesUnit
no_time = record { at = 0; bytes = 0x00 ∷ 0x00 ∷ 0x01 ∷ 0xE0 ∷ 0x00 ∷ 0x00 ∷ 0x80 ∷ 0x00 ∷ 0x00 ∷ 0x00 ∷ [] }

both_example : stated_time both ≡ Some 3600
unfolding both bit bits
both_example = refl

one_time_example : BeginAt 3600 (one_time ∷ no_time ∷ [])
unfolding one_time bit bits
one_time_example = refl

no_time_example : stated_time no_time ≡ None
unfolding no_time bit bits
no_time_example = refl

-- ---- pictures without a time, at 25 frames a second, behind one that is decoded 27,000 ticks behind the first byte

module _ (seq : SeqState) (coding : PicCoding) where
  -- a picture of this picture_coding_type, in an interlaced sequence
  abbrev at_25 : Role → (kind : ℕ) → (repeats : Bool) → (at : ℕ) → DecodedPicture
  at_25 role kind repeats at = record {
    seq = record seq { rate_code = 3; progressive = false };
    coding = record coding { kind = kind; repeat_first_field = repeats };
    role = role;
    at = at;
  }

  -- behind the first frame a frame period, though it repeats a field itself
  frame_example : IsDecodedWhen 2576980350600 (at_25 roles.Frame 1 true 27000 ∷ []) None 1107000
  frame_example = refl

  -- behind a P frame what the I frame before it is shown for, which repeats a field; behind a B frame what it is shown for itself
  after_repeat_example : IsDecodedWhen 2576980350600 (at_25 roles.Frame 2 false 27000 ∷ at_25 roles.Frame 1 true 0 ∷ []) None 1647000
  after_repeat_example = refl

  b_example : IsDecodedWhen 2576980350600 (at_25 roles.Frame 3 false 27000 ∷ at_25 roles.Frame 2 true 0 ∷ []) None 1107000
  b_example = refl

  not_later_than_b_example : IsDecodedWhen 2576980350600 (at_25 roles.Frame 3 false 27000 ∷ at_25 roles.Frame 2 true 0 ∷ []) None 1647000 → ⊥
  not_later_than_b_example is = let same : 1647000 ≡ 1107000 = is in omega (arith, same)

  field_example : IsDecodedWhen 2576980350600 (at_25 roles.FirstField 1 false 27000 ∷ []) None 567000
  field_example = refl

-- the first picture has a time
first_example : IsDecodedWhen 2576980350600 [] None 27000 → ⊥
first_example none = none

-- with a time, what stands before it doesn't matter
stated_example : (before : DecodedPicture) → IsDecodedWhen 2576980350600 (before ∷ []) (Some 0) 27000
stated_example before = shown_example

-- ---- audio: one PES packet of a header of 14 bytes and 400 bytes behind it, with two frames of 200 bytes, one at 0 and one 24 ms later

frames : List Frame
frames = record { at = 0; len = 200; time = pos 0 } ∷ record { at = 200; len = 200; time = pos 648000 } ∷ []

packet : PlacedPacket
packet = record { from = 0; end = 400; header = record { stream_id = 0xC0; stated = 408; times = record { pts = Some 0; dts = None }; len = 14 } }

first_time : IsFirstShown 2576980350600 (pos 0) 27000
first_time = record { first = omega arith; shown = (pos 1, refl) }

second_time : IsFirstShown 2576980350600 (pos 648000) 675000
second_time = record { first = omega arith; shown = (pos 1, refl) }

-- three pieces, the middle one of which ends the first frame and begins the second
audio_example : AreWantedWhen 2576980350600 frames (placed_pieces 0 (packet ∷ []))
    (record { due = 27000; gone = 27000; bytes = 184 } ∷ record { due = 27000; gone = 675000; bytes = 184 } ∷ record { due = 675000; gone = 675000; bytes = 46 } ∷ [])
unfolding frames packet
audio_example = (
  record { due = first_time; gone = first_time; bytes = refl },
  (record { due = first_time; gone = second_time; bytes = refl }, (record { due = second_time; gone = second_time; bytes = refl }, tt)),
)
