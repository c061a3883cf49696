-- Every file has an answer.
use Rattle.std.proofs.Common.{◌≡◌, ◌≢◌, ℕ, ◌+◌, ◌<◌, ◌≤◌, ◌⊎◌, ◌==◌, inl, inr, Bool, true, false, not, cond, ◌&&◌, List, length, map, Option, Some, None, Result, Ok, Err, refl, sym, ap, ◌∙◌, arith}
use Rattle.std.specs.Prelude.{MatchResult}
use Rattle.std.proofs.lemmas.Bool.{cases_lt}
use Rattle.pes_units.specs.PesHeader.{pes_packet_length}
use Rattle.ts_demux.specs.declared.demuxed.Demuxed.{Demuxed}
use Rattle.program_stream.specs.declared.split_fault.SplitFault.{SplitFault}
use Rattle.program_stream.specs.declared.split_fault.SplitFault.TheVariants.{ShortFile, BadStart, BadPack, BadLength, NoVideo, ProgramLimit, OutOfMemory}
use Rattle.program_stream.specs.Elements.{Element, element_bytes, all_spelled, has_pack_marks, is_video_or_audio, AreElements, IsRefusedAt, no_start, no_element, bad_element, IsFirstRefusal}
use Rattle.program_stream.specs.Streams.{packets_of, stream_with_id, first_video_id, carried_audio_ids, other_stream_ids, map_of}
use Rattle.program_stream.specs.Split.{IsSplit, IsSplitRefused, short_file, element, no_video, audios}

-- a refusal of bytes is no want of memory
refusal_not_memory : (at : ℕ) (rest : List ℕ) (fault : SplitFault) → IsRefusedAt at rest fault → fault ≢ OutOfMemory
refusal_not_memory at rest fault (no_start none is) memory = (let both : BadStart at ≡ OutOfMemory = sym is ∙ memory in cc)
refusal_not_memory at rest fault (no_element refused_one begins low is) memory = (let both : BadStart (at + refused_one.zeros) ≡ OutOfMemory = sym is ∙ memory in cc)
refusal_not_memory at rest fault (bad_element refused_one more begins whole refused) memory =
    by_tests ((refused_one.id == 0xBA) && not (has_pack_marks (element_bytes refused_one))) (is_video_or_audio refused_one.id && (pes_packet_length (element_bytes refused_one) == 0)) (refused ∙ ap Some memory)
  where
    by_tests : (bad_pack bad_length : Bool) → cond bad_pack (Some (BadPack (at + refused_one.zeros))) (cond bad_length (Some (BadLength (at + refused_one.zeros))) None) ≡ Some OutOfMemory → ⊥
    by_tests true bad_length same = cc
    by_tests false true same = cc
    by_tests false false same = cc

abbrev pub HasAnswer : List ℕ → List ℕ → Type 0
HasAnswer file ids = ((demuxed : Demuxed) × (cut : ℕ) × IsSplit file ids demuxed cut) ⊎ ((fault : SplitFault) × (fault ≢ OutOfMemory) × IsSplitRefused file ids fault)

pub short_answer : (file ids : List ℕ) → length file < 14 → HasAnswer file ids
short_answer file ids short = inr (ShortFile 0, (λ memory. cc), short_file short refl)

pub refused_answer : (file ids : List ℕ) (fault : SplitFault) → 14 ≤ length file → IsFirstRefusal file fault → HasAnswer file ids
refused_answer file ids fault long refused = inr (fault, refusal_not_memory (length (all_spelled refused.elements)) refused.rest fault refused.refused, element long refused)

-- its streams are counted out
pub streams_answer : (file ids : List ℕ) (elements : List Element) (cut : ℕ) → 14 ≤ length file → AreElements file elements cut → HasAnswer file ids
streams_answer file ids elements cut long are = by_video (first_video_id elements) refl
  where
    by_video : (video : Option ℕ) → first_video_id elements ≡ video → HasAnswer file ids
    by_video None none = inr (NoVideo 0, (λ memory. cc), no_video elements cut (record { long = long; are = are }) none refl)
    by_video (Some video) there = elim (cases_lt 8 (length (carried_audio_ids ids elements))) [
      | inl many ↦ inr (ProgramLimit 0, (λ memory. cc), audios elements cut video (record { long = long; are = are }) there many refl)
      | inr not_many ↦ inl (
        record {
          map = map_of video (carried_audio_ids ids elements);
          video = packets_of elements video;
          audios = map (stream_with_id elements) (carried_audio_ids ids elements);
          rest = 0;
          not_carried = other_stream_ids ids video elements;
        },
        cut,
        record {
          elements = elements;
          elements_are = record { long = long; are = are };
          video = video;
          video_is = there;
          few = omega (arith, not_many);
          map_is = refl;
          video_packets = refl;
          audio_packets = refl;
          others_are = refl;
          no_rest = refl;
        },
      )
    ]

pub answer : (file ids : List ℕ) (found : Result ℕ SplitFault) → MatchResult found (λ cut. (elements : List Element) × AreElements file elements cut) (IsFirstRefusal file) → HasAnswer file ids
answer file ids found is = elim (cases_lt (length file) 14) [
  | inl short ↦ short_answer file ids short
  | inr long ↦ by_found found (omega (arith, long)) is
]
  where
    by_found : (found : Result ℕ SplitFault) → 14 ≤ length file → MatchResult found (λ cut. (elements : List Element) × AreElements file elements cut) (IsFirstRefusal file) → HasAnswer file ids
    by_found (Ok cut) long is = streams_answer file ids is.0 cut long is.1
    by_found (Err fault) long is = refused_answer file ids fault long is
