-- The audio streams of a program that is read again: their pieces are due and gone as much later as the program's first time is.
use Rattle.std.proofs.Common.{◌≡◌, ◌⊎◌, ℕ, ◌+◌, ◌-◌, ◌<◌, ◌≤◌, nat_lt, Bool, true, false, List, [], ◌∷◌, ◌++◌, All, length, map, drop, refl, sym, subst, inl, inr, arith, ℤ, pos, ◌+ℤ◌, ◌-ℤ◌, ◌≤ℤ◌}
use Rattle.std.specs.List.{flat_map}
use Rattle.std.proofs.lemmas.Bool.{ltb-false}
use Rattle.std.proofs.lemmas.Int.{ints}
use Rattle.std.proofs.lemmas.List.Elements.{All-head, All-tail}
use Rattle.audio_frames.specs.declared.frame.Frame.{Frame}
use Rattle.ts_demux.specs.declared.demuxed.AudioStream.{AudioStream}
use Rattle.ts_demux.specs.declared.demuxed.PesUnit.{PesUnit}
use Rattle.elementary_streams.specs.declared.pes_packets.PlacedPacket.{PlacedPacket}
use Rattle.elementary_streams.specs.Audio.{taken_of}
use Rattle.elementary_streams.specs.Packets.{joined, placed_from}
use Rattle.elementary_streams.proofs.StreamLemmas.{taken_payloads}
use Rattle.program_reader.specs.declared.program.AudioPiece.{AudioPiece}
use Rattle.program_reader.specs.declared.program.AudioSource.{AudioSource}
use Rattle.program_reader.specs.Audio.{AreAudioSources, ArePieces, HaveFrames, IsAudioSource, IsDue, IsPiece, packet_size, piece_size, placed_pieces, time_of_byte}
use Rattle.program_table.proofs.AudioTimes.{Follow, Reach, first_byte, follow-of, last_byte, reach-of, time_from}
use Rattle.time_laws.proofs.Audios.{AllTaken, WhereverItStands, placed-same}

-- ---- times from the earliest one on

-- none is earlier
abbrev pub AreFrom : ℤ → List ℤ → Type 0
AreFrom earliest [] = Unit {0}
AreFrom earliest (time ∷ times) = (earliest ≤ℤ time) × AreFrom earliest times

pub from-all : (earliest : ℤ) (times : List ℤ) → All (λ (time : ℤ). earliest ≤ℤ time) times → AreFrom earliest times
from-all earliest [] all = tt
from-all earliest (t ∷ ts) all = (All-head (λ (time : ℤ). earliest ≤ℤ time) t ts all, from-all earliest ts (All-tail (λ (time : ℤ). earliest ≤ℤ time) t ts all))

pub from-front : (earliest : ℤ) (front behind : List ℤ) → AreFrom earliest (front ++ behind) → AreFrom earliest front
from-front earliest [] behind are = tt
from-front earliest (t ∷ ts) behind are = (are.0, from-front earliest ts behind are.1)

pub from-behind : (earliest : ℤ) (front behind : List ℤ) → AreFrom earliest (front ++ behind) → AreFrom earliest behind
from-behind earliest [] behind are = are
from-behind earliest (t ∷ ts) behind are = from-behind earliest ts behind are.1

-- the frame that a byte counts with isn't earlier
byte-from : (earliest : ℤ) (frames : List Frame) (place : ℕ) → AreFrom earliest (map (λ (frame : Frame). frame.time) frames) → Reach frames place → earliest ≤ℤ time_of_byte frames place
byte-from earliest [] place are reach = absurd reach
byte-from earliest (f ∷ fs) place are reach = by_test (λ later. byte-from earliest fs place are.1 later) (nat_lt place (f.at + f.len)) refl
  where
    behind : f.at + f.len ≤ place → (place < f.at + f.len) ⊎ Reach fs place → Reach fs place
    behind past (inl here) = absurd (omega (arith, past, here))
    behind past (inr there) = there

    by_test : (Reach fs place → earliest ≤ℤ time_of_byte fs place) → (here : Bool) → nat_lt place (f.at + f.len) ≡ here → earliest ≤ℤ time_from f fs place here
    by_test rest true is = are.0
    by_test rest false is = rest (behind (ltb-false place (f.at + f.len) is) reach)

-- ---- what is due as much later

pub shifted : (start to : ℕ) → (due : ℕ) → ℕ
shifted start to due = due + to - start

late-enough : (start due : ℕ) (earliest time : ℤ) → pos due ≡ ((pos start +ℤ time) -ℤ earliest) → earliest ≤ℤ time → start ≤ due
late-enough start due earliest time is order = omega (arith, ints, is, order)

moved-by : (start to due moved : ℕ) (earliest time : ℤ) → pos due ≡ ((pos start +ℤ time) -ℤ earliest) → moved + start ≡ due + to → pos moved ≡ ((pos to +ℤ time) -ℤ earliest)
moved-by start to due moved earliest time is sum = omega (arith, ints, is, sum)

pub shift-sum : (start to due : ℕ) → start ≤ due → shifted start to due + start ≡ due + to
unfolding shifted
shift-sum start to due low = omega (arith, low)

pub shifted-most : (start to due : ℕ) → shifted start to due ≤ due + to
unfolding shifted
shifted-most start to due = omega arith

pub due-enough : (start due : ℕ) (earliest time : ℤ) → IsDue start earliest time due → earliest ≤ℤ time → start ≤ due
due-enough start due earliest time is order = late-enough start due earliest time is order

pub due-shifted : (start to due : ℕ) (earliest time : ℤ) → IsDue start earliest time due → earliest ≤ℤ time → IsDue to earliest time (shifted start to due)
due-shifted start to due earliest time is order = moved-by start to due (shifted start to due) earliest time is (shift-sum start to due (late-enough start due earliest time is order))

-- ---- pieces

abbrev pub moved_piece : (start to : ℕ) → AudioPiece → AudioPiece
moved_piece start to piece = record {
  packet = record { due = shifted start to piece.packet.due; gone = shifted start to piece.packet.gone; bytes = piece.packet.bytes };
  start = piece.start;
  at = piece.at;
}

pieces-shifted : (start to : ℕ) (earliest : ℤ) (frames : List Frame) (size low : ℕ) (places : List (PlacedPacket × ℕ × ℕ)) (pieces : List AudioPiece)
    → AreFrom earliest (map (λ (frame : Frame). frame.time) frames) → ((place : ℕ) → place < size → Reach frames place) → ArePieces start earliest frames places pieces → Follow size low places
    → ArePieces to earliest frames places (map (moved_piece start to) pieces)
pieces-shifted start to earliest frames size low [] [] times reach are follow = tt
pieces-shifted start to earliest frames size low [] (x ∷ xs) times reach are follow = absurd are
pieces-shifted start to earliest frames size low (p ∷ ps) [] times reach are follow = absurd are
pieces-shifted start to earliest frames size low (p ∷ ps) (x ∷ xs) times reach are follow =
    let is : IsPiece start earliest frames p.0 p.1 p.2 (piece_size (packet_size p.0) p.2) x = are.0 in
    let last : earliest ≤ℤ time_of_byte frames (last_byte p) = byte-from earliest frames (last_byte p) times (reach (last_byte p) follow.4) in
    let first : earliest ≤ℤ time_of_byte frames (first_byte p) = byte-from earliest frames (first_byte p) times (reach (first_byte p) (omega (arith, follow.3, follow.4))) in (
      record {
        due = due-shifted start to x.packet.due earliest (time_of_byte frames (first_byte p)) is.due first;
        gone = due-shifted start to x.packet.gone earliest (time_of_byte frames (last_byte p)) is.gone last;
        bytes = is.bytes;
        begins = is.begins;
        at_is = is.at_is;
      },
      pieces-shifted start to earliest frames size (last_byte p) ps xs times reach are.1 follow.5,
    )

-- ---- streams

abbrev pub all_moved : (start to : ℕ) → List AudioStream → List AudioSource → List AudioSource
all_moved start to (out ∷ outs) (source ∷ sources) =
    record { bytes = flat_map (λ (packet : PesUnit). packet.bytes) (taken_of out); pieces = map (moved_piece start to) source.pieces } ∷ all_moved start to outs sources
all_moved start to outs sources = []

pub audios-again : WhereverItStands → (start to : ℕ) (earliest first : ℤ) (outs from : List AudioStream) (frames : List (List Frame)) (sources : List AudioSource) → AllTaken outs from
    → HaveFrames first from frames → AreFrom earliest (flat_map (map (λ (frame : Frame). frame.time)) frames) → AreAudioSources start earliest from frames sources
    → AreAudioSources to earliest outs frames (all_moved start to outs sources)
audios-again law start to earliest first [] [] [] [] all have times are = tt
audios-again law start to earliest first [] [] [] (a ∷ more) all have times are = absurd are
audios-again law start to earliest first [] [] (f ∷ fs) sources all have times are = absurd have
audios-again law start to earliest first [] (s ∷ ss) frames sources all have times are = absurd all
audios-again law start to earliest first (o ∷ os) [] frames sources all have times are = absurd all
audios-again law start to earliest first (o ∷ os) (s ∷ ss) [] sources all have times are = absurd have
audios-again law start to earliest first (o ∷ os) (s ∷ ss) (f ∷ fs) [] all have times are = absurd are
audios-again law start to earliest first (o ∷ os) (s ∷ ss) (f ∷ fs) (a ∷ more) all have times are =
    let source : IsAudioSource start earliest s f a = are.0 in
    let own : AreFrom earliest (map (λ (frame : Frame). frame.time) f) = from-front earliest (map (λ (frame : Frame). frame.time) f) (flat_map (map (λ (frame : Frame). frame.time)) fs) times in
    let size : ℕ = length (joined (taken_of s)) in
    let reach : (place : ℕ) → place < size → Reach f place = λ place inside. reach-of f 0 size (drop 1 have.0.frames_are.places) have.0.frames_are.cover place inside in
    let follow : Follow size 0 (placed_pieces 0 (placed_from 0 (taken_of s))) = follow-of size 0 0 0 (taken_of s) (taken_payloads s.units have.0.sound) (omega arith) (omega arith) in (
      record {
        bytes = refl;
        pieces = subst (λ (placed : List PlacedPacket). ArePieces to earliest f (placed_pieces 0 placed) (map (moved_piece start to) a.pieces)) (sym (placed-same law o s have.0.sound all.0))
            (pieces-shifted start to earliest f size 0 (placed_pieces 0 (placed_from 0 (taken_of s))) a.pieces own reach source.pieces follow);
      },
      audios-again law start to earliest first os ss fs more all.1 have.1
          (from-behind earliest (map (λ (frame : Frame). frame.time) f) (flat_map (map (λ (frame : Frame). frame.time)) fs) times) are.1,
    )
