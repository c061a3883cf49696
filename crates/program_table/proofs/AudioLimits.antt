-- The audio streams of a table keep its limits: the times of their packets don't fall, and there aren't too many.
use Rattle.std.proofs.Common.{◌≡◌, ℕ, zero, suc, ◌*◌, ◌<◌, ◌≤◌, List, [], ◌∷◌, length, drop, map, All, ℤ, refl, ap, arith}
use Rattle.std.specs.Prelude.{slice_index_or}
use Rattle.std.specs.List.{flat_map}
use Rattle.std.specs.List.Sorted.{IsNonDecreasing}
use Rattle.std.proofs.lemmas.List.{length-append, length-map}
use Rattle.std.proofs.lemmas.List.Elements.{All-cons, All-head, All-nil, All-tail}
use Rattle.std.proofs.lemmas.List.Sums.{sum_by-cons}
use Rattle.audio_frames.specs.declared.frame.Frame.{Frame}
use Rattle.ts_demux.specs.declared.demuxed.AudioStream.{AudioStream}
use Rattle.ts_demux.specs.declared.demuxed.PesUnit.{PesUnit}
use Rattle.version_table.specs.declared.table.AudioPacket.{AudioPacket}
use Rattle.version_table.specs.Table.{IsValidAudio, IsValidPacket}
use Rattle.program_reader.specs.declared.program.AudioPiece.{AudioPiece}
use Rattle.program_reader.specs.declared.program.AudioSource.{AudioSource}
use Rattle.program_reader.specs.Audio.{AreAudioSources, HaveFrames, IsAudioSource, placed_pieces}
use Rattle.elementary_streams.specs.Audio.{HasFrames, taken_of}
use Rattle.elementary_streams.specs.Packets.{joined, placed_from}
use Rattle.job_programs.specs.Programs.{last_time}
use Rattle.job_programs.specs.Share.{audio_packets}
use Rattle.elementary_streams.proofs.StreamLemmas.{taken_payloads}
use Rattle.program_table.specs.Table.{audio_row}
use Rattle.program_table.proofs.AudioTimes.{Follow, InOrder, Reach, Rise, follow-of, pieces-in-order, reach-of, rise-of}

-- ---- numbers that don't fall

-- each number is at least as great as this one, and as the one before
abbrev pub Mount : (low : ℕ) → List ℕ → Type 0
Mount low [] = Unit {0}
Mount low (n ∷ ns) = (low ≤ n) × Mount n ns

mount-lower : (low high : ℕ) (ns : List ℕ) → low ≤ high → Mount high ns → Mount low ns
mount-lower low high [] order mount = tt
mount-lower low high (n ∷ ns) order mount = (omega (arith, order, mount.0), mount.1)

mount-least : (low : ℕ) (ns : List ℕ) (j d : ℕ) → Mount low ns → j < length ns → low ≤ slice_index_or ns j d
mount-least low [] j d mount within = absurd (omega (arith, within))
mount-least low (n ∷ ns) zero d mount within = mount.0
mount-least low (n ∷ ns) (suc j) d mount within =
    let rest : n ≤ slice_index_or ns j d = mount-least n ns j d mount.1 (omega (arith, within)) in omega (arith, rest, mount.0)

pub mount-rises : (low : ℕ) (ns : List ℕ) → Mount low ns → IsNonDecreasing ns
mount-rises low [] mount i j d order within = absurd (omega (arith, within))
mount-rises low (n ∷ ns) mount zero zero d order within = omega arith
mount-rises low (n ∷ ns) mount zero (suc j) d order within = mount-least n ns j d mount.1 (omega (arith, within))
mount-rises low (n ∷ ns) mount (suc i) zero d order within = absurd (omega (arith, order))
mount-rises low (n ∷ ns) mount (suc i) (suc j) d order within = mount-rises n ns mount.1 i j d (omega (arith, order)) (omega (arith, within))

-- ---- the packets of pieces

-- the packets of pieces of an audio stream
abbrev packets_in : List AudioPiece → List AudioPacket
packets_in pieces = map (λ piece. piece.packet) pieces

dues-mount : (low : ℕ) (pieces : List AudioPiece) → InOrder low pieces → Mount low (map (λ packet. packet.due) (packets_in pieces))
dues-mount low [] in_order = tt
dues-mount low (p ∷ ps) in_order =
    (in_order.2, mount-lower p.packet.due p.packet.gone (map (λ packet. packet.due) (packets_in ps)) in_order.3 (dues-mount p.packet.gone ps in_order.4))

gones-mount : (low : ℕ) (pieces : List AudioPiece) → InOrder low pieces → Mount low (map (λ packet. packet.gone) (packets_in pieces))
gones-mount low [] in_order = tt
gones-mount low (p ∷ ps) in_order = (omega (arith, in_order.2, in_order.3), gones-mount p.packet.gone ps in_order.4)

packets-valid : (slot low : ℕ) (pieces : List AudioPiece) → InOrder low pieces → All (λ piece. piece.packet.gone ≤ last_time slot) pieces → All (IsValidPacket slot) (packets_in pieces)
packets-valid slot low [] in_order gones = All-nil (IsValidPacket slot)
packets-valid slot low (p ∷ ps) in_order gones =
    let here : p.packet.gone ≤ last_time slot = All-head (λ (piece : AudioPiece). piece.packet.gone ≤ last_time slot) p ps gones in
    let by_slots : p.packet.gone ≤ 2147483648 * slot = omega (arith, here) in
    All-cons (IsValidPacket slot) p.packet (packets_in ps)
    (record {
      due = in_order.3;
      gone = by_slots;
      some_bytes = in_order.0;
      bytes = in_order.1;
    })
    (packets-valid slot p.packet.gone ps in_order.4 (All-tail (λ (piece : AudioPiece). piece.packet.gone ≤ last_time slot) p ps gones))

-- ---- a stream

stream-in-order : (start : ℕ) (earliest first : ℤ) (stream : AudioStream) (frames : List Frame) (source : AudioSource) → HasFrames first stream frames
    → IsAudioSource start earliest stream frames source → InOrder 0 source.pieces
stream-in-order start earliest first stream frames source has is =
    let packets : List PesUnit = taken_of stream in
    let size : ℕ = length (joined packets) in
    let rise : Rise frames = rise-of frames has.frames_are.rising in
    let reach : (place : ℕ) → place < size → Reach frames place =
    λ place within. reach-of frames 0 size (drop 1 has.frames_are.places) has.frames_are.cover place within in
    let follow : Follow size 0 (placed_pieces 0 (placed_from 0 packets)) =
    follow-of size 0 0 0 packets (taken_payloads stream.units has.sound) (omega arith) (omega arith) in
    pieces-in-order start earliest frames size (placed_pieces 0 (placed_from 0 packets)) source.pieces rise reach is.pieces follow

-- no audio packet of a stream is gone past the last time
abbrev pub AreGoneWithin : (slot : ℕ) → AudioSource → Type 0
AreGoneWithin slot audio = All (λ piece. piece.packet.gone ≤ last_time slot) audio.pieces

stream-valid : (slot start : ℕ) (earliest first : ℤ) (stream : AudioStream) (frames : List Frame) (source : AudioSource) → HasFrames first stream frames
    → IsAudioSource start earliest stream frames source → AreGoneWithin slot source → IsValidAudio slot (audio_row source)
stream-valid slot start earliest first stream frames source has is gones =
    let in_order : InOrder 0 source.pieces = stream-in-order start earliest first stream frames source has is in record {
      each = packets-valid slot 0 source.pieces in_order gones;
      dues = mount-rises 0 (map (λ packet. packet.due) (packets_in source.pieces)) (dues-mount 0 source.pieces in_order);
      gones = mount-rises 0 (map (λ packet. packet.gone) (packets_in source.pieces)) (gones-mount 0 source.pieces in_order);
    }

pub streams-valid : (slot start : ℕ) (earliest first : ℤ) (streams : List AudioStream) (frames : List (List Frame)) (sources : List AudioSource) → HaveFrames first streams frames
    → AreAudioSources start earliest streams frames sources → All (AreGoneWithin slot) sources → All (IsValidAudio slot) (map audio_row sources)
streams-valid slot start earliest first [] [] [] have are gones = All-nil (IsValidAudio slot)
streams-valid slot start earliest first [] [] (s ∷ ss) have are gones = absurd are
streams-valid slot start earliest first [] (f ∷ fs) sources have are gones = absurd have
streams-valid slot start earliest first (x ∷ xs) [] sources have are gones = absurd have
streams-valid slot start earliest first (x ∷ xs) (f ∷ fs) [] have are gones = absurd are
streams-valid slot start earliest first (x ∷ xs) (f ∷ fs) (s ∷ ss) have are gones =
    All-cons (IsValidAudio slot) (audio_row s) (map audio_row ss)
    (stream-valid slot start earliest first x f s have.0 are.0 (All-head (AreGoneWithin slot) s ss gones))
    (streams-valid slot start earliest first xs fs ss have.1 are.1 (All-tail (AreGoneWithin slot) s ss gones))

pub sources-as-many : (start : ℕ) (earliest : ℤ) (streams : List AudioStream) (frames : List (List Frame)) (sources : List AudioSource) → AreAudioSources start earliest streams frames sources
    → length sources ≡ length streams
sources-as-many start earliest [] [] [] are = refl
sources-as-many start earliest [] [] (s ∷ ss) are = absurd are
sources-as-many start earliest [] (f ∷ fs) sources are = absurd are
sources-as-many start earliest (x ∷ xs) [] sources are = absurd are
sources-as-many start earliest (x ∷ xs) (f ∷ fs) [] are = absurd are
sources-as-many start earliest (x ∷ xs) (f ∷ fs) (s ∷ ss) are = ap suc (sources-as-many start earliest xs fs ss are.1)

-- ---- how many

-- the packets of the rows of audio streams are those of the streams
pub rows-packets : (sources : List AudioSource) → length (flat_map (λ packets. packets) (map audio_row sources)) ≡ audio_packets sources
rows-packets [] = refl
rows-packets (s ∷ ss) =
    let rest : length (flat_map (λ packets. packets) (map audio_row ss)) ≡ audio_packets ss = rows-packets ss in
    let own : length (audio_row s) ≡ length s.pieces = length-map s.pieces (λ (piece : AudioPiece). piece.packet) in
    omega (
      arith,
      rest,
      own,
      length-append (audio_row s) (flat_map (λ packets. packets) (map audio_row ss)),
      sum_by-cons (λ (audio : AudioSource). length audio.pieces) s ss,
    )
