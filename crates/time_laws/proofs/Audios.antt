-- The audio PES packets of a stream that are those of a program's file have its frames with their times, and what is sent of them is wanted when they are shown.
use Rattle.std.proofs.Common.{◌≡◌, ◌↔◌, ℕ, ◌+◌, ◌<◌, Bool, true, false, if◌then◌else◌, List, [], ◌∷◌, ◌++◌, All, length, drop, map, None, refl, sym, ap, subst, ◌∙◌, arith, ℤ}
use Rattle.std.specs.List.{flat_map}
use Rattle.std.proofs.lemmas.List.Elements.{All-head, All-tail}
use Rattle.audio_frames.specs.declared.frame.Frame.{Frame}
use Rattle.audio_frames.specs.Times.{AreFramesOf}
use Rattle.pes_units.specs.PesHeader.{pes_fields_of, header_length}
use Rattle.pes_units.specs.PesPackets.{is_dropped, last_refusal, packet_refusal}
use Rattle.version_table.specs.declared.table.AudioPacket.{AudioPacket}
use Rattle.ts_demux.specs.declared.demuxed.AudioStream.{AudioStream}
use Rattle.ts_demux.specs.declared.demuxed.PesUnit.{PesUnit}
use Rattle.elementary_streams.specs.declared.pes_packets.PlacedPacket.{PlacedPacket}
use Rattle.program_reader.specs.declared.program.AudioPiece.{AudioPiece}
use Rattle.program_reader.specs.declared.program.AudioSource.{AudioSource}
use Rattle.program_reader.specs.Audio.{AreAudioSources, ArePieces, HaveFrames, IsAudioSource, placed_pieces}
use Rattle.elementary_streams.specs.Audio.{AreStartsOf, HasFrames, taken_of}
use Rattle.elementary_streams.specs.Packets.{AreSound, joined, pes_payload_of, placed_from, taken}
use Rattle.program_reader.specs.Programs.{IsBase}
use Rattle.program_table.specs.Table.{audio_row}
use Rattle.parsing_laws.specs.Parsed.{bytes_of_packets}
use Rattle.time_laws.specs.Audio.{AreDueAsFramed, AreWantedWhen}
use Rattle.time_laws.proofs.Ticks.{due-shown}

-- an audio PES packet that is taken as the last one is one that is taken among others
abbrev pub WhereverItStands : Type 0
WhereverItStands = (bytes : List ℕ) → (packet_refusal false bytes ≡ None) ↔ ((last_refusal false bytes ≡ None) × (is_dropped false bytes ≡ false))

-- ---- what is taken

abbrev AreWhole : List (List ℕ) → Type 0
AreWhole [] = Unit {0}
AreWhole (bytes ∷ more) = (packet_refusal false bytes ≡ None) × AreWhole more

taken-whole : WhereverItStands → (packets : List PesUnit) → AreSound false packets → AreWhole (bytes_of_packets (taken false packets))
taken-whole law [] sound = tt
taken-whole law (p ∷ []) sound = by_test (is_dropped false p.bytes) refl
  where
    by_test : (dropped : Bool) → is_dropped false p.bytes ≡ dropped → AreWhole (bytes_of_packets (let xs : List PesUnit = if dropped then [] else p ∷ [] in xs))
    by_test true is = tt
    by_test false is = ((law p.bytes).1 (sound.0, is), tt)
taken-whole law (p ∷ q ∷ ps) sound = (sound.0, taken-whole law (q ∷ ps) sound.1)

whole-sound : WhereverItStands → (packets : List PesUnit) → AreWhole (bytes_of_packets packets) → AreSound false packets
whole-sound law [] whole = tt
whole-sound law (p ∷ []) whole = (((law p.bytes).0 whole.0).0, tt)
whole-sound law (p ∷ q ∷ ps) whole = (whole.0, whole-sound law (q ∷ ps) whole.1)

whole-taken : WhereverItStands → (packets : List PesUnit) → AreWhole (bytes_of_packets packets) → taken false packets ≡ packets
whole-taken law [] whole = refl
whole-taken law (p ∷ []) whole = ap (λ (dropped : Bool). let xs : List PesUnit = if dropped then [] else p ∷ [] in xs) ((law p.bytes).0 whole.0).1
whole-taken law (p ∷ q ∷ ps) whole = ap (λ (rest : List PesUnit). p ∷ rest) (whole-taken law (q ∷ ps) whole.1)

-- ---- where they stand, by their bytes alone

placed_bytes : ℕ → List (List ℕ) → List PlacedPacket
placed_bytes from [] = []
placed_bytes from (bytes ∷ more) =
    let payload : List ℕ = drop (header_length bytes) bytes in record { from = from; end = from + length payload; header = pes_fields_of bytes } ∷ placed_bytes (from + length payload) more

placed-by : (from : ℕ) (packets : List PesUnit) → placed_from from packets ≡ placed_bytes from (bytes_of_packets packets)
unfolding placed_bytes
placed-by from [] = refl
placed-by from (p ∷ ps) =
    ap (λ (rest : List PlacedPacket). record { from = from; end = from + length (pes_payload_of p); header = pes_fields_of p.bytes } ∷ rest) (placed-by (from + length (pes_payload_of p)) ps)

joined-by : (packets : List PesUnit) → joined packets ≡ flat_map (λ (bytes : List ℕ). drop (header_length bytes) bytes) (bytes_of_packets packets)
joined-by [] = refl
joined-by (p ∷ ps) = ap (λ (rest : List ℕ). pes_payload_of p ++ rest) (joined-by ps)

-- the stream's PES packets are those of the file that are taken
abbrev pub AreTaken : (out from : AudioStream) → Type 0
AreTaken out from = bytes_of_packets out.units ≡ bytes_of_packets (taken_of from)

pub placed-same : WhereverItStands → (out from : AudioStream) → AreSound false from.units → AreTaken out from → placed_from 0 (taken_of out) ≡ placed_from 0 (taken_of from)
placed-same law out from sound same =
    let whole : AreWhole (bytes_of_packets out.units) = subst AreWhole (sym same) (taken-whole law from.units sound) in
    ap (placed_from 0) (whole-taken law out.units whole) ∙ placed-by 0 out.units ∙ ap (placed_bytes 0) same ∙ sym (placed-by 0 (taken_of from))

joined-same : WhereverItStands → (out from : AudioStream) → AreSound false from.units → AreTaken out from → joined (taken_of out) ≡ joined (taken_of from)
joined-same law out from sound same =
    let whole : AreWhole (bytes_of_packets out.units) = subst AreWhole (sym same) (taken-whole law from.units sound) in
    ap joined (whole-taken law out.units whole) ∙ joined-by out.units ∙ ap (flat_map (λ (bytes : List ℕ). drop (header_length bytes) bytes)) same ∙ sym (joined-by (taken_of from))

-- ---- frames

frames-again : WhereverItStands → (first : ℤ) (out from : AudioStream) (frames : List Frame) → HasFrames first from frames → AreTaken out from → HasFrames first out frames
frames-again law first out from frames has same = record {
  sound = whole-sound law out.units (subst AreWhole (sym same) (taken-whole law from.units has.sound));
  starts = has.starts;
  starts_are = subst (λ (placed : List PlacedPacket). AreStartsOf first placed has.starts) (sym (placed-same law out from has.sound same)) has.starts_are;
  frames_are = subst (λ (bytes : List ℕ). AreFramesOf bytes has.starts frames) (sym (joined-same law out from has.sound same)) has.frames_are;
}

-- streams beside streams
abbrev pub AllTaken : List AudioStream → List AudioStream → Type 0
AllTaken [] [] = Unit {0}
AllTaken (out ∷ outs) (from ∷ more) = AreTaken out from × AllTaken outs more
AllTaken outs from = ⊥

heads : List (List (List ℕ)) → List (List ℕ)
heads [] = []
heads (x ∷ xs) = x

tails : List (List (List ℕ)) → List (List (List ℕ))
tails [] = []
tails (x ∷ xs) = xs

pub all-taken : (outs from : List AudioStream) → map (λ (s : AudioStream). bytes_of_packets s.units) outs ≡ map (λ (s : AudioStream). bytes_of_packets (taken_of s)) from → AllTaken outs from
unfolding heads tails
all-taken [] [] same = tt
all-taken [] (f ∷ fs) same = absurd (let e = ap (length {A = List (List ℕ)}) same in omega (arith, e))
all-taken (o ∷ os) [] same = absurd (let e = ap (length {A = List (List ℕ)}) same in omega (arith, e))
all-taken (o ∷ os) (f ∷ fs) same = (ap heads same, all-taken os fs (ap tails same))

pub have-frames-again : WhereverItStands → (first : ℤ) (outs from : List AudioStream) (frames : List (List Frame)) → AllTaken outs from → HaveFrames first from frames → HaveFrames first outs frames
have-frames-again law first [] [] [] all have = tt
have-frames-again law first [] [] (f ∷ fs) all have = absurd have
have-frames-again law first [] (s ∷ ss) frames all have = absurd all
have-frames-again law first (o ∷ os) [] frames all have = absurd all
have-frames-again law first (o ∷ os) (s ∷ ss) [] all have = absurd have
have-frames-again law first (o ∷ os) (s ∷ ss) (f ∷ fs) all have = (frames-again law first o s f have.0 all.0, have-frames-again law first os ss fs all.1 have.1)

-- ---- what is sent of them

abbrev pub IsEarly : ℕ → Type 0
IsEarly time = time < 2576980377600

abbrev pub ArePiecesEarly : List AudioPiece → Type 0
ArePiecesEarly pieces = All (λ (piece : AudioPiece). IsEarly (let packet : AudioPacket = piece.packet in packet.due)) pieces
    × All (λ (piece : AudioPiece). IsEarly (let packet : AudioPacket = piece.packet in packet.gone)) pieces

-- each audio packet of some sources is due and gone before the clock has gone round
abbrev pub AreEarly : List AudioSource → Type 0
AreEarly sources = All (λ (source : AudioSource). ArePiecesEarly source.pieces) sources

pieces-wanted : (start base : ℕ) (earliest : ℤ) → IsBase start earliest base → (frames : List Frame) (places : List (PlacedPacket × ℕ × ℕ)) (pieces : List AudioPiece)
    → ArePieces start earliest frames places pieces → ArePiecesEarly pieces → AreWantedWhen base frames places (map (λ (piece : AudioPiece). piece.packet) pieces)
pieces-wanted start base earliest is frames [] [] are early = tt
pieces-wanted start base earliest is frames [] (x ∷ xs) are early = absurd are
pieces-wanted start base earliest is frames (place ∷ places) [] are early = absurd are
pieces-wanted start base earliest is frames (place ∷ places) (x ∷ xs) are early =
    let Due : AudioPiece → Type 0 = λ piece. IsEarly (let packet : AudioPacket = piece.packet in packet.due) in
    let Gone : AudioPiece → Type 0 = λ piece. IsEarly (let packet : AudioPacket = piece.packet in packet.gone) in
    let packet : AudioPacket = x.packet in (
      record {
        due = due-shown start base packet.due earliest _ is are.0.due (All-head Due x xs early.0);
        gone = due-shown start base packet.gone earliest _ is are.0.gone (All-head Gone x xs early.1);
        bytes = are.0.bytes;
      },
      pieces-wanted start base earliest is frames places xs are.1 (All-tail Due x xs early.0, All-tail Gone x xs early.1),
    )

pub audios-framed : WhereverItStands → (start base : ℕ) (earliest first : ℤ) → IsBase start earliest base → (outs from : List AudioStream) (frames : List (List Frame)) (sources : List AudioSource)
    → AllTaken outs from → HaveFrames first from frames → AreAudioSources start earliest from frames sources → AreEarly sources → AreDueAsFramed base outs frames (map audio_row sources)
audios-framed law start base earliest first is [] [] [] [] all have are early = tt
audios-framed law start base earliest first is [] [] [] (a ∷ more) all have are early = absurd are
audios-framed law start base earliest first is [] [] (f ∷ fs) sources all have are early = absurd have
audios-framed law start base earliest first is [] (s ∷ ss) frames sources all have are early = absurd all
audios-framed law start base earliest first is (o ∷ os) [] frames sources all have are early = absurd all
audios-framed law start base earliest first is (o ∷ os) (s ∷ ss) [] sources all have are early = absurd have
audios-framed law start base earliest first is (o ∷ os) (s ∷ ss) (f ∷ fs) [] all have are early = absurd are
audios-framed law start base earliest first is (o ∷ os) (s ∷ ss) (f ∷ fs) (a ∷ more) all have are early =
    let source : IsAudioSource start earliest s f a = are.0 in
    let Early : AudioSource → Type 0 = λ source. ArePiecesEarly source.pieces in (
      subst (λ (placed : List PlacedPacket). AreWantedWhen base f (placed_pieces 0 placed) (audio_row a)) (sym (placed-same law o s have.0.sound all.0))
          (pieces-wanted start base earliest is f (placed_pieces 0 (placed_from 0 (taken_of s))) a.pieces source.pieces (All-head Early a more early)),
      audios-framed law start base earliest first is os ss fs more all.1 have.1 are.1 (All-tail Early a more early),
    )
