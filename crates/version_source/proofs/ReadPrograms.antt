-- A program that was read can be sent.
use Rattle.std.proofs.Common.{
  ◌≡◌,
  ℕ,
  zero,
  suc,
  ◌+◌,
  ◌*◌,
  ◌/◌,
  ◌<◌,
  ◌≤◌,
  ◌^◌,
  ◌==◌,
  nat_le,
  Bool,
  true,
  false,
  cond,
  List,
  [],
  ◌∷◌,
  ◌++◌,
  length,
  map,
  All,
  Option,
  Some,
  None,
  ℤ,
  refl,
  ap,
  ap₂,
  subst,
  sym,
  ◌∙◌,
  arith,
  if◌then◌else◌,
}
use Rattle.std.specs.Prelude.{slice_range}
use Rattle.std.specs.List.{find, flat_map, range_with_len}
use Rattle.std.specs.Option.{option_map_or}
use Rattle.std.proofs.lemmas.Bool.{eqb-true}
use Rattle.std.proofs.lemmas.List.{length-append, length-drop}
use Rattle.std.proofs.lemmas.List.Elements.{All-append, All-cons, All-head, All-map, All-nil, All-tail}
use Rattle.audio_frames.specs.declared.frame.Frame.{Frame}
use Rattle.bit_lists.specs.Fields.{bits}
use Rattle.bit_lists.proofs.WordLemmas.{bits_below}
use Rattle.pes_units.specs.declared.times.Times.{Times}
use Rattle.pes_units.specs.PesHeader.{header_length}
use Rattle.pes_units.specs.Times.{pts_dts_flags, time_at, times_of}
use Rattle.pes_units.specs.VideoHeader.{AreInRange, IsBesidePts}
use Rattle.ts_demux.specs.declared.demuxed.AudioStream.{AudioStream}
use Rattle.ts_demux.specs.declared.demuxed.Demuxed.{Demuxed}
use Rattle.ts_demux.specs.declared.demuxed.PesUnit.{PesUnit}
use Rattle.elementary_streams.specs.declared.pes_packets.PlacedPacket.{PlacedPacket}
use Rattle.program_reader.specs.declared.program.AudioPiece.{AudioPiece}
use Rattle.program_reader.specs.declared.program.AudioSource.{AudioSource}
use Rattle.program_reader.specs.declared.program.Program.{Program}
use Rattle.program_reader.specs.declared.program.UnitSource.{UnitSource}
use Rattle.program_reader.specs.declared.timed_picture.TimedPicture.{TimedPicture}
use Rattle.program_reader.specs.Audio.{AreAudioSources, ArePieces, HaveFrames, IsAudioSource, IsPiece, packet_size, piece_places, piece_size, placed_pieces}
use Rattle.elementary_streams.specs.Audio.{taken_of}
use Rattle.elementary_streams.specs.Packets.{pes_payload_of, placed_from, taken}
use Rattle.es_units.specs.Pictures.{first_picture}
use Rattle.program_reader.specs.PictureTimes.{is_first_picture_in, no_times, times_at, times_of_unit}
use Rattle.program_reader.specs.Programs.{AreUnitSources, IsProgram, video_bytes, video_packets}
use Rattle.picture_reader.specs.Picture.{IsPictureOf}
use Rattle.program_reader.specs.Intervals.{nearest}
use Rattle.program_reader.specs.Units.{AreInOrder, AreKept, all, but_last, state_behind}
use Rattle.program_reader.specs.Private.KeptUnits.{Fits}
use Rattle.program_reader.proofs.CutLemmas.{cuts_fit}
use Rattle.elementary_streams.proofs.StreamLemmas.{HasPayload, taken_payloads}
use Rattle.elementary_streams.proofs.TakenLemmas.{placed_at}
use Rattle.version_source.specs.Sendable.{IsPieceOf, IsSendable, IsUnitOf, SpellInOrder}

-- ---- times

-- times that a PES header can say
abbrev CanBeSaid : Times → Type 0
CanBeSaid times = AreInRange times × IsBesidePts times

nothing-said : CanBeSaid no_times
nothing-said = ((tt, tt), λ h. h)

sum-below : (a b c : ℕ) → a < 8 → b < 32768 → c < 32768 → 1073741824 * a + 32768 * b + c < 8589934592
sum-below a b c high middle low = omega arith

time-below : (bytes : List ℕ) (place : ℕ) → time_at bytes place < 2 ^ 33
time-below bytes place =
    sum-below (bits bytes (8 * place + 4) 3) (bits bytes (8 * place + 8) 15) (bits bytes (8 * place + 24) 15) (bits_below bytes (8 * place + 4) 3) (bits_below bytes (8 * place + 8) 15)
    (bits_below bytes (8 * place + 24) 15)

header-said : (bytes : List ℕ) → CanBeSaid (times_of bytes)
header-said bytes = by_flags (nat_le 2 (pts_dts_flags bytes)) (pts_dts_flags bytes == 3) refl refl
  where
    apart : (n : ℕ) → nat_le 2 n ≡ false → (n == 3) ≡ true → ⊥
    apart n few three = let bad : nat_le 2 3 ≡ false = subst (λ (k : ℕ). nat_le 2 k ≡ false) (eqb-true n 3 three) few in cc

    by_flags : (pts both : Bool) → nat_le 2 (pts_dts_flags bytes) ≡ pts → (pts_dts_flags bytes == 3) ≡ both
        → CanBeSaid (record { pts = if pts then Some (time_at bytes 9) else None; dts = if both then Some (time_at bytes 14) else None })
    by_flags true true some two = ((time-below bytes 9, time-below bytes 14), λ h. refl)
    by_flags true false some two = ((time-below bytes 9, tt), λ h. refl)
    by_flags false true some two = absurd (apart (pts_dts_flags bytes) some two)
    by_flags false false some two = ((tt, tt), λ h. h)

picture-said : (es : List ℕ) (from : ℕ) (packets : List PesUnit) (at : ℕ) → CanBeSaid (times_at es (placed_from from packets) at)
picture-said es from [] at = nothing-said
picture-said es from (p ∷ ps) at = by_test (is_first_picture_in es at (placed_at from p)) (picture-said es (from + length (pes_payload_of p)) ps at)
  where
    by_test : (here : Bool) → CanBeSaid (option_map_or (λ packet. packet.header.times) (find (is_first_picture_in es at) (placed_from (from + length (pes_payload_of p)) ps)) no_times)
        → CanBeSaid (option_map_or (λ packet. packet.header.times) (cond here (Some (placed_at from p)) (find (is_first_picture_in es at) (placed_from (from + length (pes_payload_of p)) ps))) no_times)
    by_test true later = header-said p.bytes
    by_test false later = later

unit-said : (es : List ℕ) (packets : List PesUnit) (unit : ℕ × ℕ) → CanBeSaid (times_of_unit es (placed_from 0 packets) unit)
unit-said es packets unit = by_first (first_picture es unit.0 unit.1)
  where
    by_first : (first : Option ℕ) → CanBeSaid (option_map_or (times_at es (placed_from 0 packets)) first no_times)
    by_first None = nothing-said
    by_first (Some at) = picture-said es 0 packets at

-- ---- units

fits-front : (size from : ℕ) (front behind : List (ℕ × ℕ)) → Fits size from (front ++ behind) → Fits size from front
fits-front size from [] behind fits = tt
fits-front size from (unit ∷ units) behind fits = (fits.0, fits.1, fits.2, fits-front size unit.1 units behind fits.3)

-- units stand one behind the other, as pictures in order
abbrev StandInOrder : List ℕ → List PlacedPacket → List (ℕ × ℕ) → List TimedPicture → Type 0
StandInOrder es packets units pictures = Fits (length es) 0 units × AreInOrder es packets [] units pictures

kept-stand : (es : List ℕ) (packets : List PlacedPacket) (units kept : List (ℕ × ℕ)) (pictures : List TimedPicture) (dropped : ℕ) → Fits (length es) 0 units
    → AreKept es packets units kept pictures dropped → StandInOrder es packets kept pictures
kept-stand es packets units kept pictures dropped fits (all same in_order none) = (subst (Fits (length es) 0) same fits, in_order)
kept-stand es packets units kept pictures dropped fits (but_last last refusal at split in_order broken count) =
    (fits-front (length es) 0 kept (last ∷ []) (subst (Fits (length es) 0) split fits), in_order)

units-stand : (start : ℕ) (earliest : ℤ) (es : List ℕ) (packets : List PesUnit) (earlier : List TimedPicture) (from : ℕ) (units : List (ℕ × ℕ)) (pictures : List TimedPicture)
    (sources : List UnitSource) → AreUnitSources start earliest units pictures sources → Fits (length es) from units → AreInOrder es (placed_from 0 packets) earlier units pictures
    → All (IsUnitOf es) sources
units-stand start earliest es packets earlier from [] [] [] are fits in_order = All-nil (IsUnitOf es)
units-stand start earliest es packets earlier from [] [] (s ∷ ss) are fits in_order = absurd are
units-stand start earliest es packets earlier from [] (p ∷ ps) sources are fits in_order = absurd are
units-stand start earliest es packets earlier from (u ∷ us) [] sources are fits in_order = absurd are
units-stand start earliest es packets earlier from (u ∷ us) (p ∷ ps) [] are fits in_order = absurd are
units-stand start earliest es packets earlier from (unit ∷ units) (picture ∷ pictures) (source ∷ sources) (begins, ends, times, due, kind, role, are) (after, order, inside, fits) (next, in_order) =
    let said : CanBeSaid source.times = subst CanBeSaid (sym (times ∙ next.times_are)) (unit-said es packets unit) in
    let here : IsUnitOf es source = record {
      order = omega (arith, begins, ends, order);
      inside = omega (arith, ends, inside);
      short = (let short = next.short in omega (arith, begins, ends, short));
      in_range = said.0;
      beside = said.1;
    } in
    All-cons (IsUnitOf es) source sources here (units-stand start earliest es packets (picture ∷ earlier) unit.1 units pictures sources are fits in_order)

spell-in-order : (start : ℕ) (earliest : ℤ) (es : List ℕ) (packets : List PlacedPacket) (earlier : List TimedPicture) (units : List (ℕ × ℕ)) (pictures : List TimedPicture)
    (sources : List UnitSource) → AreUnitSources start earliest units pictures sources → AreInOrder es packets earlier units pictures → SpellInOrder es (state_behind (nearest earlier)) sources
spell-in-order start earliest es packets earlier [] [] [] are in_order = tt
spell-in-order start earliest es packets earlier [] [] (s ∷ ss) are in_order = absurd are
spell-in-order start earliest es packets earlier [] (p ∷ ps) sources are in_order = absurd are
spell-in-order start earliest es packets earlier (u ∷ us) [] sources are in_order = absurd are
spell-in-order start earliest es packets earlier (u ∷ us) (p ∷ ps) [] are in_order = absurd are
spell-in-order start earliest es packets earlier (unit ∷ units) (picture ∷ pictures) (source ∷ sources) (begins, ends, times, due, kind, role, are) (next, in_order) =
    let coded = next.coded in
    let bytes : slice_range es unit.0 unit.1 ≡ slice_range es source.begin source.end = ap₂ (slice_range es) (sym begins) (sym ends) in (
      picture.seq,
      record { picture = coded.picture; whole = subst (λ (b : List ℕ). IsPictureOf (state_behind (nearest earlier)) b coded.picture) bytes coded.whole; after_is = coded.seq_is },
      spell-in-order start earliest es packets (picture ∷ earlier) units pictures sources are in_order,
    )

-- ---- audio

-- the piece at a place has bytes, and ends within so many
record IsInside (total : ℕ) (place : PlacedPacket × ℕ × ℕ) : Type 0 where
  some : 1 ≤ piece_size (packet_size place.0) place.2
  inside : place.1 + place.2 + piece_size (packet_size place.0) place.2 ≤ total

in-range : (P : ℕ → Type 0) (from n : ℕ) → ((k : ℕ) → from ≤ k → k < from + n → P k) → All P (range_with_len from n)
in-range P from zero each = All-nil P
in-range P from (suc n) each =
    All-cons P from (range_with_len (from + 1) n) (each from (omega arith) (omega arith)) (in-range P (from + 1) n (λ k low high. each k (omega (arith, low)) (omega (arith, high))))

piece-some : (size k : ℕ) → k < (size + 183) / 184 → 1 ≤ piece_size size (184 * k)
piece-some size k within = omega (arith, within)

piece-inside : (total at size k : ℕ) → at + size ≤ total → k < (size + 183) / 184 → at + 184 * k + piece_size size (184 * k) ≤ total
piece-inside total at size k fits within = omega (arith, fits, within)

packet-inside : (total at : ℕ) (packet : PlacedPacket) → at + packet_size packet ≤ total → All (IsInside total) (map (λ (from : ℕ). (packet, at, from)) (piece_places (packet_size packet)))
packet-inside total at packet fits =
    let count : ℕ = (packet_size packet + 183) / 184 in
    let each : All (λ (k : ℕ). IsInside total (packet, at, 184 * k)) (range_with_len 0 count) =
    in-range (λ (k : ℕ). IsInside total (packet, at, 184 * k)) 0 count
    (λ k low high. record { some = piece-some (packet_size packet) k (omega (arith, high)); inside = piece-inside total at (packet_size packet) k fits (omega (arith, high)) }) in
    All-map (IsInside total) (λ (from : ℕ). (packet, at, from)) (piece_places (packet_size packet))
    (All-map (λ (from : ℕ). IsInside total (packet, at, from)) (λ (k : ℕ). 184 * k) (range_with_len 0 count) each)

-- the bytes of PES packets, one behind the other
abbrev bytes_of_all : List PesUnit → List ℕ
bytes_of_all packets = flat_map (λ packet. packet.bytes) packets

places-inside : (total at from : ℕ) (packets : List PesUnit) → All HasPayload packets → at + length (bytes_of_all packets) ≤ total
    → All (IsInside total) (placed_pieces at (placed_from from packets))
places-inside total at from [] payloads fits = All-nil (IsInside total)
places-inside total at from (p ∷ ps) payloads fits =
    let end : ℕ = from + length (pes_payload_of p) in
    let some : HasPayload p = All-head HasPayload p ps payloads in
    let both : length (bytes_of_all (p ∷ ps)) ≡ length p.bytes + length (bytes_of_all ps) = length-append p.bytes (bytes_of_all ps) in
    let size : packet_size (placed_at from p) ≡ length p.bytes = omega (arith, some, length-drop (header_length p.bytes) p.bytes) in
    All-append (IsInside total) (map (λ (byte : ℕ). (placed_at from p, at, byte)) (piece_places (packet_size (placed_at from p))))
    (placed_pieces (at + packet_size (placed_at from p)) (placed_from end ps))
    (packet-inside total at (placed_at from p) (omega (arith, both, size, fits)))
    (places-inside total (at + packet_size (placed_at from p)) end ps (All-tail HasPayload p ps payloads) (omega (arith, both, size, fits)))

pieces-stand : (start : ℕ) (earliest : ℤ) (frames : List Frame) (bytes : List ℕ) (places : List (PlacedPacket × ℕ × ℕ)) (pieces : List AudioPiece)
    → ArePieces start earliest frames places pieces → All (IsInside (length bytes)) places → All (IsPieceOf bytes) pieces
pieces-stand start earliest frames bytes [] [] are inside = All-nil (IsPieceOf bytes)
pieces-stand start earliest frames bytes [] (p ∷ ps) are inside = absurd are
pieces-stand start earliest frames bytes (x ∷ xs) [] are inside = absurd are
pieces-stand start earliest frames bytes (x ∷ xs) (p ∷ ps) are inside =
    let here : IsInside (length bytes) x = All-head (IsInside (length bytes)) x xs inside in
    let piece : IsPiece start earliest frames x.0 x.1 x.2 (piece_size (packet_size x.0) x.2) p = are.0 in
    let size : p.packet.bytes ≡ piece_size (packet_size x.0) x.2 = piece.bytes in
    let at : p.at ≡ x.1 + x.2 = piece.at_is in
    let some : 1 ≤ piece_size (packet_size x.0) x.2 = here.some in
    let end : x.1 + x.2 + piece_size (packet_size x.0) x.2 ≤ length bytes = here.inside in
    let is : IsPieceOf bytes p = record {
      size = record { some = omega (arith, size, some); fits = omega (arith, size) };
      inside = omega (arith, size, at, end);
    } in
    All-cons (IsPieceOf bytes) p ps is (pieces-stand start earliest frames bytes xs ps are.1 (All-tail (IsInside (length bytes)) x xs inside))

-- all pieces of an audio stream stand among its bytes
abbrev HasPieces : AudioSource → Type 0
HasPieces audio = All (IsPieceOf audio.bytes) audio.pieces

source-stands : (start : ℕ) (earliest first : ℤ) (stream : AudioStream) (frames : List Frame) (source : AudioSource) → HaveFrames first (stream ∷ []) (frames ∷ [])
    → IsAudioSource start earliest stream frames source → HasPieces source
source-stands start earliest first stream frames source have is =
    let packets = taken_of stream in
    let size : length source.bytes ≡ length (bytes_of_all packets) = ap (λ (xs : List ℕ). length xs) is.bytes in
    pieces-stand start earliest frames source.bytes (placed_pieces 0 (placed_from 0 packets)) source.pieces is.pieces
    (places-inside (length source.bytes) 0 0 packets (taken_payloads stream.units have.0.sound) (omega (arith, size)))

sources-stand : (start : ℕ) (earliest first : ℤ) (streams : List AudioStream) (frames : List (List Frame)) (sources : List AudioSource) → HaveFrames first streams frames
    → AreAudioSources start earliest streams frames sources → All HasPieces sources
sources-stand start earliest first [] [] [] have are = All-nil HasPieces
sources-stand start earliest first [] [] (s ∷ ss) have are = absurd are
sources-stand start earliest first [] (f ∷ fs) sources have are = absurd have
sources-stand start earliest first (x ∷ xs) [] sources have are = absurd have
sources-stand start earliest first (x ∷ xs) (f ∷ fs) [] have are = absurd are
sources-stand start earliest first (x ∷ xs) (f ∷ fs) (s ∷ ss) have are =
    All-cons HasPieces s ss (source-stands start earliest first x f s (have.0, tt) are.0) (sources-stand start earliest first xs fs ss have.1 are.1)

-- ---- a program

pub read-sendable : (start : ℕ) (demuxed : Demuxed) (program : Program) → IsProgram start demuxed program → IsSendable program
read-sendable start demuxed program is =
    let es = video_bytes demuxed in
    let pictures = is.has_pictures in
    let fits : Fits (length es) 0 pictures.units.cuts = (cuts_fit es pictures.units pictures.has_units.units_are).0 in
    let stand : StandInOrder es (video_packets demuxed) is.kept is.pictures =
    kept-stand es (video_packets demuxed) pictures.units.cuts is.kept is.pictures pictures.at_end fits pictures.kept_are in record {
      units = subst (λ (video : List ℕ). All (IsUnitOf video) program.units) (sym is.video_is)
          (units-stand start is.earliest es (taken true demuxed.video) [] 0 is.kept is.pictures program.units is.units_are stand.0 stand.1);
      pictures = subst (λ (video : List ℕ). SpellInOrder video None program.units) (sym is.video_is)
          (spell-in-order start is.earliest es (video_packets demuxed) [] is.kept is.pictures program.units is.units_are stand.1);
      audio = sources-stand start is.earliest is.first.stated demuxed.audios is.frames program.audios is.have_frames is.audios_are;
    }
