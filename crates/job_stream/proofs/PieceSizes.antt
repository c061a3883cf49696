-- Each piece of programs that can be sent is a packet's payload.
use Rattle.std.proofs.Common.{◌≡◌, ℕ, zero, suc, ◌+◌, ◌-◌, ◌*◌, ◌/◌, ◌<◌, min, List, [], ◌∷◌, All, length, map, take, drop, slice_index_or, refl, sym, ap, subst, ◌∙◌, arith}
use Rattle.std.specs.List.{range_with_len}
use Rattle.std.specs.Prelude.{slice_range}
use Rattle.std.proofs.lemmas.List.{length-drop, length-take}
use Rattle.std.proofs.lemmas.List.Elements.{All-append, All-cons, All-from_get_or, All-get_or, All-head, All-map, All-nil, All-tail, All-weaker}
use Rattle.std.proofs.lemmas.List.FromFn.{get_or-range_with_len, length-range_with_len}
use Rattle.bit_lists.specs.Payload.{Payload}
use Rattle.pes_units.specs.PesPieces.{packets_for, pes_pieces, piece_of}
use Rattle.program_reader.specs.declared.program.AudioPiece.{AudioPiece}
use Rattle.program_reader.specs.declared.program.AudioSource.{AudioSource}
use Rattle.program_reader.specs.declared.program.Program.{Program}
use Rattle.program_reader.specs.declared.program.UnitSource.{UnitSource}
use Rattle.version_maker.specs.declared.version.UnitVersion.{UnitVersion}
use Rattle.version_source.specs.Pieces.{HasPiece, audio_items, audio_payload, pes_packet, pieces_at, pieces_of, stream_items, video_items}
use Rattle.version_source.specs.Sendable.{IsPieceOf, IsSendable}
use Rattle.version_source.specs.Versions.{chosen_bytes}
use Rattle.mux_writer.specs.Pieces.{HasPayloadSize}

-- a packet can carry it
abbrev IsSized : Payload → Type 0
IsSized payload = HasPayloadSize (length payload.bytes)

abbrev AreSized : List Payload → Type 0
AreSized pieces = All IsSized pieces

abbrev AreItemsSized : List (List Payload) → Type 0
AreItemsSized items = All AreSized items

-- ---- a PES packet

piece-sized : (packet : List ℕ) (k n : ℕ) → n ≡ (length packet + 183) / 184 → k < n → IsSized (piece_of packet k)
piece-sized packet k n is within =
    let size : length (take 184 (drop (184 * k) packet)) ≡ min 184 (length packet - 184 * k) =
    length-take 184 (drop (184 * k) packet) ∙ ap (min 184) (length-drop (184 * k) packet) in
    record { some = omega (arith, size, is, within); fits = omega (arith, size) }

packet-sized : (packet : List ℕ) → AreSized (pes_pieces packet)
packet-sized packet =
    All-map IsSized (piece_of packet) (range_with_len 0 (packets_for (length packet)))
    (All-from_get_or (λ (k : ℕ). IsSized (piece_of packet k)) (range_with_len 0 (packets_for (length packet))) 0
    (λ k within.
    let inside : k < packets_for (length packet) = omega (arith, within, length-range_with_len 0 (packets_for (length packet))) in
    subst (λ (i : ℕ). IsSized (piece_of packet i)) (sym (get_or-range_with_len 0 (packets_for (length packet)) k 0 inside ∙ zero-behind k))
    (piece-sized packet k (packets_for (length packet)) refl inside)))
  where
    zero-behind : (k : ℕ) → 0 + k ≡ k
    zero-behind k = omega arith

video-sized : (units : List UnitSource) (versions : List (List UnitVersion)) (choice : List ℕ) → AreItemsSized (video_items units versions choice)
video-sized [] versions choice = All-nil AreSized
video-sized (u ∷ us) [] choice = All-nil AreSized
video-sized (u ∷ us) (v ∷ vs) [] = All-nil AreSized
video-sized (u ∷ us) (v ∷ vs) (c ∷ cs) =
    All-cons AreSized (pes_pieces (pes_packet u (chosen_bytes v c))) (video_items us vs cs) (packet-sized (pes_packet u (chosen_bytes v c))) (video-sized us vs cs)

-- ---- audio

audio-piece-sized : (bytes : List ℕ) (piece : AudioPiece) → IsPieceOf bytes piece → AreSized (audio_payload bytes piece ∷ [])
audio-piece-sized bytes piece is =
    let size : length (slice_range bytes piece.at (piece.at + piece.packet.bytes)) ≡ min (piece.at + piece.packet.bytes - piece.at) (length bytes - piece.at) =
    length-take (piece.at + piece.packet.bytes - piece.at) (drop piece.at bytes) ∙ ap (min (piece.at + piece.packet.bytes - piece.at)) (length-drop piece.at bytes) in
    All-cons IsSized (audio_payload bytes piece) [] (record { some = omega (arith, size, is.size.some, is.inside); fits = omega (arith, size, is.size.fits) }) (All-nil IsSized)

audio-sized : (audio : AudioSource) → All (IsPieceOf audio.bytes) audio.pieces → AreItemsSized (audio_items audio)
audio-sized audio all =
    All-map AreSized (λ (piece : AudioPiece). audio_payload audio.bytes piece ∷ []) audio.pieces
    (All-weaker (IsPieceOf audio.bytes) (λ (piece : AudioPiece). AreSized (audio_payload audio.bytes piece ∷ [])) (audio-piece-sized audio.bytes) audio.pieces all)

-- ---- all streams

streams-sized : (programs : List Program) (versions : List (List (List UnitVersion))) (choice : List ℕ) → All IsSendable programs → All AreItemsSized (stream_items programs versions choice)
streams-sized [] versions choice sendable = All-nil AreItemsSized
streams-sized (p ∷ ps) [] choice sendable = All-nil AreItemsSized
streams-sized (p ∷ ps) (v ∷ vs) choice sendable =
    let is : IsSendable p = All-head IsSendable p ps sendable in
    let audios : All AreItemsSized (map audio_items p.audios) =
    All-map AreItemsSized audio_items p.audios
    (All-weaker (λ (audio : AudioSource). All (IsPieceOf audio.bytes) audio.pieces) (λ (audio : AudioSource). AreItemsSized (audio_items audio)) audio-sized p.audios is.audio) in
    All-append AreItemsSized (video_items p.units v choice ∷ map audio_items p.audios) (stream_items ps vs (drop (length p.units) choice))
    (All-cons AreItemsSized (video_items p.units v choice) (map audio_items p.audios) (video-sized p.units v choice) audios)
    (streams-sized ps vs (drop (length p.units) choice) (All-tail IsSendable p ps sendable))

-- what all items have, the one at a place has, or the default
all-at : {A : Type 0} (P : A → Type 0) (xs : List A) (d : A) (k : ℕ) → All P xs → P d → P (slice_index_or xs k d)
all-at P [] d k all default = default
all-at P (x ∷ xs) d zero all default = All-head P x xs all
all-at P (x ∷ xs) d (suc k) all default = all-at P xs d k (All-tail P x xs all) default

-- each piece of programs that can be sent fits a packet
pub pieces-sized : (programs : List Program) (versions : List (List (List UnitVersion))) (choice : List ℕ) → All IsSendable programs → (stream item piece : ℕ)
    → HasPiece (stream_items programs versions choice) stream item piece → HasPayloadSize (length (pieces_of (stream_items programs versions choice) stream item piece).bytes)
pieces-sized programs versions choice sendable stream item piece has =
    let streams = stream_items programs versions choice in
    let items : AreItemsSized (slice_index_or streams stream []) = all-at AreItemsSized streams [] stream (streams-sized programs versions choice sendable) (All-nil AreSized) in
    let pieces : AreSized (pieces_at streams stream item) = all-at AreSized (slice_index_or streams stream []) [] item items (All-nil IsSized) in
    All-get_or IsSized (pieces_at streams stream item) piece _ has pieces
