-- The packets of a queue beside the pieces of its stream.
use Rattle.std.proofs.Common.{◌≡◌, ℕ, zero, suc, ◌+◌, ◌-◌, ◌*◌, ◌<◌, ◌≤◌, min, Bool, false, ne_eqb, if◌then◌else◌, List, [], ◌∷◌, ◌++◌, All, length, map, take, drop, Option, Some, None}
use Rattle.std.proofs.Common.{refl, sym, ap, subst, ◌∙◌, arith, length-append}
use Rattle.std.specs.Prelude.{slice_get, slice_index_or, slice_range}
use Rattle.std.specs.List.{AllZip, enumerate_from, flat_map, range_with_len, zip}
use Rattle.std.proofs.lemmas.List.{length-drop, length-take}
use Rattle.std.proofs.lemmas.List.Elements.{All-head, All-tail}
use Rattle.std.proofs.lemmas.Option.{none-some, same_Some}
use Rattle.bit_lists.specs.Fields.{bit, bits}
use Rattle.bit_lists.specs.Payload.{Payload}
use Rattle.pes_units.specs.declared.times.Times.{Times}
use Rattle.pes_units.specs.PesHeader.{header_length}
use Rattle.pes_units.specs.VideoHeader.{spelled, written_dts, written_pes_header}
use Rattle.pes_units.specs.PesPieces.{packets_for, pes_pieces, piece_of}
use Rattle.version_table.specs.Choice.{version_at}
use Rattle.slot_rule.specs.declared.queued_packet.QueuedPacket.{QueuedPacket}
use Rattle.slot_rule.specs.Private.QueueItems.{HasSizes}
use Rattle.slot_rule.specs.Queues.{payloads, unit_packets}
use Rattle.program_reader.specs.Carry.{unit_weight}
use Rattle.program_reader.specs.declared.program.AudioPiece.{AudioPiece}
use Rattle.program_reader.specs.declared.program.UnitSource.{UnitSource}
use Rattle.version_maker.specs.declared.version.UnitVersion.{UnitVersion}
use Rattle.version_source.specs.Pieces.{audio_payload, pes_packet, video_items}
use Rattle.version_source.specs.Sendable.{IsPieceOf}
use Rattle.version_source.specs.Versions.{chosen_bytes}
use Rattle.program_table.specs.Table.{row_version, unit_row, unit_rows}
use Rattle.clean_laws.specs.Arrivals.{header_bytes}
use Rattle.version_source.proofs.VersionBytes.{HasBytes, HaveBytes}
use Rattle.program_table.proofs.UnitLimits.{header-spelled}

-- pieces by the item and the place in it
abbrev pub ItemPieces : Type 0
ItemPieces = (item piece : ℕ) → Payload

-- what stands for a piece that isn't there
abbrev pub no_piece : Payload
no_piece = record { start = false; bytes = [] }

-- the packet of a video queue has this piece, which has data behind its PES header
pub record IsVideoPiece (f : ItemPieces) (packet : QueuedPacket) (payload : Payload) : Type 0 where
  pub found : f packet.item packet.piece ≡ payload
  pub size : length payload.bytes ≡ packet.payload
  pub data_behind : header_bytes payload < length payload.bytes

-- the packet of an audio queue has this piece, an item of its own
pub record IsAudioPiece (f : ItemPieces) (packet : QueuedPacket) (payload : Payload) : Type 0 where
  pub found : f packet.item packet.piece ≡ payload
  pub size : length payload.bytes ≡ packet.payload
  pub first : packet.piece ≡ 0

zip-append : {A B : Type 0} (R : A → B → Type 0) (xs more : List A) (ys others : List B) → AllZip R xs ys → AllZip R more others → AllZip R (xs ++ more) (ys ++ others)
zip-append R [] more [] others first second = second
zip-append R [] more (y ∷ ys) others first second = absurd first
zip-append R (x ∷ xs) more [] others first second = absurd first
zip-append R (x ∷ xs) more (y ∷ ys) others first second = (first.0, zip-append R xs more ys others first.1 second)

-- ---- the header of a PES packet

-- its ninth byte says how long it is
header-told : (pts dts : Option ℕ) (version : List ℕ) → header_length (take 184 (spelled pts dts ++ version)) ≡ length (spelled pts dts)
unfolding bit bits
header-told None dts version = refl
header-told (Some pts) None version = refl
header-told (Some pts) (Some dts) version = refl

first-data : (pts dts : Option ℕ) (version : List ℕ) → 1 ≤ length version
    → min (header_length (take 184 (spelled pts dts ++ version))) (length (take 184 (spelled pts dts ++ version))) < length (take 184 (spelled pts dts ++ version))
first-data pts dts version some =
    let size : length (take 184 (spelled pts dts ++ version)) ≡ min 184 (length (spelled pts dts ++ version)) = length-take 184 (spelled pts dts ++ version) in
    let sum : length (spelled pts dts ++ version) ≡ length (spelled pts dts) + length version = length-append (spelled pts dts) version in
    less (header_length (take 184 (spelled pts dts ++ version))) (length (take 184 (spelled pts dts ++ version))) (length (spelled pts dts)) (length version)
    (header-told pts dts version) (size ∙ ap (min 184) sum) (header-spelled pts dts) some
  where
    less : (h l n v : ℕ) → h ≡ n → l ≡ min 184 (n + v) → n ≤ 19 → 1 ≤ v → min h l < l
    less h l n v told size short has = omega (arith, told, size, short, has)

-- each piece of a PES packet has data behind its header
piece-data : (times : Times) (version : List ℕ) (k : ℕ) → 1 ≤ length version → k < packets_for (length (written_pes_header times ++ version))
    → header_bytes (piece_of (written_pes_header times ++ version) k) < length (piece_of (written_pes_header times ++ version) k).bytes
piece-data times version zero some within = first-data times.pts (written_dts times.pts times.dts) version some
piece-data times version (suc k) some within =
    let packet : List ℕ = written_pes_header times ++ version in
    let size : length (take 184 (drop (184 * suc k) packet)) ≡ min 184 (length packet - 184 * suc k) =
    length-take 184 (drop (184 * suc k) packet) ∙ ap (min 184) (length-drop (184 * suc k) packet) in
    let none : header_bytes (piece_of (written_pes_header times ++ version) (suc k)) ≡ 0 =
    ap (λ (b : Bool). if b then min (header_length (take 184 (drop (184 * suc k) (written_pes_header times ++ version)))) (length (take 184 (drop (184 * suc k) (written_pes_header times ++ version)))) else 0)
    (ne_eqb (suc k) 0 (λ e. absurd (omega (arith, e)))) in
    omega (arith, none, size, within)

-- ---- the packets of a unit

-- the packets of pieces of these lengths, from one of the item's places on
abbrev packets_of_sizes : (item due from : ℕ) → List ℕ → List QueuedPacket
packets_of_sizes item due from sizes = map (λ (piece, payload). record { item = item; piece = piece; payload = payload; due = due; gone = due }) (enumerate_from from sizes)

unit-zip : (f : ItemPieces) (item due from : ℕ) (pieces : List Payload)
    → ((k : ℕ) (payload : Payload) → slice_get pieces k ≡ Some payload → (f item (from + k) ≡ payload) × (header_bytes payload < length payload.bytes))
    → AllZip (IsVideoPiece f) (packets_of_sizes item due from (map (λ (p : Payload). length p.bytes) pieces)) pieces
unit-zip f item due from [] each = tt
unit-zip f item due from (p ∷ ps) each =
    let here = each 0 p refl in (
      record { found = ap (f item) (let e : from ≡ from + 0 = omega arith in e) ∙ here.0; size = refl; data_behind = here.1 },
      unit-zip f item due (from + 1) ps
          (λ k payload there. let next = each (suc k) payload there in (ap (f item) (let e : (from + 1) + k ≡ from + suc k = omega arith in e) ∙ next.0, next.1)),
    )

-- a list made along a range, by place
along : (g : ℕ → Payload) (n from k : ℕ) (payload : Payload) → slice_get (map g (range_with_len from n)) k ≡ Some payload → (g (from + k) ≡ payload) × (k < n)
along g zero from k payload there = absurd (none-some payload there)
along g (suc n) from zero payload there = (ap g (let e : from + 0 ≡ from = omega arith in e) ∙ same_Some (g from) payload there, omega arith)
along g (suc n) from (suc k) payload there =
    let rest = along g n (from + 1) k payload there in (ap g (let e : from + suc k ≡ (from + 1) + k = omega arith in e) ∙ rest.0, omega (arith, rest.1))

-- the pieces of a PES packet are as long as the payloads that are queued for it
abbrev pub PiecesAreAsQueued : Type 0
PiecesAreAsQueued = (packet : List ℕ) → 1 ≤ length packet → map (λ piece. length piece.bytes) (pes_pieces packet) ≡ payloads (length packet)

get-at : {A : Type 0} (xs : List A) (k : ℕ) (x d : A) → slice_get xs k ≡ Some x → slice_index_or xs k d ≡ x
get-at [] k x d there = absurd (none-some x there)
get-at (y ∷ ys) zero x d there = same_Some y x there
get-at (y ∷ ys) (suc k) x d there = get-at ys k x d there

unit-packets-zip : PiecesAreAsQueued → (f : ItemPieces) (item due : ℕ) (times : Times) (version : List ℕ) → 1 ≤ length version
    → ((k : ℕ) → f item k ≡ slice_index_or (pes_pieces (written_pes_header times ++ version)) k no_piece)
    → AllZip (IsVideoPiece f) (unit_packets item due (length (written_pes_header times ++ version))) (pes_pieces (written_pes_header times ++ version))
unit-packets-zip queued f item due times version some found =
    let packet : List ℕ = written_pes_header times ++ version in
    subst (λ (sizes : List ℕ). AllZip (IsVideoPiece f) (packets_of_sizes item due 0 sizes) (pes_pieces (written_pes_header times ++ version)))
    (queued (written_pes_header times ++ version) (omega (arith, some, length-append (written_pes_header times) version)))
    (unit-zip f item due 0 (pes_pieces (written_pes_header times ++ version))
    (λ k payload there.
    let at = along (piece_of (written_pes_header times ++ version)) (packets_for (length (written_pes_header times ++ version))) 0 k payload there in
    let place : piece_of (written_pes_header times ++ version) k ≡ payload = ap (piece_of (written_pes_header times ++ version)) (let e : k ≡ 0 + k = omega arith in e) ∙ at.0 in (
      ap (f item) (let e : 0 + k ≡ k = omega arith in e) ∙ found k ∙ get-at (pes_pieces (written_pes_header times ++ version)) k payload no_piece there,
      subst (λ (p : Payload). header_bytes p < length p.bytes) place (piece-data times version k some at.1),
    )))

-- ---- a video

-- the chosen version, where its row has bytes
pub record IsChosen (unit : UnitSource) (versions : List UnitVersion) (bytes index : ℕ) : Type 0 where
  pub size : bytes ≡ length (pes_packet unit (chosen_bytes versions index))
  pub some : 1 ≤ length (chosen_bytes versions index)

chosen : (weight : ℕ) (unit : UnitSource) (versions : List UnitVersion) (index : ℕ) → All HasBytes versions
    → 1 ≤ (slice_index_or (map (row_version weight unit) versions) index (record { bytes = 0; distortion = 0 })).bytes
    → IsChosen unit versions (slice_index_or (map (row_version weight unit) versions) index (record { bytes = 0; distortion = 0 })).bytes index
chosen weight unit [] index all some = absurd (omega (arith, some))
chosen weight unit (v ∷ vs) zero all some =
    record { size = sym (length-append (written_pes_header unit.times) v.bytes); some = All-head HasBytes v vs all }
chosen weight unit (v ∷ vs) (suc index) all some =
    let rest = chosen weight unit vs index (All-tail HasBytes v vs all) some in record { size = rest.size; some = rest.some }

pub video-zip : PiecesAreAsQueued → (f : ItemPieces) (weight drift from : ℕ) (units : List UnitSource) (versions : List (List UnitVersion)) (choice : List ℕ)
    → HasSizes (unit_rows weight drift units versions) choice → HaveBytes versions
    → ((item k : ℕ) → f (from + item) k ≡ slice_index_or (slice_index_or (video_items units versions choice) item []) k no_piece)
    → AllZip (IsVideoPiece f) (flat_map (λ (item, (unit, k)). unit_packets item unit.due (version_at unit k).bytes) (enumerate_from from (zip (unit_rows weight drift units versions) choice)))
    (flat_map (λ pieces. pieces) (video_items units versions choice))
video-zip queued f weight drift from [] versions choice sizes have found = tt
video-zip queued f weight drift from (u ∷ us) [] choice sizes have found = tt
video-zip queued f weight drift from (u ∷ us) (v ∷ vs) [] sizes have found = absurd sizes
video-zip queued f weight drift from (u ∷ us) (v ∷ vs) (c ∷ cs) sizes have found =
    let is : IsChosen u v (version_at (unit_row (unit_weight weight drift u us) u v) c).bytes c = chosen (unit_weight weight drift u us) u v c have.0 sizes.0 in
    let own : AllZip (IsVideoPiece f) (unit_packets from u.due (version_at (unit_row (unit_weight weight drift u us) u v) c).bytes) (pes_pieces (pes_packet u (chosen_bytes v c))) =
    subst (λ (n : ℕ). AllZip (IsVideoPiece f) (unit_packets from u.due n) (pes_pieces (pes_packet u (chosen_bytes v c)))) (sym is.size)
    (unit-packets-zip queued f from u.due u.times (chosen_bytes v c) is.some
    (λ k. ap (λ (n : ℕ). f n k) (let e : from ≡ from + 0 = omega arith in e) ∙ found 0 k)) in
    zip-append (IsVideoPiece f) (unit_packets from u.due (version_at (unit_row (unit_weight weight drift u us) u v) c).bytes)
    (flat_map (λ (item, (unit, k)). unit_packets item unit.due (version_at unit k).bytes) (enumerate_from (from + 1) (zip (unit_rows weight drift us vs) cs)))
    (pes_pieces (pes_packet u (chosen_bytes v c))) (flat_map (λ pieces. pieces) (video_items us vs cs)) own
    (video-zip queued f weight drift (from + 1) us vs cs sizes.2 have.1
    (λ item k. ap (λ (n : ℕ). f n k) (let e : (from + 1) + item ≡ from + suc item = omega arith in e) ∙ found (suc item) k))

-- ---- an audio stream

pub audio-zip : (f : ItemPieces) (from : ℕ) (bytes : List ℕ) (pieces : List AudioPiece) → All (IsPieceOf bytes) pieces
    → ((item k : ℕ) → f (from + item) k ≡ slice_index_or (slice_index_or (map (λ piece. audio_payload bytes piece ∷ []) pieces) item []) k no_piece)
    → AllZip (IsAudioPiece f)
    (map (λ (item, packet). record { item = item; piece = 0; payload = packet.bytes; due = packet.due; gone = packet.gone }) (enumerate_from from (map (λ piece. piece.packet) pieces)))
    (flat_map (λ items. items) (map (λ piece. audio_payload bytes piece ∷ []) pieces))
audio-zip f from bytes [] all found = tt
audio-zip f from bytes (p ∷ ps) all found =
    let is : IsPieceOf bytes p = All-head (IsPieceOf bytes) p ps all in
    let size : length (slice_range bytes p.at (p.at + p.packet.bytes)) ≡ min (p.at + p.packet.bytes - p.at) (length bytes - p.at) =
    length-take (p.at + p.packet.bytes - p.at) (drop p.at bytes) ∙ ap (min (p.at + p.packet.bytes - p.at)) (length-drop p.at bytes) in (
      record { found = ap (λ (n : ℕ). f n 0) (let e : from ≡ from + 0 = omega arith in e) ∙ found 0 0; size = omega (arith, size, is.inside); first = refl },
      audio-zip f (from + 1) bytes ps (All-tail (IsPieceOf bytes) p ps all)
          (λ item k. ap (λ (n : ℕ). f n k) (let e : (from + 1) + item ≡ from + suc item = omega arith in e) ∙ found (suc item) k),
    )
