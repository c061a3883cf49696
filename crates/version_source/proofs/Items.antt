-- The pieces of a unit among those of its video.
use Rattle.std.proofs.Common.{◌≡◌, ℕ, zero, suc, ◌+◌, ◌<◌, ◌≤◌, List, [], ◌∷◌, length, map, take, get_or, slice_index, slice_index_or, false, Option, Some, None, refl, ap, subst, sym, ◌∙◌, arith}
use Rattle.std.proofs.lemmas.List.FromFn.{length-map-range_with_len}
use Rattle.std.specs.Coded.{le_prop}
use Rattle.std.specs.List.{range_with_len}
use Rattle.std.proofs.Math.Logic.{∥∥₁_elim}
use Rattle.syntax_types.specs.declared.picture.SeqState.{SeqState}
use Rattle.bit_lists.specs.Payload.{Payload}
use Rattle.pes_units.specs.PesPieces.{packets_for, pes_pieces, piece_of}
use Rattle.mux_writer.specs.declared.piece_source.Filled.{Filled}
use Rattle.mux_writer.specs.Pieces.{IsFilledWith}
use Rattle.program_reader.specs.declared.program.UnitSource.{UnitSource}
use Rattle.program_reader.specs.declared.timed_picture.Role.TheVariants.{Frame}
use Rattle.version_maker.specs.declared.version.UnitVersion.{UnitVersion}
use Rattle.version_source.specs.Pieces.{pes_packet, video_items}
use Rattle.version_source.specs.Versions.{AreVideoVersions, chosen_bytes}
use Rattle.version_source.specs.declared.sent_video.SentVideo.{SentVideo}
use Rattle.version_source.specs.Private.Kept.{IsKept}
use Rattle.version_source.specs.Private.Made.{HasVersions}
use Rattle.version_source.specs.Private.Sending.{IsPacketOf, LeaveBehind}
use Rattle.version_source.proofs.StateLemmas.{versions-there}
use Rattle.program_reader.proofs.Missing.{no_unit}

-- ---- of a PES packet

index-range : (f : ℕ → Payload) (n from k : ℕ) (d : Payload) → k < n → slice_index_or (map f (range_with_len from n)) k d ≡ f (from + k)
index-range f zero from k d within = absurd (let e : k < 0 = within in omega (arith, e))
index-range f (suc n) from zero d within = ap f (omega arith)
index-range f (suc n) from (suc k) d within = index-range f n (from + 1) k d (omega (arith, within)) ∙ ap f (omega arith)

pub piece-at : (packet : List ℕ) (k : ℕ) (d : Payload) → k < packets_for (length packet) → slice_index_or (pes_pieces packet) k d ≡ piece_of packet k
piece-at packet k d within = index-range (piece_of packet) (packets_for (length packet)) 0 k d within ∙ ap (piece_of packet) (omega arith)

pub pieces-count : (packet : List ℕ) → length (pes_pieces packet) ≡ packets_for (length packet)
pieces-count packet = length-map-range_with_len (piece_of packet) 0 (packets_for (length packet))

-- ---- of a video

-- the unit of a piece stands there
pub unit-within : (units : List UnitSource) (versions : List (List UnitVersion)) (choice : List ℕ) (number k : ℕ)
    → k < length (slice_index_or (video_items units versions choice) number []) → number < length units
unit-within [] versions choice number k within = absurd (let e : k < 0 = within in omega (arith, e))
unit-within (unit ∷ units) [] choice number k within = absurd (let e : k < 0 = within in omega (arith, e))
unit-within (unit ∷ units) (v ∷ vs) [] number k within = absurd (let e : k < 0 = within in omega (arith, e))
unit-within (unit ∷ units) (v ∷ vs) (index ∷ choice) zero k within = omega arith
unit-within (unit ∷ units) (v ∷ vs) (index ∷ choice) (suc number) k within = let e = unit-within units vs choice number k within in omega (arith, e)

item-there : (es coarser : List ℕ) (before : Option SeqState) (units : List UnitSource) (versions : List (List UnitVersion)) (choice : List ℕ) (number : ℕ) (d : UnitSource)
    → AreVideoVersions es coarser before units versions → number < length units → number < length choice
    → slice_index_or (video_items units versions choice) number []
    ≡ pes_pieces (pes_packet (get_or units number d) (chosen_bytes (slice_index_or versions number []) (slice_index choice number)))
item-there es coarser before [] versions choice number d are within enough = absurd (let e : number < 0 = within in omega (arith, e))
item-there es coarser before (unit ∷ units) [] choice number d are within enough = absurd are
item-there es coarser before (unit ∷ units) (v ∷ vs) [] number d are within enough = absurd (let e : number < 0 = enough in omega (arith, e))
item-there es coarser before (unit ∷ units) (v ∷ vs) (index ∷ choice) zero d are within enough = refl
item-there es coarser before (unit ∷ units) (v ∷ vs) (index ∷ choice) (suc number) d (after, leaves, here, are) within enough =
    item-there es coarser (Some after) units vs choice number d are (omega (arith, within)) (omega (arith, enough))

-- the pieces of the PES packet that is held
pub item-is : (es coarser : List ℕ) (units : List UnitSource) (versions : List (List UnitVersion)) (choice : List ℕ) (number : ℕ) (state : Option SeqState) (d : UnitSource) (packet : List ℕ)
    → AreVideoVersions es coarser None units versions → LeaveBehind es None units number state → number < length units → number < length choice
    → IsPacketOf es coarser state (get_or units number d) (slice_index choice number) packet
    → slice_index_or (video_items units versions choice) number [] ≡ pes_pieces packet
item-is es coarser units versions choice number state d packet are left within enough is =
    item-there es coarser None units versions choice number d are within enough
    ∙ ap pes_pieces (sym (is (slice_index_or versions number []) (versions-there es coarser None units versions number state d are left within)))

-- the unit at a place, whatever stands for one that isn't there
pub same-unit : (units : List UnitSource) (k : ℕ) (d e : UnitSource) → k < length units → get_or units k d ≡ get_or units k e
same-unit [] k d e within = absurd (let e : k < 0 = within in omega (arith, e))
same-unit (u ∷ us) zero d e within = refl
same-unit (u ∷ us) (suc k) d e within = same-unit us k d e (omega (arith, within))

-- the numbers behind those of a video's units say nothing of it
pub items-own : (units : List UnitSource) (versions : List (List UnitVersion)) (choice : List ℕ)
    → video_items units versions choice ≡ video_items units versions (take (length units) choice)
items-own [] versions choice = refl
items-own (unit ∷ units) [] choice = refl
items-own (unit ∷ units) (v ∷ vs) [] = refl
items-own (unit ∷ units) (v ∷ vs) (index ∷ choice) = ap (λ (items : List (List Payload)). pes_pieces (pes_packet unit (chosen_bytes v index)) ∷ items) (items-own units vs choice)

-- ---- of the unit that is held

-- the PES packet of the unit of this number is held, and the state before it
pub record IsHeld (es coarser : List ℕ) (units : List UnitSource) (choice : List ℕ) (number : ℕ) (state : Option SeqState) (packet : List ℕ) : Type 0 where
  pub left : LeaveBehind es None units number state
  pub is : (other : UnitSource) → IsPacketOf es coarser state (get_or units number other) (slice_index choice number) packet

pub held : (es coarser : List ℕ) (units : List UnitSource) (choice : List ℕ) (number : ℕ) (kept : SentVideo) (packet : List ℕ) → IsKept es coarser units choice kept → kept.unit ≡ number
    → kept.packet ≡ Some packet → number < length units → IsHeld es coarser units choice number kept.before packet
held es coarser units choice number kept packet is there some within = record {
  left = subst (λ (n : ℕ). LeaveBehind es None units n kept.before) there is.before_is;
  is = λ other. subst (λ (n : ℕ). IsPacketOf es coarser kept.before (get_or units n other) (slice_index choice n) packet) there (is.packet_is packet other some (omega (arith, there, within)));
}

pub held-piece : (es coarser : List ℕ) (units : List UnitSource) (choice : List ℕ) (number : ℕ) (state : Option SeqState) (packet : List ℕ) (k : ℕ)
    → IsHeld es coarser units choice number state packet → number < length units → length units ≤ length choice → HasVersions es coarser units
    → ((versions : List (List UnitVersion)) → AreVideoVersions es coarser None units versions → k < length (slice_index_or (video_items units versions choice) number []))
    → k < packets_for (length packet)
held-piece es coarser units choice number state packet k is within enough made has = ∥∥₁_elim made.1 le_prop there
  where
    there : AreVideoVersions es coarser None units made.0 → k < packets_for (length packet)
    there are =
        let same : slice_index_or (video_items units made.0 choice) number [] ≡ pes_pieces packet =
        item-is es coarser units made.0 choice number state no_unit packet are is.left within (omega (arith, within, enough)) (is.is no_unit) in
        let count : length (slice_index_or (video_items units made.0 choice) number []) ≡ packets_for (length packet) = ap (λ (xs : List Payload). length xs) same ∙ pieces-count packet in
        let some : k < length (slice_index_or (video_items units made.0 choice) number []) = has made.0 are in
        subst (λ (n : ℕ). k < n) count some

pub held-told : (es coarser : List ℕ) (units : List UnitSource) (choice : List ℕ) (number : ℕ) (state : Option SeqState) (packet : List ℕ) (k : ℕ) (filled : Filled) (buffer : List ℕ)
    → IsHeld es coarser units choice number state packet → number < length units → length units ≤ length choice → k < packets_for (length packet) → IsFilledWith (piece_of packet k) filled buffer
    → (versions : List (List UnitVersion)) → AreVideoVersions es coarser None units versions
    → IsFilledWith (slice_index_or (slice_index_or (video_items units versions choice) number []) k (record { start = false; bytes = [] })) filled buffer
held-told es coarser units choice number state packet k filled buffer is within enough few told versions are =
    let none : Payload = record { start = false; bytes = [] } in
    let same : slice_index_or (video_items units versions choice) number [] ≡ pes_pieces packet =
    item-is es coarser units versions choice number state no_unit packet are is.left within (omega (arith, within, enough)) (is.is no_unit) in
    subst (λ (payload : Payload). IsFilledWith payload filled buffer) (sym (ap (λ (xs : List Payload). slice_index_or xs k none) same ∙ piece-at packet k none few)) told
