-- Streams of files, where another file of the shelf has changed.
use Rattle.std.proofs.Common.{◌≡◌, ℕ, Bool, true, false, cond, List, [], ◌∷◌, ◌-◌, map, take, drop, unwrap_or, Option, None, Some, IfSome, refl, ap, ap₂, subst}
use Rattle.std.proofs.Common.{sym, ◌∙◌}
use Rattle.std.specs.Cmp.{Equal-is}
use Rattle.std.specs.Cmp.Lexicographic.{slice_cmp, nat_list_cmp_total}
use Rattle.std.specs.FinMap.{get, get-remove, nat_cmp-IsAntisymmetric, remove, slice_cmp-IsAntisymmetric}
use Rattle.std.specs.Ordering.{eq_by_cmp, nat_cmp}
use Rattle.std.proofs.Math.Logic.{∥∥₁_map}
use Rattle.std.proofs.lemmas.List.Elements.{All-head, All-tail}
use Rattle.std.proofs.lemmas.Option.{none-some, same_Some}
use Rattle.shelf_io.specs.Files.{Files, content_of}
use Rattle.shelf_io.specs.Writing.{others}
use Rattle.bit_lists.specs.Payload.{Payload}
use Rattle.pes_units.specs.PesPieces.{pes_pieces}
use Rattle.version_maker.specs.declared.version.UnitVersion.{UnitVersion}
use Rattle.version_source.specs.Pieces.{audio_payload}
use Rattle.version_source.specs.Private.Sending.{LeaveBehind}
use Rattle.es_window.specs.PassingBytes.{HasRead}
use Rattle.file_pass.specs.FilePass.{left_to}
use Rattle.file_pieces.specs.declared.file_stream.OpenStream.{OpenStream}
use Rattle.file_pieces.specs.declared.lane.Lane.{Lane}
use Rattle.file_pieces.specs.declared.lane.Lane.TheVariants.{Audio, Video}
use Rattle.file_pieces.specs.declared.lane.VideoLane.{VideoLane}
use Rattle.file_pieces.specs.declared.lane_state.LaneState.{LaneState}
use Rattle.file_pieces.specs.declared.limits.TheConstants.{READ_MOST}
use Rattle.file_pieces.specs.declared.stream_place.StreamPlace.{StreamPlace}
use Rattle.file_pieces.specs.FilePieces.{AreHeld, AreLanesVersions, AreServed, HaveLanesVersions, file_in, lane_items, lane_name, lanes_items}
use Rattle.file_pieces.specs.FileStream.{IsOpen, bytes_of, file_of}
use Rattle.file_pieces.specs.Lane.{HoldsAudio, HoldsVideo}
use Rattle.file_pieces.specs.LaneState.{AreVersionsIn, IsUnitPacket, IsVideoKept, items_in}
use Rattle.job_pieces.specs.Appended.{StandApartFrom}

-- ---- contents

-- where every other file stays, each of them holds what it held
kept : (files after : Files) (out name : List ℕ) → remove after out ≡ remove files out → (name ≡ out → ⊥) → get after name ≡ get files name
kept files after out name same apart = by_test (eq_by_cmp (slice_cmp nat_cmp) name out) refl
  where
    by_test : (b : Bool) → eq_by_cmp (slice_cmp nat_cmp) name out ≡ b → get after name ≡ get files name
    by_test true e = absurd (apart (slice_cmp-IsAntisymmetric nat_cmp-IsAntisymmetric name out ((Equal-is _).0 e)))
    by_test false e =
        ap (λ b. cond b None (get after name)) (sym e)
        ∙ sym (get-remove nat_list_cmp_total after out name)
        ∙ ap (λ m. get m name) same
        ∙ get-remove nat_list_cmp_total files out name
        ∙ ap (λ b. cond b None (get files name)) e

pub same_content : (files after : Files) (out name : List ℕ) → others (Some after) out ≡ others (Some files) out → (name ≡ out → ⊥) → content_of files name ≡ content_of after name
same_content files after out name same apart = ap (λ (o : Option (List ℕ)). unwrap_or o []) (sym (kept files after out name (same_Some _ _ same) apart))

-- what is left of a file by its name, before and after
abbrev StaysLeft : (told after : Option Files) → (name : List ℕ) → Type 0
StaysLeft told after name = (limit place : ℕ) → left_to told name limit place ≡ left_to after name limit place

stays_left : (told after : Option Files) (out name : List ℕ) → others after out ≡ others told out → (name ≡ out → ⊥) → StaysLeft told after name
stays_left None None out name same apart limit place = refl
stays_left None (Some after) out name same apart limit place = absurd (none-some _ (sym same))
stays_left (Some files) None out name same apart limit place = absurd (none-some _ same)
stays_left (Some files) (Some after) out name same apart limit place =
    ap (λ (content : List ℕ). left_of content limit place) (same_content files after out name same apart)
  where
    left_of : (content : List ℕ) (limit place : ℕ) → Option (List ℕ)
    left_of content limit place = Some (take (limit - place) (drop place content))

-- ---- what is kept of a stream

if_same : {A : Type 0} (P : A → Type 0) (o other : Option A) → o ≡ other → IfSome o P → IfSome other P
if_same P o other same holds = subst (λ p. IfSome p P) same holds

open_still : (told after : Option Files) (place : StreamPlace) (stream : OpenStream) → StaysLeft told after place.name.now → IsOpen told place stream → IsOpen after place stream
open_still told after place stream same is = record {
  within = is.within;
  read = subst (λ (o : Option (List ℕ)). HasRead o (left_to after place.name.now READ_MOST stream.place) (READ_MOST - 0) (READ_MOST - stream.place) stream.buffer stream.bytes)
      (same READ_MOST 0)
      (subst (λ (o : Option (List ℕ)). HasRead (left_to told place.name.now READ_MOST 0) o (READ_MOST - 0) (READ_MOST - stream.place) stream.buffer stream.bytes)
      (same READ_MOST stream.place) is.read);
  pids_are = is.pids_are;
  index_is = is.index_is;
  part_is = is.part_is;
}

follows_still : (told after : Option Files) (place : StreamPlace) (held : Option OpenStream) → StaysLeft told after place.name.now → IfSome held (IsOpen told place) → IfSome held (IsOpen after place)
follows_still told after place None same follows = tt
follows_still told after place (Some stream) same follows = open_still told after place stream same follows

packet_still : (told after : Option Files) (lane : VideoLane) (number : ℕ) (packet : List ℕ) → StaysLeft told after lane.stream.name.now → IsUnitPacket told lane number packet
    → IsUnitPacket after lane number packet
packet_still told after lane number packet same is = record {
  size_is = is.size_is;
  pieces_are = if_same (λ file. (versions : List (List UnitVersion)) → AreVersionsIn lane file versions → items_in lane file versions number ≡ pes_pieces packet)
      (file_of told lane.stream) (file_of after lane.stream) (same READ_MOST 0) is.pieces_are;
}

video_still : (told after : Option Files) (lane : VideoLane) (state : LaneState) → StaysLeft told after lane.stream.name.now → IsVideoKept told lane state → IsVideoKept after lane state
video_still told after lane state same is = record {
  follows = follows_still told after lane.stream state.file.held same is.follows;
  within = is.within;
  precedes = is.precedes;
  state_is = if_same (λ file. LeaveBehind (bytes_of lane.stream file) None lane.units.now state.next state.state) (file_of told lane.stream) (file_of after lane.stream) (same READ_MOST 0) is.state_is;
  packet_is = λ packet number some next. packet_still told after lane number packet same (is.packet_is packet number some next);
}

-- streams of other files can be sent still
pub served_still : (told after : Option Files) (out : List ℕ) (lanes : List Lane) (states : List LaneState) → others after out ≡ others told out → StandApartFrom out lanes
    → AreServed told lanes states → AreServed after lanes states
served_still told after out [] [] same apart are = tt
served_still told after out [] (s ∷ ss) same apart are = absurd are
served_still told after out (l ∷ ls) [] same apart are = absurd are
served_still told after out (Video l ∷ ls) (s ∷ ss) same apart ((is, held, kept), more) =
    let here = stays_left told after out l.stream.name.now same (All-head (λ lane. lane_name lane ≡ out → ⊥) (Video l) ls apart) in (
      (is, if_same (HoldsVideo l) (file_of told l.stream) (file_of after l.stream) (here READ_MOST 0) held, video_still told after l s here kept),
      served_still told after out ls ss same (All-tail (λ lane. lane_name lane ≡ out → ⊥) (Video l) ls apart) more,
    )
served_still told after out (Audio l ∷ ls) (s ∷ ss) same apart ((is, held, kept), more) =
    let here = stays_left told after out l.stream.name.now same (All-head (λ lane. lane_name lane ≡ out → ⊥) (Audio l) ls apart) in (
      (is, if_same (HoldsAudio l) (file_of told l.stream) (file_of after l.stream) (here READ_MOST 0) held, follows_still told after l.stream s.file.held here kept),
      served_still told after out ls ss same (All-tail (λ lane. lane_name lane ≡ out → ⊥) (Audio l) ls apart) more,
    )

-- so they can from the first piece on
pub held_still : (told after : Option Files) (out : List ℕ) (lanes : List Lane) → others after out ≡ others told out → StandApartFrom out lanes → AreHeld told lanes → AreHeld after lanes
held_still told after out [] same apart are = tt
held_still told after out (Video l ∷ ls) same apart ((is, held), more) =
    let here = stays_left told after out l.stream.name.now same (All-head (λ lane. lane_name lane ≡ out → ⊥) (Video l) ls apart) in (
      (is, if_same (HoldsVideo l) (file_of told l.stream) (file_of after l.stream) (here READ_MOST 0) held),
      held_still told after out ls same (All-tail (λ lane. lane_name lane ≡ out → ⊥) (Video l) ls apart) more,
    )
held_still told after out (Audio l ∷ ls) same apart ((is, held), more) =
    let here = stays_left told after out l.stream.name.now same (All-head (λ lane. lane_name lane ≡ out → ⊥) (Audio l) ls apart) in (
      (is, if_same (HoldsAudio l) (file_of told l.stream) (file_of after l.stream) (here READ_MOST 0) held),
      held_still told after out ls same (All-tail (λ lane. lane_name lane ≡ out → ⊥) (Audio l) ls apart) more,
    )

-- ---- what they send

file_same : (files after : Files) (out : List ℕ) (place : StreamPlace) → others (Some after) out ≡ others (Some files) out → (place.name.now ≡ out → ⊥) → file_in files place ≡ file_in after place
file_same files after out place same apart = ap (λ (content : List ℕ). take (READ_MOST - 0) (drop 0 content)) (same_content files after out place.name.now same apart)

-- they have the versions that they had
pub versions_still : (files after : Files) (out : List ℕ) (lanes : List Lane) (versions : List (List (List UnitVersion))) → others (Some after) out ≡ others (Some files) out
    → StandApartFrom out lanes → AreLanesVersions files lanes versions → AreLanesVersions after lanes versions
versions_still files after out [] [] same apart are = tt
versions_still files after out [] (v ∷ vs) same apart are = absurd are
versions_still files after out (l ∷ ls) [] same apart are = absurd are
versions_still files after out (Video l ∷ ls) (v ∷ vs) same apart (own, more) = (
  subst (λ (file : List ℕ). AreVersionsIn l file v) (file_same files after out l.stream same (All-head (λ lane. lane_name lane ≡ out → ⊥) (Video l) ls apart)) own,
  versions_still files after out ls vs same (All-tail (λ lane. lane_name lane ≡ out → ⊥) (Video l) ls apart) more,
)
versions_still files after out (Audio l ∷ ls) (v ∷ vs) same apart (own, more) =
    (own, versions_still files after out ls vs same (All-tail (λ lane. lane_name lane ≡ out → ⊥) (Audio l) ls apart) more)

pub have_still : (told after : Option Files) (out : List ℕ) (lanes : List Lane) → others after out ≡ others told out → StandApartFrom out lanes → HaveLanesVersions told lanes
    → HaveLanesVersions after lanes
have_still None None out lanes same apart have = tt
have_still None (Some after) out lanes same apart have = absurd (none-some _ (sym same))
have_still (Some files) None out lanes same apart have = absurd (none-some _ same)
have_still (Some files) (Some after) out lanes same apart (versions, are) = (versions, ∥∥₁_map are (versions_still files after out lanes versions same apart))

-- and these give the pieces that they gave
pub items_still : (files after : Files) (out : List ℕ) (lanes : List Lane) (versions : List (List (List UnitVersion))) → others (Some after) out ≡ others (Some files) out
    → StandApartFrom out lanes → lanes_items files lanes versions ≡ lanes_items after lanes versions
items_still files after out [] versions same apart = refl
items_still files after out (l ∷ ls) [] same apart = refl
items_still files after out (Video l ∷ ls) (v ∷ vs) same apart =
    ap (λ (rest : List (List (List Payload))). lane_items files (Video l) v ∷ rest)
    (items_still files after out ls vs same (All-tail (λ lane. lane_name lane ≡ out → ⊥) (Video l) ls apart))
items_still files after out (Audio l ∷ ls) (v ∷ vs) same apart =
    ap₂ (λ (items : List (List Payload)) (rest : List (List (List Payload))). items ∷ rest)
    (ap (λ (file : List ℕ). map (λ piece. audio_payload (bytes_of l.stream file) piece ∷ []) l.pieces.now)
    (file_same files after out l.stream same (All-head (λ lane. lane_name lane ≡ out → ⊥) (Audio l) ls apart)))
    (items_still files after out ls vs same (All-tail (λ lane. lane_name lane ≡ out → ⊥) (Audio l) ls apart))
