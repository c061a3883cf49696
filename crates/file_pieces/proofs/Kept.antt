-- What is kept of a stream that is sent, one step further.
use Rattle.std.proofs.Common.{◌≡◌, ℕ, suc, ◌+◌, ◌<◌, ◌≤◌, List, [], length, slice_index, slice_index_or, false, Option, Some, None, IfSome, refl, ap, subst, sym, ◌∙◌, arith}
use Rattle.std.proofs.lemmas.List.Elements.{All-get_or}
use Rattle.shelf_io.specs.Files.{Files}
use Rattle.syntax_types.specs.declared.picture.SeqState.{SeqState}
use Rattle.bit_lists.specs.Payload.{Payload}
use Rattle.pes_units.specs.PesPieces.{packets_for, piece_of}
use Rattle.mux_writer.specs.declared.piece_source.Filled.{Filled}
use Rattle.mux_writer.specs.Pieces.{IsFilledWith}
use Rattle.es_window.specs.PassingBytes.{IsPart}
use Rattle.program_reader.specs.declared.program.UnitSource.{UnitSource}
use Rattle.version_maker.specs.declared.version.UnitVersion.{UnitVersion}
use Rattle.version_maker.specs.Versions.{AreVersions}
use Rattle.version_source.specs.Sendable.{LeavesState, bytes_of_unit}
use Rattle.version_source.specs.Private.Sending.{LeaveBehind}
use Rattle.program_reader.proofs.Missing.{no_unit}
use Rattle.version_source.proofs.Items.{item-is, piece-at}
use Rattle.version_source.proofs.StateLemmas.{next-there, one-more}
use Rattle.file_pieces.specs.declared.lane.VideoLane.{VideoLane}
use Rattle.file_pieces.specs.declared.lane_state.LaneState.{LaneState}
use Rattle.file_pieces.specs.declared.stream_place.StreamPlace.{StreamPlace}
use Rattle.file_pieces.specs.declared.unit_again.UnitPlan.{UnitPlan}
use Rattle.file_pieces.specs.FileStream.{Follows, HasBytesTo, bytes_of, file_of}
use Rattle.file_pieces.specs.Lane.{HoldsVideo, IsPlanOf, IsUnitPlace, IsVideoHeld, IsVideoLane, planned_size, unit_at}
use Rattle.file_pieces.specs.LaneState.{IsUnitPacket, IsVideoKept, IsVideoSent}
use Rattle.file_pieces.specs.UnitAgain.{IsPacketAgain, IsPicture, IsPlannedSize, packet_in}

-- ---- what is told

pub if_told : {A : Type 0} {P Q : A → Type 0} (o : Option A) → IfSome o P → ((x : A) → P x → Q x) → IfSome o Q
if_told None holds on = tt
if_told (Some x) holds on = on x holds

pub all_told : {A : Type 0} {P Q R S : A → Type 0} (o : Option A) → IfSome o P → IfSome o Q → IfSome o R → ((x : A) → P x → Q x → R x → S x) → IfSome o S
all_told None first second third on = tt
all_told (Some x) first second third on = on x first second third

-- what can't be of a file that is told shows that none is
pub none_told : (told : Option Files) (place : StreamPlace) → IfSome (file_of told place) (λ _. ⊥) → told ≡ None
none_told None place never = refl
none_told (Some files) place never = absurd never

-- ---- a unit

pub unit_place : (lane : VideoLane) (k : ℕ) → IsVideoLane lane → k < length lane.units.now → IsUnitPlace (unit_at lane k)
unit_place lane k is within = All-get_or IsUnitPlace lane.units.now k _ within is.units_stand

pub index_few : (lane : VideoLane) (k : ℕ) → IsVideoLane lane → k < length lane.units.now → slice_index lane.choice.now k ≤ length lane.coarser.now
index_few lane k is within =
    All-get_or (λ (index : ℕ). index ≤ length lane.coarser.now) lane.choice.now k 0 (let few = is.enough in omega (arith, few, within)) is.chosen

pub unit_stands : (told : Option Files) (lane : VideoLane) (k : ℕ) (unit : UnitSource) → unit ≡ unit_at lane k → k < length lane.units.now → IsVideoHeld told lane
    → IfSome (file_of told lane.stream) (HasBytesTo lane.stream unit.end)
unit_stands told lane k unit is within held =
    subst (λ (u : UnitSource). IfSome (file_of told lane.stream) (HasBytesTo lane.stream u.end)) (sym is) (if_told (file_of told lane.stream) held (λ file holds. holds.stands k within))

-- what was read of a unit that stands in a file that is told: its bytes, behind the state before it
pub record IsReadUnit (lane : VideoLane) (file : List ℕ) (k : ℕ) (state : Option SeqState) (bytes : List ℕ) : Type 0 where
  pub holds : HoldsVideo lane file
  pub left : LeaveBehind (bytes_of lane.stream file) None lane.units.now k state
  pub bytes_are : bytes ≡ bytes_of_unit (bytes_of lane.stream file) (unit_at lane k)

pub read_unit : (told : Option Files) (lane : VideoLane) (k : ℕ) (unit : UnitSource) (state read : Option SeqState) (bytes : List ℕ) → unit ≡ unit_at lane k → read ≡ state → IsVideoHeld told lane
    → IfSome (file_of told lane.stream) (λ file. LeaveBehind (bytes_of lane.stream file) None lane.units.now k state)
    → IfSome (file_of told lane.stream) (λ file. IsPart (bytes_of lane.stream file) unit.begin unit.end bytes)
    → IfSome (file_of told lane.stream) (λ file. IsReadUnit lane file k read bytes)
read_unit told lane k unit state read bytes is same held left part =
    all_told (file_of told lane.stream) held left part
    (λ file holds here there. record {
      holds = holds;
      left = subst (λ (s : Option SeqState). LeaveBehind (bytes_of lane.stream file) None lane.units.now k s) (sym same) here;
      bytes_are = there.part_is ∙ ap (bytes_of_unit (bytes_of lane.stream file)) is;
    })

-- it is a picture
pub is_picture : (lane : VideoLane) (file : List ℕ) (k : ℕ) (read : Option SeqState) (bytes : List ℕ) → k < length lane.units.now → IsReadUnit lane file k read bytes → IsPicture read bytes
is_picture lane file k read bytes within is =
    subst (λ (b : List ℕ). IsPicture read b) (sym is.bytes_are) (next-there (bytes_of lane.stream file) None lane.units.now k read no_unit is.holds.pictures is.left within)

-- behind it another state is in force
pub left_on : (lane : VideoLane) (file : List ℕ) (k : ℕ) (read : Option SeqState) (bytes : List ℕ) (new : SeqState) → k < length lane.units.now → IsReadUnit lane file k read bytes
    → (IsPicture read bytes → LeavesState read bytes new) → LeaveBehind (bytes_of lane.stream file) None lane.units.now (k + 1) (Some new)
left_on lane file k read bytes new within is leaves =
    let es = bytes_of lane.stream file in
    let here : LeavesState read (bytes_of_unit es (unit_at lane k)) new = subst (λ (b : List ℕ). LeavesState read b new) is.bytes_are (leaves (is_picture lane file k read bytes within is)) in
    subst (λ (n : ℕ). LeaveBehind es None lane.units.now n (Some new)) (let e : suc k ≡ k + 1 = omega arith in e)
    (one-more es None lane.units.now k read no_unit new is.left within here)

-- no file that is told has bytes there that aren't a picture
pub never_misread : (told : Option Files) (lane : VideoLane) (k : ℕ) (read : Option SeqState) (bytes : List ℕ) → k < length lane.units.now
    → IfSome (file_of told lane.stream) (λ file. IsReadUnit lane file k read bytes) → (IsPicture read bytes → ⊥) → told ≡ None
never_misread told lane k read bytes within is never =
    none_told told lane.stream (if_told (file_of told lane.stream) is (λ file unit. never (is_picture lane file k read bytes within unit)))

-- ---- its PES packet

-- it has the size that is planned
pub is_planned : (lane : VideoLane) (file : List ℕ) (k : ℕ) (read : Option SeqState) (bytes : List ℕ) (plan : UnitPlan) → k < length lane.units.now → IsPlanOf lane k plan
    → IsReadUnit lane file k read bytes → IsPlannedSize read bytes plan
is_planned lane file k read bytes plan within planned is =
    subst (λ (b : List ℕ). IsPlannedSize read b plan) (sym is.bytes_are) (is.holds.planned k read plan within is.left planned)

pub never_missized : (told : Option Files) (lane : VideoLane) (k : ℕ) (read : Option SeqState) (bytes : List ℕ) (plan : UnitPlan) → k < length lane.units.now → IsPlanOf lane k plan
    → IfSome (file_of told lane.stream) (λ file. IsReadUnit lane file k read bytes) → (IsPicture read bytes → IsPlannedSize read bytes plan → ⊥) → told ≡ None
never_missized told lane k read bytes plan within planned is never =
    none_told told lane.stream (if_told (file_of told lane.stream) is (λ file unit. never (is_picture lane file k read bytes within unit) (is_planned lane file k read bytes plan within planned unit)))

-- whichever versions the video has, its pieces are the unit's
pub packet_there : (told : Option Files) (lane : VideoLane) (k : ℕ) (read : Option SeqState) (bytes : List ℕ) (plan : UnitPlan) (packet : List ℕ) → IsVideoLane lane → k < length lane.units.now
    → IsPlanOf lane k plan → IfSome (file_of told lane.stream) (λ file. IsReadUnit lane file k read bytes) → IsPacketAgain read bytes plan packet → IsUnitPacket told lane k packet
packet_there told lane k read bytes plan packet lane_is within planned is again = record {
  size_is = again.size_is ∙ planned.size_is;
  pieces_are = if_told (file_of told lane.stream) is (λ file unit versions are.
      item-is (bytes_of lane.stream file) lane.coarser.now lane.units.now versions lane.choice.now k read no_unit packet are unit.left within
      (let few = lane_is.enough in omega (arith, few, within))
      (λ own those. again.packet_is own (subst (λ (b : List ℕ). AreVersions read b plan.coarser.now own) (sym unit.bytes_are)
      (subst (λ (c : List ℕ). AreVersions read (bytes_of_unit (bytes_of lane.stream file) (unit_at lane k)) c own) (sym planned.coarser_are) those))
      ∙ same_packet own));
}
  where
    same_packet : (own : List UnitVersion) → packet_in plan.times own plan.index ≡ packet_in (unit_at lane k).times own (slice_index lane.choice.now k)
    same_packet own = rw (planned.times_are, planned.index_is) refl

-- a piece of it is the unit's piece
pub piece_sent : (told : Option Files) (lane : VideoLane) (k piece : ℕ) (packet : List ℕ) (filled : Filled) (buffer : List ℕ) → IsUnitPacket told lane k packet
    → piece < packets_for (planned_size lane k) → IsFilledWith (piece_of packet piece) filled buffer → IsVideoSent told lane k piece buffer filled
piece_sent told lane k piece packet filled buffer is few put =
    let none : Payload = record { start = false; bytes = [] } in
    if_told (file_of told lane.stream) is.pieces_are (λ file pieces versions are.
    subst (λ (payload : Payload). IsFilledWith payload filled buffer)
    (sym (ap (λ (xs : List Payload). slice_index_or xs piece none) (pieces versions are) ∙ piece-at packet piece none (subst (λ (n : ℕ). piece < packets_for n) (sym is.size_is) few))) put)

-- ---- the whole state

pub kept_with : (told told_after : Option Files) (lane : VideoLane) (kept : LaneState) → told_after ≡ told → IsVideoKept told_after lane kept → IsVideoKept told lane kept
kept_with told told_after lane kept same is = subst (λ (t : Option Files). IsVideoKept t lane kept) same is

-- before the first unit
pub at_front : (told : Option Files) (lane : VideoLane) (kept : LaneState) → Follows told lane.stream kept.file → kept.next ≡ 0 → kept.state ≡ None → kept.packet ≡ None → IsVideoKept told lane kept
at_front told lane kept follows next state packet = record {
  follows = follows;
  within = omega (arith, next);
  precedes = rw state tt;
  state_is = front (file_of told lane.stream);
  packet_is = λ bytes number some _. absurd (let bad : None ≡ Some bytes = sym packet ∙ some in cc);
}
  where
    front : (o : Option (List ℕ)) → IfSome o (λ file. LeaveBehind (bytes_of lane.stream file) None lane.units.now kept.next kept.state)
    front None = tt
    front (Some file) = rw (next, state) refl
