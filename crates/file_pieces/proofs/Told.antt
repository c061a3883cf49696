-- What streams of files tell.
use Rattle.std.proofs.Common.{◌≡◌, ◌≤◌, ℕ, List, Option, Some, None, IfSome, IsSome, Result, Ok, Err, IfOk, ap, subst, sym, ◌∙◌, arith}
use Rattle.std.proofs.Math.Logic.{∥∥₁_elim}
use Rattle.std.proofs.Props.{props}
use Rattle.std.proofs.lemmas.Option.{same_Some}
use Rattle.shelf_io.specs.declared.fault.Fault.{Fault}
use Rattle.shelf_io.specs.Counts.{Rose}
use Rattle.shelf_io.specs.Files.{Files}
use Rattle.bit_lists.specs.Payload.{Payload}
use Rattle.mux_writer.specs.declared.piece_source.Filled.{Filled}
use Rattle.mux_writer.specs.Pieces.{IsFilledWith}
use Rattle.version_maker.specs.declared.version.UnitVersion.{UnitVersion}
use Rattle.version_source.specs.Pieces.{pieces_of}
use Rattle.version_source.specs.Private.Made.{versions-set}
use Rattle.file_pieces.specs.declared.kept_pieces.PiecesStop.{PiecesStop}
use Rattle.file_pieces.specs.declared.lane.Lane.{Lane}
use Rattle.file_pieces.specs.FilePieces.{AreLanesVersions, HaveLanesVersions, IsSentIn, lanes_items, lanes_told}
use Rattle.file_pieces.specs.LentPieces.{stops_in}
use Rattle.file_pieces.specs.Private.OneVersions.{one-lanes, one-versions}

-- by the versions that the units have
pub told_as : (told : Option Files) (lanes : List Lane) (made : HaveLanesVersions told lanes) (files : Files) (versions : List (List (List UnitVersion))) → told ≡ Some files
    → AreLanesVersions files lanes versions → lanes_told told lanes made ≡ Some (pieces_of (lanes_items files lanes versions))
told_as None lanes made files versions same are = absurd (let bad : None ≡ Some files = same in cc)
told_as (Some own) lanes made files versions same are =
    let e : own ≡ files = same_Some own files same in
    let those : AreLanesVersions own lanes versions = subst (λ (f : Files). AreLanesVersions f lanes versions) (sym e) are in
    let one : made.0 ≡ versions = ∥∥₁_elim made.1 (versions-set made.0 versions) (λ have. one-lanes own lanes made.0 versions have those) in
    ap (λ (vs : List (List (List UnitVersion))). Some (pieces_of (lanes_items own lanes vs))) one ∙ ap (λ (f : Files). Some (pieces_of (lanes_items f lanes versions))) e

-- the same where the files stay
pub told_same : (told other : Option Files) (lanes : List Lane) (made : HaveLanesVersions told lanes) (again : HaveLanesVersions other lanes) → other ≡ told
    → lanes_told other lanes again ≡ lanes_told told lanes made
told_same told other lanes made again same =
    let Same : Option Files → Type 0 = λ t. (m : HaveLanesVersions t lanes) → lanes_told t lanes m ≡ lanes_told told lanes made in
    let base : Same told = λ m. ap (lanes_told told lanes) (one-versions told lanes m made) in
    subst Same (sym same) base again

filled-prop : (payload : Payload) (filled : Filled) (buffer : List ℕ) → IsProp (IsFilledWith payload filled buffer)
filled-prop payload filled buffer = hlevel props

sent_told : (told : Option Files) (lanes : List Lane) (made : HaveLanesVersions told lanes) (stream item piece : ℕ) (buffer : List ℕ) (filled : Filled)
    → IsSentIn told lanes stream item piece buffer filled → IfSome (lanes_told told lanes made) (λ pieces. IsFilledWith (pieces stream item piece) filled buffer)
sent_told None lanes made stream item piece buffer filled sent = tt
sent_told (Some files) lanes made stream item piece buffer filled sent =
    ∥∥₁_elim made.1 (filled-prop (pieces_of (lanes_items files lanes made.0) stream item piece) filled buffer) (sent made.0)

-- a piece that was put into a buffer is the one that is told
pub answer_told : (told : Option Files) (lanes : List Lane) (made : HaveLanesVersions told lanes) (stream item piece : ℕ) (buffer : List ℕ) (result : Result Filled Fault)
    → IfOk result (IsSentIn told lanes stream item piece buffer)
    → IfOk result (λ filled. IfSome (lanes_told told lanes made) (λ pieces. IsFilledWith (pieces stream item piece) filled buffer))
answer_told told lanes made stream item piece buffer (Ok filled) sent = sent_told told lanes made stream item piece buffer filled sent
answer_told told lanes made stream item piece buffer (Err fault) sent = tt

-- ---- stops

pub rose_stops : (old new : Option PiecesStop) → old ≡ None → IsSome new → Rose (stops_in old) (stops_in new)
rose_stops None None going some = absurd (let bad = some in cc)
rose_stops None (Some stop) going some = λ below. omega arith
rose_stops (Some was) new going some = absurd (let bad : Some was ≡ None = going in cc)

pub grow_stops : (old new : Option PiecesStop) → old ≡ None → stops_in old ≤ stops_in new
grow_stops None new going = omega arith
grow_stops (Some was) new going = absurd (let bad : Some was ≡ None = going in cc)
