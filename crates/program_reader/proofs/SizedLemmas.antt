-- The sizes of units, one more behind the others.
use Rattle.std.proofs.Common.{
  ◌≡◌,
  ◌⊎◌,
  ℕ,
  ◌-◌,
  ◌≤◌,
  Bool,
  true,
  false,
  List,
  [],
  ◌∷◌,
  ◌++◌,
  length,
  drop,
  map,
  Option,
  None,
  Some,
  Result,
  Ok,
  Err,
  IfOk,
  refl,
  sym,
  ap,
  ◌∙◌,
  subst,
  inl,
  inr,
  arith,
  ap₂,
  ℤ,
}
use Rattle.std.proofs.lemmas.List.{map-append, length-take-le, length-drop, append-nil}
use Rattle.syntax_types.specs.declared.picture.Picture.{Picture}
use Rattle.syntax_types.specs.declared.picture.SeqState.{SeqState}
use Rattle.grammar_reading.specs.BitsRead.{PlacedRefusal}
use Rattle.picture_reader.specs.Picture.{IsPictureOf}
use Rattle.picture_reader.proofs.Units.{one-picture}
use Rattle.version_maker.specs.declared.version.VersionSize.{VersionSize}
use Rattle.version_maker.specs.Versions.{AreSizes}
use Rattle.program_reader.specs.declared.kept_units.KeptUnit.{KeptUnit}
use Rattle.program_reader.specs.declared.kept_units.KeptUnits.{KeptUnits}
use Rattle.elementary_streams.specs.declared.pes_packets.PlacedPacket.{PlacedPacket}
use Rattle.program_reader.specs.declared.program.Program.{Program}
use Rattle.program_reader.specs.declared.program.UnitSource.{UnitSource}
use Rattle.program_reader.specs.declared.program_fault.ProgramFault.{ProgramFault}
use Rattle.program_reader.specs.declared.timed_picture.TimedPicture.{TimedPicture}
use Rattle.program_reader.specs.declared.unit_picture.TimedUnit.{TimedUnit}
use Rattle.program_reader.specs.declared.unit_sizes.UnitSizes.{UnitSizes}
use Rattle.program_reader.specs.declared.video_stream.ReadVideo.{ReadVideo}
use Rattle.program_reader.specs.KeptUnits.{row_of, kept_at}
use Rattle.program_reader.specs.Sizes.{AreSizedSoFar, AreProgramSizes, AreUnitSizes, stands_at}
use Rattle.program_reader.specs.Intervals.{nearest}
use Rattle.program_reader.specs.Units.{IsNext, state_behind, unit_bytes}
use Rattle.program_reader.specs.Dues.{AreDueUnits}
use Rattle.program_reader.specs.Private.SizedUnits.{IsSizedBehind, IsSizedFound}
use Rattle.program_reader.specs.Private.TimedPictures.{broken_answer}
use Rattle.program_reader.specs.declared.limits.TheConstants.{UNIT_BYTES_MOST}

-- ---- one unit

-- a unit that breaks a rule has no sizes
pub broken_sizes : (before : Option SeqState) (bytes coarser : List ℕ) (wanted : Bool) (old new : List UnitSizes) (unit : TimedUnit) (told : Option PlacedRefusal) →
    (told ≡ None) ⊎ (new ≡ old) → IfOk (broken_answer unit told) (IsSizedFound before bytes coarser wanted old new)
broken_sizes before bytes coarser wanted old new unit None same = tt
broken_sizes before bytes coarser wanted old new unit (Some said) (inl none) = absurd cc
broken_sizes before bytes coarser wanted old new unit (Some said) (inr same) = by_last unit.is_last refl
  where
    by_last : (last : Bool) → unit.is_last ≡ last → IfOk (broken_answer unit (Some said)) (IsSizedFound before bytes coarser wanted old new)
    by_last true is = rw is same
    by_last false is = rw is tt

pub sized_found : (before : Option SeqState) (bytes coarser : List ℕ) (wanted : Bool) (old new : List UnitSizes) (found : Option TimedPicture) (picture : TimedPicture) → found ≡ Some picture →
    IsSizedFound before bytes coarser wanted old new found → IsSizedBehind before bytes coarser wanted old new
sized_found before bytes coarser wanted old new found picture some is = subst (λ (f : Option TimedPicture). IsSizedFound before bytes coarser wanted old new f) some is

pub sized_not_found : (before : Option SeqState) (bytes coarser : List ℕ) (wanted : Bool) (old new : List UnitSizes) (found : Option TimedPicture) → found ≡ None →
    IsSizedFound before bytes coarser wanted old new found → new ≡ old
sized_not_found before bytes coarser wanted old new found none is = subst (λ (f : Option TimedPicture). IsSizedFound before bytes coarser wanted old new f) none is

unit_length : (es : List ℕ) (unit : ℕ × ℕ) → unit.0 ≤ unit.1 → unit.1 ≤ length es → length (unit_bytes es unit) ≡ unit.1 - unit.0
unit_length es unit order within = length-take-le (unit.1 - unit.0) (drop unit.0 es) (omega (arith, length-drop unit.0 es, order, within))

-- the state that a picture leaves is the one that its sizes are told with
state_sized : (before : Option SeqState) (unit coarser : List ℕ) (sizes : List VersionSize) (are : AreSizes before unit coarser sizes) (picture : Picture) → IsPictureOf before unit picture →
    are.are.picture.seq ≡ picture.seq
state_sized before unit coarser sizes are picture whole = ap (λ (p : Picture). p.seq) (one-picture before unit are.are.picture picture are.are.whole whole)

-- ---- units, one behind the other

pub sized_none : (es coarser : List ℕ) (last : Option TimedPicture) (rows : List KeptUnit) (sizes : List UnitSizes) → rows ≡ [] → last ≡ None → sizes ≡ [] →
    AreSizedSoFar es coarser (state_behind last) (map kept_at rows) sizes
sized_none es coarser last rows sizes no_rows no_last no_sizes =
    let none : AreSizedSoFar es coarser None [] [] = record { all = λ left more are. are } in
    subst (λ (ss : List UnitSizes). AreSizedSoFar es coarser (state_behind last) (map kept_at rows) ss) (sym no_sizes)
    (subst (λ (rs : List KeptUnit). AreSizedSoFar es coarser (state_behind last) (map kept_at rs) []) (sym no_rows)
    (subst (λ (b : Option TimedPicture). AreSizedSoFar es coarser (state_behind b) [] []) (sym no_last) none))

push_then : {A : Type 0} (xs : List A) (x : A) (ys : List A) → (xs ++ x ∷ []) ++ ys ≡ xs ++ x ∷ ys
push_then [] x ys = refl
push_then {A = A} (z ∷ zs) x ys = ap (λ (those : List A). z ∷ those) (push_then zs x ys)

-- the sizes of one more unit
one_more : (es coarser : List ℕ) (before behind : Option SeqState) (units : List (ℕ × ℕ)) (unit : ℕ × ℕ) (sizes : List UnitSizes) (own : UnitSizes) →
    (are : AreSizes before (unit_bytes es unit) coarser own.versions.items) → behind ≡ Some are.are.picture.seq → AreSizedSoFar es coarser before units sizes →
    AreSizedSoFar es coarser behind (units ++ unit ∷ []) (sizes ++ own ∷ [])
one_more es coarser before behind units unit sizes own are state so_far = record {
  all = λ left more rest.
      let those : AreUnitSizes es coarser None (units ++ unit ∷ left) (sizes ++ own ∷ more) =
      so_far.all (unit ∷ left) (own ∷ more) (are, subst (λ (s : Option SeqState). AreUnitSizes es coarser s left more) state rest) in
      subst (λ (us : List (ℕ × ℕ)). AreUnitSizes es coarser None us ((sizes ++ own ∷ []) ++ more)) (sym (push_then units unit left))
      (subst (λ (ss : List UnitSizes). AreUnitSizes es coarser None (units ++ unit ∷ left) ss) (sym (push_then sizes own more)) those);
}

pub sized_more : (slice es : List ℕ) (packets : List PlacedPacket) (coarser : List ℕ) (wanted : Bool) (earlier : List TimedPicture) (before : Option TimedPicture) (unit : ℕ × ℕ)
    (picture : TimedPicture) (old new : KeptUnits) (sizes more : List UnitSizes) → slice ≡ es → before ≡ old.last → nearest earlier ≡ old.last → unit.0 ≤ unit.1 → unit.1 ≤ length es →
    IsNext es packets earlier unit picture →
    IsSizedBehind (state_behind before) (unit_bytes slice unit) coarser wanted sizes more → new.units.items ≡ old.units.items ++ row_of unit picture ∷ [] → new.last ≡ Some picture →
    (wanted ≡ true → AreSizedSoFar es coarser (state_behind old.last) (map kept_at old.units.items) sizes) → wanted ≡ true →
    AreSizedSoFar es coarser (state_behind new.last) (map kept_at new.units.items) more
sized_more slice es packets coarser wanted earlier before unit picture old new sizes more same is last_same order within next sized items last so_far want =
    let here : IsSizedBehind (state_behind old.last) (unit_bytes es unit) coarser wanted sizes more =
    subst (λ (b : Option TimedPicture). IsSizedBehind (state_behind b) (unit_bytes es unit) coarser wanted sizes more) is
    (subst (λ (xs : List ℕ). IsSizedBehind (state_behind before) (unit_bytes xs unit) coarser wanted sizes more) same sized) in
    let short : length (unit_bytes es unit) ≤ UNIT_BYTES_MOST = omega (arith, unit_length es unit order within, next.short) in
    let (own, are, more_is) = here want short in
    let whole : IsPictureOf (state_behind old.last) (unit_bytes es unit) next.coded.picture =
    subst (λ (b : Option TimedPicture). IsPictureOf (state_behind b) (unit_bytes es unit) next.coded.picture) last_same next.coded.whole in
    let left : state_behind (Some picture) ≡ Some are.are.picture.seq =
    ap (λ (s : SeqState). Some s)
    (sym next.coded.seq_is ∙ sym (state_sized (state_behind old.last) (unit_bytes es unit) coarser own.versions.items are next.coded.picture whole)) in
    let behind : state_behind new.last ≡ Some are.are.picture.seq = ap state_behind last ∙ left in
    let places : map kept_at new.units.items ≡ map kept_at old.units.items ++ unit ∷ [] =
    ap (map kept_at) items ∙ map-append kept_at old.units.items (row_of unit picture ∷ []) in
    subst (λ (ss : List UnitSizes). AreSizedSoFar es coarser (state_behind new.last) (map kept_at new.units.items) ss) (sym more_is)
    (subst (λ (us : List (ℕ × ℕ)). AreSizedSoFar es coarser (state_behind new.last) us (sizes ++ own ∷ [])) (sym places)
    (one_more es coarser (state_behind old.last) (state_behind new.last) (map kept_at old.units.items) unit sizes own are behind (so_far want)))

-- the sizes of all
pub sized_all : (es coarser : List ℕ) (before : Option SeqState) (units : List (ℕ × ℕ)) (sizes : List UnitSizes) → AreSizedSoFar es coarser before units sizes
    → AreUnitSizes es coarser None units sizes
sized_all es coarser before units sizes so_far =
    subst (λ (us : List (ℕ × ℕ)). AreUnitSizes es coarser None us sizes) (append-nil units)
    (subst (λ (ss : List UnitSizes). AreUnitSizes es coarser None (units ++ []) ss) (append-nil sizes) (so_far.all [] [] tt))

-- ---- a video and a program

pub video_sizes : (result : Result ReadVideo ProgramFault) (es coarser : List ℕ) (wanted : Bool) (rows : List KeptUnit) (sizes : List UnitSizes) →
    IfOk result (λ video. video.taken.payload.items ≡ es) → IfOk result (λ video. video.units.items ≡ rows) → (wanted ≡ true → AreUnitSizes es coarser None (map kept_at rows) sizes) →
    IfOk result (λ video. wanted ≡ true → AreUnitSizes video.taken.payload.items coarser None (map kept_at video.units.items) sizes)
video_sizes (Err fault) es coarser wanted rows sizes bytes same are = tt
video_sizes (Ok video) es coarser wanted rows sizes bytes same are = λ want.
    subst (λ (xs : List ℕ). AreUnitSizes xs coarser None (map kept_at video.units.items) sizes) (sym bytes)
    (subst (λ (rs : List KeptUnit). AreUnitSizes es coarser None (map kept_at rs) sizes) (sym same) (are want))

-- units with due times stand where they were
pub due_places : (start : ℕ) (earliest : ℤ) (rows : List KeptUnit) (units : List UnitSource) → AreDueUnits start earliest rows units → map stands_at units ≡ map kept_at rows
due_places start earliest [] [] are = refl
due_places start earliest [] (u ∷ us) are = absurd are
due_places start earliest (r ∷ rs) [] are = absurd are
due_places start earliest (r ∷ rs) (u ∷ us) are =
    ap₂ (λ (place : ℕ × ℕ) (those : List (ℕ × ℕ)). place ∷ those) (ap₂ (λ (b e : ℕ). let place : ℕ × ℕ = (b, e) in place) are.0.begin are.0.end) (due_places start earliest rs us are.1)

pub program_sizes : (program : Program) (coarser : List ℕ) (es : List ℕ) (rows : List KeptUnit) (sizes : List UnitSizes) → program.video ≡ es → map stands_at program.units ≡ map kept_at rows →
    AreUnitSizes es coarser None (map kept_at rows) sizes → AreProgramSizes program coarser sizes
program_sizes program coarser es rows sizes bytes places are =
    subst (λ (xs : List ℕ). AreUnitSizes xs coarser None (map stands_at program.units) sizes) (sym bytes)
    (subst (λ (us : List (ℕ × ℕ)). AreUnitSizes es coarser None us sizes) (sym places) are)
