-- The states that units leave, one behind the other.
use Rattle.std.proofs.Common.{◌≡◌, ℕ, zero, suc, ◌<◌, List, [], ◌∷◌, length, get_or, slice_index_or, Option, Some, None, IfSome, refl, ap, subst, sym, ◌∙◌, arith}
use Rattle.bit_lists.specs.Fields.{bit_list}
use Rattle.syntax_types.specs.declared.picture.PicCoding.{PicCoding}
use Rattle.syntax_types.specs.declared.picture.Picture.{Picture}
use Rattle.syntax_types.specs.declared.picture.SeqState.{SeqState}
use Rattle.picture_grammar.specs.Picture.{IsState, MayPrecede, SpellsPicture, picture_unit}
use Rattle.picture_grammar.proofs.HeaderLaws.{exact-head}
use Rattle.grammar_reading.specs.BitsRead.{PlacedRefusal}
use Rattle.picture_laws.proofs.SpelledStates.{state-of_unit}
use Rattle.picture_laws.proofs.Totality.{no-refusal}
use Rattle.video_headers.specs.declared.head.Headers.{Headers}
use Rattle.picture_reader.specs.declared.fault.PictureFault.{PictureFault}
use Rattle.picture_reader.specs.Picture.{IsRefusedAs}
use Rattle.picture_reader.specs.PictureFault.{refusal_told}
use Rattle.picture_grammar.specs.Picture.{RefusesPicture}
use Rattle.picture_reader.specs.UnitCursor.{HeadStands, bits_from}
use Rattle.program_reader.specs.declared.program.UnitSource.{UnitSource}
use Rattle.version_maker.specs.declared.version.UnitVersion.{UnitVersion}
use Rattle.version_maker.specs.Versions.{AreVersions}
use Rattle.version_source.specs.Sendable.{LeavesState, SpellInOrder, bytes_of_unit}
use Rattle.version_source.specs.Versions.{AreVideoVersions}
use Rattle.version_source.specs.Private.OneVersions.{one-state}
use Rattle.version_source.specs.Private.Sending.{LeaveBehind}

-- ---- one unit

-- the state of a picture is the one that the head of its unit says
state-of-head : (before : Option SeqState) (picture : Picture) (unit : List ℕ) (headers : Headers) → SpellsPicture before picture unit → HeadStands before unit headers
    → picture.seq ≡ headers.seq
unfolding picture_unit
state-of-head before picture unit headers (spelled, m, (s, are_head, split), (slices, m', t, (e, f))) stands =
    let same : spelled.0 ≡ (headers.seq, headers.coding) =
    ((exact-head before).one_value spelled.0 (headers.seq, headers.coding) (bit_list unit) m (bits_from unit headers.slices_at) s stands.spelled).0 in
    ap (λ (p : Picture). p.seq) e ∙ ap (λ (pair : SeqState × PicCoding). pair.0) same

-- so a unit that spells a picture leaves the state that its head says
pub head-leaves : (before : Option SeqState) (unit : List ℕ) (headers : Headers) → (after : SeqState) × LeavesState before unit after → HeadStands before unit headers
    → LeavesState before unit headers.seq
head-leaves before unit headers (after, leaves) stands = record {
  picture = leaves.picture;
  whole = leaves.whole;
  after_is = state-of-head before leaves.picture unit headers leaves.whole.spelled stands;
}

-- and no refusal of it is told
pub not-refused : (before : Option SeqState) (unit : List ℕ) (fault : PictureFault) → (after : SeqState) × LeavesState before unit after → IsRefusedAs before unit fault
    → refusal_told fault ≡ None
not-refused before unit fault (after, leaves) refused = by_told (refusal_told fault) refused
  where
    by_told : (told : Option PlacedRefusal) → IfSome told (λ said. RefusesPicture before unit said.refusal said.at) → told ≡ None
    by_told None refused = refl
    by_told (Some said) refused = absurd (no-refusal before unit leaves.picture said.refusal said.at leaves.whole.spelled leaves.whole.covered refused)

-- ---- units, one behind the other

-- one more unit
pub one-more : (es : List ℕ) (before : Option SeqState) (units : List UnitSource) (k : ℕ) (state : Option SeqState) (d : UnitSource) (next : SeqState)
    → LeaveBehind es before units k state → k < length units → LeavesState state (bytes_of_unit es (get_or units k d)) next → LeaveBehind es before units (suc k) (Some next)
one-more es before [] k state d next behind within leaves = absurd (let e : k < 0 = within in omega (arith, e))
one-more es before (unit ∷ units) zero state d next same within leaves =
    (next, subst (λ (s : Option SeqState). LeavesState s (bytes_of_unit es unit) next) (sym same) leaves, refl)
one-more es before (unit ∷ units) (suc k) state d next (after, left, behind) within leaves =
    (after, left, one-more es (Some after) units k state d next behind (omega (arith, within)) leaves)

-- the next unit spells a picture
pub next-there : (es : List ℕ) (before : Option SeqState) (units : List UnitSource) (k : ℕ) (state : Option SeqState) (d : UnitSource)
    → SpellInOrder es before units → LeaveBehind es before units k state → k < length units → (after : SeqState) × LeavesState state (bytes_of_unit es (get_or units k d)) after
next-there es before [] k state d spelled behind within = absurd (let e : k < 0 = within in omega (arith, e))
next-there es before (unit ∷ units) zero state d (after, leaves, spelled) same within =
    (after, subst (λ (s : Option SeqState). LeavesState s (bytes_of_unit es unit) after) same leaves)
next-there es before (unit ∷ units) (suc k) state d (after, leaves, spelled) (other, left, behind) within =
    let same : after ≡ other = one-state before (bytes_of_unit es unit) after other leaves left in
    next-there es (Some other) units k state d (subst (λ (s : SeqState). SpellInOrder es (Some s) units) same spelled) behind (omega (arith, within))

-- and has its versions behind that state
pub versions-there : (es coarser : List ℕ) (before : Option SeqState) (units : List UnitSource) (versions : List (List UnitVersion)) (k : ℕ) (state : Option SeqState) (d : UnitSource)
    → AreVideoVersions es coarser before units versions → LeaveBehind es before units k state → k < length units
    → AreVersions state (bytes_of_unit es (get_or units k d)) coarser (slice_index_or versions k [])
versions-there es coarser before [] versions k state d are behind within = absurd (let e : k < 0 = within in omega (arith, e))
versions-there es coarser before (unit ∷ units) [] k state d are behind within = absurd are
versions-there es coarser before (unit ∷ units) (first ∷ more) zero state d (after, leaves, here, are) same within =
    subst (λ (s : Option SeqState). AreVersions s (bytes_of_unit es unit) coarser first) same here
versions-there es coarser before (unit ∷ units) (first ∷ more) (suc k) state d (after, leaves, here, are) (other, left, behind) within =
    let same : after ≡ other = one-state before (bytes_of_unit es unit) after other leaves left in
    versions-there es coarser (Some other) units more k state d (subst (λ (s : SeqState). AreVideoVersions es coarser (Some s) units more) same are) behind (omega (arith, within))

-- a state that units leave may precede another unit
pub state-left : (before : Option SeqState) (unit : List ℕ) (after : SeqState) → MayPrecede before → LeavesState before unit after → IsState after
state-left before unit after may leaves = subst IsState leaves.after_is (state-of_unit before leaves.picture (bit_list unit) [] may leaves.whole.spelled)

pub left-precedes : (es : List ℕ) (before : Option SeqState) (units : List UnitSource) (k : ℕ) (state : Option SeqState) → MayPrecede before → LeaveBehind es before units k state
    → MayPrecede state
left-precedes es before units zero state may same = subst MayPrecede same may
left-precedes es before [] (suc k) state may behind = absurd behind
left-precedes es before (unit ∷ units) (suc k) state may (after, left, behind) = left-precedes es (Some after) units k state (state-left before (bytes_of_unit es unit) after may left) behind

-- the same where the state and the number are known by equations
pub next-behind : (es : List ℕ) (units : List UnitSource) (k : ℕ) (state read : Option SeqState) (d : UnitSource) → read ≡ state → SpellInOrder es None units
    → LeaveBehind es None units k state → k < length units → (after : SeqState) × LeavesState read (bytes_of_unit es (get_or units k d)) after
next-behind es units k state read d same spelled behind within =
    subst (λ (s : Option SeqState). (after : SeqState) × LeavesState s (bytes_of_unit es (get_or units k d)) after) (sym same) (next-there es None units k state d spelled behind within)

pub one-further : (es : List ℕ) (units : List UnitSource) (k n : ℕ) (state read : Option SeqState) (d : UnitSource) (next : SeqState) → read ≡ state → n ≡ suc k
    → LeaveBehind es None units k state → k < length units → LeavesState read (bytes_of_unit es (get_or units k d)) next → LeaveBehind es None units n (Some next)
one-further es units k n state read d next same on behind within leaves =
    subst (λ (m : ℕ). LeaveBehind es None units m (Some next)) (sym on)
    (one-more es None units k state d next behind within (subst (λ (s : Option SeqState). LeavesState s (bytes_of_unit es (get_or units k d)) next) same leaves))

pub may-precede : (es : List ℕ) (units : List UnitSource) (k : ℕ) (state read : Option SeqState) → read ≡ state → LeaveBehind es None units k state → MayPrecede read
may-precede es units k state read same behind = subst MayPrecede (sym same) (left-precedes es None units k state tt behind)

-- the same where the bytes of the unit are known by an equation
pub not-refused-of : (before : Option SeqState) (bytes unit : List ℕ) (fault : PictureFault) → bytes ≡ unit → (after : SeqState) × LeavesState before unit after
    → IsRefusedAs before bytes fault → refusal_told fault ≡ None
not-refused-of before bytes unit fault same there refused = not-refused before unit fault there (subst (λ (b : List ℕ). IsRefusedAs before b fault) same refused)

pub head-leaves-of : (before : Option SeqState) (bytes unit : List ℕ) (headers : Headers) → bytes ≡ unit → (after : SeqState) × LeavesState before unit after → HeadStands before bytes headers
    → LeavesState before unit headers.seq
head-leaves-of before bytes unit headers same there stands = head-leaves before unit headers there (subst (λ (b : List ℕ). HeadStands before b headers) same stands)
