-- A unit is one picture, or breaks one rule, and never both.
use Rattle.std.proofs.Common.{◌≡◌, ℕ, ◌+◌, ◌/◌, List, [], length, Option, sym, ap, ◌∙◌, subst, inl, inr, arith}
use Rattle.bit_lists.specs.Fields.{bit_list}
use Rattle.syntax_types.specs.declared.picture.PicCoding.{PicCoding}
use Rattle.syntax_types.specs.declared.picture.Picture.{Picture}
use Rattle.syntax_types.specs.declared.picture.SeqState.{SeqState}
use Rattle.picture_grammar.specs.Picture.{IsCovered, RefusesPicture, SpellsPicture}
use Rattle.picture_grammar.specs.Refusal.{Refusal}
use Rattle.picture_grammar.proofs.HeaderLaws.{exact-picture_unit}
use Rattle.program_reader.specs.declared.timed_picture.TimedPicture.{TimedPicture}
use Rattle.program_reader.specs.Units.{unit_bytes, state_behind, IsCoded, IsBroken}

spelled_one : (before : Option SeqState) (bytes : List ℕ) (p q : Picture) → SpellsPicture before p bytes → SpellsPicture before q bytes → p ≡ q
spelled_one before bytes p q is other = ((exact-picture_unit before).one_value p q (bit_list bytes) [] [] is other).0

spelled_or_refused : (before : Option SeqState) (bytes : List ℕ) (p : Picture) (refusal : Refusal) (place : ℕ) → SpellsPicture before p bytes → IsCovered p →
    RefusesPicture before bytes refusal place → ⊥
spelled_or_refused before bytes p refusal place is covered (inl (left, refused, at)) = (exact-picture_unit before).not_both p (bit_list bytes) [] left refusal is refused
spelled_or_refused before bytes p refusal place is covered (inr (q, other, uncovered, kind, at)) = uncovered (subst IsCovered (spelled_one before bytes p q is other) covered)

refused_one : (before : Option SeqState) (bytes : List ℕ) (r s : Refusal) (place other : ℕ) → RefusesPicture before bytes r place → RefusesPicture before bytes s other → (r ≡ s) × (place ≡ other)
refused_one before bytes r s place other (inl (left, refused, at)) (inl (left', refused', at')) =
    let same = (exact-picture_unit before).one_refusal (bit_list bytes) left left' r s refused refused' in
    (same.0, (let size : length left ≡ length left' = ap (λ (bits : List ℕ). length bits) same.1 in omega (arith, size, at, at')))
refused_one before bytes r s place other (inl (left, refused, at)) (inr (q, is, uncovered, kind, at')) = absurd ((exact-picture_unit before).not_both q (bit_list bytes) [] left r is refused)
refused_one before bytes r s place other (inr (q, is, uncovered, kind, at)) (inl (left, refused, at')) = absurd ((exact-picture_unit before).not_both q (bit_list bytes) [] left s is refused)
refused_one before bytes r s place other (inr (q, is, uncovered, kind, at)) (inr (q', is', uncovered', kind', at')) = (kind ∙ sym kind', at ∙ sym at')

pub coded_one : (es : List ℕ) (before : Option TimedPicture) (unit : ℕ × ℕ) (seq seq' : SeqState) (coding coding' : PicCoding) → IsCoded es before unit seq coding →
    IsCoded es before unit seq' coding' → (seq ≡ seq') × (coding ≡ coding')
coded_one es before unit seq seq' coding coding' is other =
    let same : is.picture ≡ other.picture = spelled_one (state_behind before) (unit_bytes es unit) is.picture other.picture is.whole.spelled other.whole.spelled in
    (sym is.seq_is ∙ ap (λ (p : Picture). p.seq) same ∙ other.seq_is, sym is.coding_is ∙ ap (λ (p : Picture). p.coding) same ∙ other.coding_is)

pub coded_or_broken : (es : List ℕ) (before : Option TimedPicture) (unit : ℕ × ℕ) (seq : SeqState) (coding : PicCoding) (refusal : Refusal) (at : ℕ) → IsCoded es before unit seq coding →
    IsBroken es before unit refusal at → ⊥
coded_or_broken es before unit seq coding refusal at is broken =
    spelled_or_refused (state_behind before) (unit_bytes es unit) is.picture refusal broken.place is.whole.spelled is.whole.covered broken.refused

pub broken_one : (es : List ℕ) (before : Option TimedPicture) (unit : ℕ × ℕ) (r s : Refusal) (at other : ℕ) → IsBroken es before unit r at → IsBroken es before unit s other →
    (r ≡ s) × (at ≡ other)
broken_one es before unit r s at other is is' =
    let same = refused_one (state_behind before) (unit_bytes es unit) r s is.place is'.place is.refused is'.refused in
    (same.0, is.at_is ∙ ap (λ (place : ℕ). unit.0 + place / 8) same.1 ∙ sym is'.at_is)
