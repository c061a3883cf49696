-- How cuts are found from one start code to the next.
use Rattle.std.proofs.Common.{◌≡◌, ℕ, ◌+◌, ◌<◌, ◌≤◌, Bool, true, false, not, ◌&&◌, ◌||◌, List, Option, Some, None, refl, sym, subst, ◌∙◌, arith, inl, inr}
use Rattle.std.specs.Option.{option_map_or}
use Rattle.std.proofs.lemmas.Bool.{and_left, and_right, and_from, and_parts, or_cases, eqb-true, cases_lt}
use Rattle.es_units.specs.StartCodes.{is_start_code_at, start_code_at, is_unit_start, has_code}
use Rattle.stream_constants.specs.SliceCodes.{is_slice}
use Rattle.es_units.specs.Units.{is_behind_slice, is_unit_cut}
use Rattle.es_units.proofs.Codes.{no_code, code_is}
use Rattle.es_units.proofs.BehindSlice.{behind_more, behind_same}

-- no header with which a unit may begin is a slice
pub no_slice : (value : ℕ) → is_unit_start value ≡ true → is_slice value ≡ false
no_slice value is = elim (or_cases _ _ is) [
  | inl sequence ↦ subst (λ (v : ℕ). is_slice v ≡ false) (sym (eqb-true value 0xB3 sequence)) refl
  | inr other ↦ elim (or_cases _ _ other) [
    | inl group ↦ subst (λ (v : ℕ). is_slice v ≡ false) (sym (eqb-true value 0xB8 group)) refl
    | inr picture ↦ subst (λ (v : ℕ). is_slice v ≡ false) (sym (eqb-true value 0x00 picture)) refl
  ]
]

pub no_slice_at : (es : List ℕ) (at : ℕ) → has_code is_unit_start es at ≡ true → has_code is_slice es at ≡ false
no_slice_at es at = by_code (start_code_at es at)
  where
    by_code : (code : Option ℕ) → option_map_or is_unit_start code false ≡ true → option_map_or is_slice code false ≡ false
    by_code None is = refl
    by_code (Some value) is = no_slice value is

-- at a header behind a slice the stream is cut
pub cut_here : (es : List ℕ) (from at value : ℕ) (state : Bool) → from ≤ at → ((k : ℕ) → from ≤ k → k < at → is_start_code_at es k ≡ false)
    → start_code_at es at ≡ Some value → is_unit_start value ≡ true → state ≡ is_behind_slice es from → state ≡ true → is_unit_cut es at ≡ true
cut_here es from at value state le none code start kept behind =
    and_from _ _ (code_is is_unit_start es at value code ∙ start) (behind_same es from at le none ∙ sym kept ∙ behind)

-- behind a start code: the state that its value leaves
pub state_behind : (es : List ℕ) (from at value : ℕ) (state : Bool) → from ≤ at → ((k : ℕ) → from ≤ k → k < at → is_start_code_at es k ≡ false)
    → start_code_at es at ≡ Some value → state ≡ is_behind_slice es from
    → is_behind_slice es (at + 1) ≡ (is_slice value || (state && not (is_unit_start value)))
state_behind es from at value state le none code kept =
    behind_more es at ∙ rw (code_is is_slice es at value code, code_is is_unit_start es at value code, behind_same es from at le none, kept) refl

-- no cut where the stream isn't cut at a start code, nor before it
pub none_up_to : (es : List ℕ) (from at to : ℕ) → ((k : ℕ) → from ≤ k → k < at → is_unit_cut es k ≡ false)
    → ((k : ℕ) → at ≤ k → k < to → is_start_code_at es k ≡ false) → is_unit_cut es to ≡ false → (k : ℕ) → from ≤ k → k < to + 1
    → is_unit_cut es k ≡ false
none_up_to es from at to passed none here k begun upto = elim (cases_lt k at) [
  | inl before ↦ passed k begun before
  | inr behind ↦ elim (cases_lt k to) [
    | inl between ↦ and_left _ _ (no_code is_unit_start es k (none k behind between))
    | inr last ↦ (let same : to ≡ k = omega arith in subst (λ (k : ℕ). is_unit_cut es k ≡ false) same here)
  ]
]

pub no_cut_before_slice : (es : List ℕ) (from at : ℕ) (state : Bool) → from ≤ at → ((k : ℕ) → from ≤ k → k < at → is_start_code_at es k ≡ false)
    → state ≡ is_behind_slice es from → state ≡ false → is_unit_cut es at ≡ false
no_cut_before_slice es from at state le none kept ahead = and_right _ _ (behind_same es from at le none ∙ sym kept ∙ ahead)

pub no_cut_elsewhere : (es : List ℕ) (at value : ℕ) → start_code_at es at ≡ Some value → is_unit_start value ≡ false → is_unit_cut es at ≡ false
no_cut_elsewhere es at value code other = and_left _ _ (code_is is_unit_start es at value code ∙ other)

-- behind a cut no slice has come yet
pub state_behind_cut : (es : List ℕ) (at : ℕ) → is_unit_cut es at ≡ true → is_behind_slice es (at + 1) ≡ false
state_behind_cut es at cut =
    let parts : (has_code is_unit_start es at ≡ true) × (is_behind_slice es at ≡ true) = and_parts _ _ cut in
    behind_more es at ∙ rw (no_slice_at es at parts.0, parts.0) (and_right (is_behind_slice es at) false refl)
