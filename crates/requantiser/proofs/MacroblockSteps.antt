-- One more macroblock of a slice.
use Rattle.std.proofs.Common.{
  ◌≡◌,
  ℕ,
  suc,
  ◌+◌,
  ◌-◌,
  ◌<◌,
  ◌≤◌,
  Option,
  Some,
  None,
  List,
  [],
  ◌∷◌,
  ◌++◌,
  Bool,
  true,
  false,
  refl,
  sym,
  ◌∙◌,
  ap,
  arith,
  length,
  drop,
  get_or,
  append_assoc,
  append-nil,
  drop-cons,
  add-one,
  length-drop,
  unwrap_or,
}
use Rattle.std.specs.Prelude.{◌==◌, ◌&&◌, not, is_some, option_and_then, if◌then◌else◌}
use Rattle.std.specs.Option.{option_to_list}
use Rattle.std.specs.List.{sum_by}
use Rattle.std.proofs.lemmas.Bool.{ne_eqb, eq-eqb}
use Rattle.std.proofs.lemmas.List.{drop_all}
use Rattle.std.proofs.lemmas.List.Sums.{sum_by-cons}
use Rattle.syntax_types.specs.declared.macroblock.Macroblock.{Macroblock}
use Rattle.syntax_types.specs.declared.picture.PicCoding.{PicCoding}
use Rattle.syntax_types.specs.declared.picture.SeqState.{SeqState}
use Rattle.requantiser.specs.Private.Walk.{is_none, coarsened_macroblock, coarsened_macroblocks}

abbrev pub span_of : Macroblock → ℕ
span_of m = m.skipped_before + 1

-- the macroblocks from an index on
cut : (ms : List Macroblock) (i : ℕ) (from d : Macroblock) → from ≡ get_or ms i d → i < length ms → drop i ms ≡ from ∷ drop (i + 1) ms
cut ms i from d at within = rw (add-one, drop-cons ms i d) (ap (λ (x : Macroblock). x ∷ drop (suc i) ms) (sym at))

-- the spans of one macroblock and of the others
pub one_span : (ms : List Macroblock) (i : ℕ) (from d : Macroblock) → from ≡ get_or ms i d → i < length ms → sum_by span_of (drop i ms) ≡ span_of from + sum_by span_of (drop (i + 1) ms)
one_span ms i from d at within = ap (sum_by span_of) (cut ms i from d at within) ∙ sum_by-cons span_of from (drop (i + 1) ms)

pub none_or : (b : Bool) (n : ℕ) → (if b then 0 else n) ≤ n
none_or true n = omega arith
none_or false n = omega arith

module _ (seq : SeqState) (coding : PicCoding) (m : ℕ) where
  -- what becomes of a macroblock, then of the others
  coarsened_macroblocks-cons : (first : Bool) (code before skipped : ℕ) (from : Macroblock) (later : List Macroblock) (made : Option Macroblock)
      → made ≡ coarsened_macroblock seq coding m (not first && not (is_none later)) (unwrap_or from.code code) before (skipped + from.skipped_before) from
      → option_to_list made ++ coarsened_macroblocks seq coding m false (unwrap_or from.code code) (unwrap_or (option_and_then (λ x. x.code) made) before)
      (if is_some made then 0 else skipped + from.skipped_before + 1) later
      ≡ coarsened_macroblocks seq coding m first code before skipped (from ∷ later)
  coarsened_macroblocks-cons first code before skipped from later None is =
      let spans : skipped + from.skipped_before + 1 ≡ skipped + (from.skipped_before + 1) = omega arith in
      rw (sym is, coarsened_macroblocks) (ap (λ n. coarsened_macroblocks seq coding m false (unwrap_or from.code code) before n later) spans)
  coarsened_macroblocks-cons first code before skipped from later (Some to) is = rw (sym is, coarsened_macroblocks) refl

  is_none-drop : (ms : List Macroblock) (i : ℕ) → i < length ms → is_none (drop (i + 1) ms) ≡ (i + 1 == length ms)
  is_none-drop ms i within = by_rest (drop (i + 1) ms) (length-drop (i + 1) ms)
    where
      by_rest : (rest : List Macroblock) → length rest ≡ length ms - (i + 1) → is_none rest ≡ (i + 1 == length ms)
      by_rest [] none = sym (eq-eqb (i + 1) (length ms) (omega (arith, none)))
      by_rest (x ∷ xs) some = sym (ne_eqb (i + 1) (length ms) (λ e. absurd (omega (arith, some))))

  -- one more macroblock is made, or skipped
  pub one_macroblock : (code before skipped i : ℕ) (ms done all : List Macroblock) (from d : Macroblock) (made : Option Macroblock) → from ≡ get_or ms i d → i < length ms
      → made ≡ coarsened_macroblock seq coding m (not (i == 0) && not (i + 1 == length ms)) (unwrap_or from.code code) before (skipped + from.skipped_before) from
      → done ++ coarsened_macroblocks seq coding m (i == 0) code before skipped (drop i ms) ≡ all
      → (done ++ option_to_list made) ++ coarsened_macroblocks seq coding m (i + 1 == 0) (unwrap_or from.code code) (unwrap_or (option_and_then (λ x. x.code) made) before)
      (if is_some made then 0 else skipped + from.skipped_before + 1) (drop (i + 1) ms) ≡ all
  one_macroblock code before skipped i ms done all from d made at within is rest =
      let later : (i + 1 == 0) ≡ false = ne_eqb (i + 1) 0 (λ e. absurd (omega arith)) in
      append_assoc done _ _
      ∙ ap (λ first. done ++ (option_to_list made ++ coarsened_macroblocks seq coding m first (unwrap_or from.code code) (unwrap_or (option_and_then (λ x. x.code) made) before)
      (if is_some made then 0 else skipped + from.skipped_before + 1) (drop (i + 1) ms))) later
      ∙ ap (λ xs. done ++ xs) (coarsened_macroblocks-cons (i == 0) code before skipped from (drop (i + 1) ms) made
      (is ∙ ap (λ last. coarsened_macroblock seq coding m (not (i == 0) && not last) (unwrap_or from.code code) before (skipped + from.skipped_before) from) (sym (is_none-drop ms i within)))
      ∙ ap (coarsened_macroblocks seq coding m (i == 0) code before skipped) (sym (cut ms i from d at within)))
      ∙ rest

  pub only_macroblocks : (first : Bool) (code before skipped i : ℕ) (ms done all : List Macroblock) → length ms ≤ i
      → done ++ coarsened_macroblocks seq coding m first code before skipped (drop i ms) ≡ all → done ≡ all
  only_macroblocks first code before skipped i ms done all past rest =
      sym (append-nil done) ∙ ap (λ xs. done ++ coarsened_macroblocks seq coding m first code before skipped xs) (sym (drop_all i ms past)) ∙ rest
