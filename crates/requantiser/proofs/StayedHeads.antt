-- The head of a macroblock that stays as it is in a version but for its coefficients.
use Rattle.std.proofs.Common.{◌≡◌, ℕ, ◌+◌, Option, Some, None, unwrap_or, Bool, true, false, refl, sym, ◌∙◌, ap, ap₂, arith}
use Rattle.std.specs.Prelude.{◌==◌, ◌&&◌, ◌||◌, not, is_none, if◌then◌else◌}
use Rattle.std.proofs.lemmas.Bool.{and_parts, eq-eqb, eqb-true, not-true}
use Rattle.syntax_types.specs.declared.macroblock.Macroblock.{Macroblock}
use Rattle.syntax_types.specs.declared.picture.PicCoding.{PicCoding}
use Rattle.syntax_types.specs.declared.picture.SeqState.{SeqState}
use Rattle.requantiser.specs.declared.head.Head.{Head}
use Rattle.requantiser.specs.declared.outline.Outline.TheVariants.{Coded}
use Rattle.requantiser.specs.declared.tally.Tally.{Tally}
use Rattle.requantiser.specs.declared.version_state.VersionState.{VersionState}
use Rattle.requantiser.specs.Macroblocks.{is_coded_without_motion}
use Rattle.requantiser.specs.Tallies.{IsOutlined, IsTallyOf, has_stayed}
use Rattle.requantiser.specs.Private.Shapes.{HasShape}
use Rattle.requantiser.specs.Private.Walk.{head_with}
use Rattle.requantiser.proofs.Outlines.{coded_outlined}

no_value : (code : Option ℕ) → is_none code ≡ true → code ≡ None
no_value None is = refl
no_value (Some code) is = absurd (cc)

-- what a macroblock that stays has
record HasStayed (tally : Tally) (state : VersionState) (from : Macroblock) : Type 0 where
  code : from.code ≡ None
  skipped : state.skipped ≡ 0
  in_force : state.version_code ≡ tally.target.code
  left : (is_coded_without_motion from.kind && (tally.pattern == 0)) ≡ false

stayed_parts : (tally : Tally) (state : VersionState) (from : Macroblock) → has_stayed tally state from ≡ true → HasStayed tally state from
stayed_parts tally state from is =
    let last = and_parts (is_none from.code && (state.skipped == 0) && (state.version_code == tally.target.code)) (not (is_coded_without_motion from.kind && (tally.pattern == 0))) is in
    let third = and_parts (is_none from.code && (state.skipped == 0)) (state.version_code == tally.target.code) last.0 in
    let two = and_parts (is_none from.code) (state.skipped == 0) third.0 in
    record {
      code = no_value from.code two.0;
      skipped = eqb-true state.skipped 0 two.1;
      in_force = eqb-true state.version_code tally.target.code third.1;
      left = not-true (is_coded_without_motion from.kind && (tally.pattern == 0)) last.1;
    }

-- no code stands where it is the one before
no_code : (has : Bool) (mapped before : ℕ) → before ≡ mapped → (if has && not (mapped == before) then Some mapped else None) ≡ None
no_code has mapped before same =
    ap (λ (b : Bool). if has && not b then Some mapped else None) (eq-eqb mapped before (sym same)) ∙ never has
  where
    never : (has : Bool) → (if has && false then Some mapped else None) ≡ None
    never true = refl
    never false = refl

-- its head and its state are those of the step
pub stayed_outlined : (seq : SeqState) (coding : PicCoding) (inner : Bool) (from : Macroblock) (state : VersionState) (tally : Tally) (lent : Macroblock) (head : Head)
    → HasShape from → IsTallyOf seq coding (unwrap_or from.code state.source_code) state.m from tally → has_stayed tally state from ≡ true
    → head ≡ record { skipped_before = from.skipped_before; code = None; pattern = (if from.kind.intra then 0 else tally.pattern) }
    → IsOutlined seq coding inner from state state (record { outline = Coded head; bits = tally.bits; distortion = tally.distortion }) lent
stayed_outlined seq coding inner from state tally lent head shape tallied is head_is =
    let stayed = stayed_parts tally state from is in
    let pattern : ℕ = if from.kind.intra then 0 else tally.pattern in
    let head_of : ℕ → Option ℕ → Head = λ gap code. record { skipped_before = gap; code = code; pattern = pattern } in
    let gap : state.skipped + from.skipped_before ≡ from.skipped_before = omega (arith, stayed.skipped) in
    let same : head ≡ head_with from.kind.intra tally.target.code state.version_code (state.skipped + from.skipped_before) pattern =
    head_is ∙ ap₂ head_of (sym gap)
    (sym (no_code (from.kind.intra || not (pattern == 0)) tally.target.code state.version_code stayed.in_force)) in
    coded_outlined seq coding inner from state state tally _ lent shape tallied head stayed.left same
    refl (sym (ap (λ (c : Option ℕ). unwrap_or c state.source_code) stayed.code))
    (sym (ap (λ (h : Head). unwrap_or h.code state.version_code) head_is)) stayed.skipped refl refl refl
