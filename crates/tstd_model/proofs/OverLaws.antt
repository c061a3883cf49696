-- Where a buffer is over its size, found by walking over the instants at which bytes come and leave.
use Rattle.std.proofs.Common.{◌≡◌, ℕ, zero, suc, ◌+◌, ◌<◌, ◌≤◌, leb, List, [], ◌∷◌, drop, refl, ◌∙◌, arith, inl, inr, Option, Some, None}
use Rattle.std.proofs.lemmas.Bool.{cases_lt, le-leb, lt-leb, cond-true, cond-false}
use Rattle.tstd_model.specs.Instants.{came}
use Rattle.tstd_model.specs.Private.Scans.{first_over}
use Rattle.tstd_model.specs.Private.Server.{Spaced}
use Rattle.tstd_model.proofs.Counts.{came-yes, came-no, came-more, came-one_more, came_none}

-- what is found in instants that come and instants at which those leave which are to leave by then
abbrev pub IsFirstExcess : (size : ℕ) → (ins outs : List ℕ) → Option ℕ → Type 0
IsFirstExcess size ins outs None = (x : ℕ) → came x ins ≤ size + came x outs
IsFirstExcess size ins outs (Some at) = (size + came at outs < came at ins) × ((x : ℕ) → x < at → came x ins ≤ size + came x outs)

pub first_over-passes : (i o : ℕ) (ins outs : List ℕ) → o ≤ i → first_over (i ∷ ins) (o ∷ outs) ≡ first_over ins outs
unfolding first_over
first_over-passes i o ins outs le = cond-true (leb o i) (first_over ins outs) (Some i) (le-leb o i le)

first_over-stops : (i o : ℕ) (ins outs : List ℕ) → i < o → first_over (i ∷ ins) (o ∷ outs) ≡ Some i
unfolding first_over
first_over-stops i o ins outs lt = cond-false (leb o i) (first_over ins outs) (Some i) (lt-leb o i lt)

one_step : (i o x : ℕ) (ins outs : List ℕ) → o ≤ i → came x ins ≤ came x outs → came x (i ∷ ins) ≤ came x (o ∷ outs)
one_step i o x ins outs le rest = elim (cases_lt x i) [
  | inl after ↦ omega (arith, came-no x i ins after, came-more x o outs)
  | inr has ↦ omega (arith, came-yes x i ins has, came-yes x o outs (omega arith))
]

-- what is found is at least so late
abbrev pub AtLeast : ℕ → Option ℕ → Type 0
AtLeast low None = Unit {0}
AtLeast low (Some at) = low ≤ at

AtLeast-less : (low low' : ℕ) (found : Option ℕ) → low ≤ low' → AtLeast low' found → AtLeast low found
AtLeast-less low low' None le above = tt
AtLeast-less low low' (Some at) le above = omega arith

excess-passes : (i o : ℕ) (ins outs : List ℕ) (found : Option ℕ) → o ≤ i → AtLeast i found
    → IsFirstExcess 0 ins outs found → IsFirstExcess 0 (i ∷ ins) (o ∷ outs) found
excess-passes i o ins outs None le later is = λ x. omega (arith, one_step i o x ins outs le (omega (arith, is x)))
excess-passes i o ins outs (Some at) le later is = (
  omega (arith, came-yes at i ins later, came-yes at o outs (omega arith), is.0),
  λ x before. omega (arith, one_step i o x ins outs le (omega (arith, is.1 x before))),
)

excess-stops : (i : ℕ) (ins outs : List ℕ) → Spaced 0 i ins → came i outs ≡ 0 → IsFirstExcess 0 (i ∷ ins) outs (Some i)
excess-stops i ins outs rise none = (
  omega (arith, came-yes i i ins (omega arith)),
  λ x before. omega (arith, came-no x i ins before, came_none x i ins before rise),
)

found_from : (before before' : ℕ) (ins outs : List ℕ) → Spaced 0 before ins → Spaced 0 before' outs
    → IsFirstExcess 0 ins outs (first_over ins outs) × AtLeast before (first_over ins outs)
unfolding first_over
found_from before before' [] outs rise rise' = (λ x. omega arith, tt)
found_from before before' (i ∷ ins) [] rise rise' = (excess-stops i ins [] rise.1 refl, omega (arith, rise.0))
found_from before before' (i ∷ ins) (o ∷ outs) rise rise' = elim (cases_lt i o) [
  | inl stops ↦
      rw (first_over-stops i o ins outs stops)
      ((excess-stops i ins (o ∷ outs) rise.1 (came-no i o outs stops ∙ came_none i o outs stops rise'.1), omega (arith, rise.0)))
  | inr passes ↦
      let later = found_from i o ins outs rise.1 rise'.1 in
      rw (first_over-passes i o ins outs passes)
      ((excess-passes i o ins outs (first_over ins outs) passes later.1 later.0, AtLeast-less before i (first_over ins outs) (omega (arith, rise.0)) later.1))
]

excess-larger : (size i : ℕ) (ins outs : List ℕ) (found : Option ℕ) → AtLeast i found → IsFirstExcess size ins outs found → IsFirstExcess (suc size) (i ∷ ins) outs found
excess-larger size i ins outs None above is = λ x. omega (arith, is x, came-one_more x i ins)
excess-larger size i ins outs (Some at) above is =
    (omega (arith, is.0, came-yes at i ins above), λ x before. omega (arith, is.1 x before, came-one_more x i ins))

found_past : (size before before' : ℕ) (ins outs : List ℕ) → Spaced 0 before ins → Spaced 0 before' outs
    → IsFirstExcess size ins outs (first_over (drop size ins) outs) × AtLeast before (first_over (drop size ins) outs)
unfolding first_over
found_past zero before before' ins outs rise rise' = found_from before before' ins outs rise rise'
found_past (suc size) before before' [] outs rise rise' = (λ x. omega arith, tt)
found_past (suc size) before before' (i ∷ ins) outs rise rise' =
    let later = found_past size i before' ins outs rise.1 rise' in (
      excess-larger size i ins outs (first_over (drop size ins) outs) later.1 later.0,
      AtLeast-less before i (first_over (drop size ins) outs) (omega (arith, rise.0)) later.1,
    )

-- the walk finds the first instant at which more bytes than the size have come and not left
pub first_over-is : (size before before' : ℕ) (ins outs : List ℕ) → Spaced 0 before ins → Spaced 0 before' outs → IsFirstExcess size ins outs (first_over (drop size ins) outs)
first_over-is size before before' ins outs rise rise' = (found_past size before before' ins outs rise rise').0
