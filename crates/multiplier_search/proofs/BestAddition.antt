-- The best addition so far.
use Rattle.std.proofs.Common.{◌≡◌, ℕ, ◌≤◌, ◌⊎◌, List, [], ◌∷◌, ◌++◌, length, take, Option, Some, None, MatchOption, IfSome, sym, ap, subst, ◌∙◌, inl, inr, arith, ◌≤ℤ◌}
use Rattle.std.specs.List.{Contains}
use Rattle.std.proofs.lemmas.Int.{ints}
use Rattle.std.proofs.lemmas.List.{take_all}
use Rattle.std.proofs.lemmas.List.Elements.{Contains-append_cases}
use Rattle.version_table.specs.declared.table.Table.{Table}
use Rattle.version_table.specs.Table.{units_of}
use Rattle.dual_bounds.specs.declared.constants.TheConstants.{LAMBDA_MOST}
use Rattle.dual_bounds.specs.declared.windows.Window.{Window}
use Rattle.dual_bounds.specs.Values.{value_of_windows, worth}
use Rattle.cost_sweep.specs.declared.step.CostStep.{CostStep}
use Rattle.cost_sweep.specs.declared.sweep.CostSweep.{CostSweep}
use Rattle.cost_sweep.specs.Sweep.{IsSweep, WentOn}
use Rattle.multiplier_search.specs.declared.additions.Addition.{Addition}
use Rattle.multiplier_search.specs.Private.Additions.{EndAt, IsAdditionTo, IsBestAddition, IsValuedBeside}
use Rattle.multiplier_search.specs.Private.Lambda.{value_beside}
use Rattle.multiplier_search.specs.Private.UnitSteps.{AreStepsOf, times_of}
use Rattle.multiplier_search.specs.Single.{dues_of}
use Rattle.multiplier_search.specs.Turns.{BeatAdditions}
use Rattle.multiplier_search.proofs.Best.{Contains-one, no_time}
use Rattle.multiplier_search.proofs.FirstBest.{front-back}
use Rattle.multiplier_search.proofs.Rises.{le_beside}

abbrev held : Addition → Option Addition → Addition
held other None = other
held other (Some added) = added

pub best-none : (table : Table) (fixed : List (Option ℕ)) (start : List Window) (place : ℕ) (steps : List CostStep) → place ≡ 0
    → IsBestAddition table fixed start (times_of (take place steps)) None
best-none table fixed start place steps first = record {
  may = tt;
  valued = tt;
  each = λ due lambda has free limit. no_time due (subst (λ n. Contains (times_of (take n steps)) due) first has);
}

module _ (table : Table) (fixed : List (Option ℕ)) (start : List Window) (dues : List ℕ) (due : ℕ) where
  -- where a window ends at a time, none is added that does
  pub best-same : (best : Option Addition) → EndAt start due → IsBestAddition table fixed start dues best → IsBestAddition table fixed start (dues ++ due ∷ []) best
  best-same best ends is = record {
    may = is.may;
    valued = is.valued;
    each = λ time lambda has free limit.
        elim (Contains-append_cases dues (due ∷ []) time has) as (λ _. MatchOption best ⊥ (λ added. value_beside table fixed start 0 time lambda ≤ℤ value_beside table fixed start 0 added.due added.lambda)) [
          | inl earlier ↦ is.each time lambda earlier free limit
          | inr here ↦
              (let same : due ≡ time = Contains-one due time here in
              let d : Window = record { from = 0; due = 0; lambda = 0 } in
              absurd (free ends.0 d ends.1 (ends.2 d ∙ same)))
        ];
  }

  -- the better one of the best so far and the best at one more time
  module _ (own best : Addition) (may : IsAdditionTo start own) (valued : IsValuedBeside table fixed start own) (at : own.due ≡ due)
      (peak : (lambda : ℕ) → lambda ≤ LAMBDA_MOST → value_beside table fixed start 0 due lambda ≤ℤ value_beside table fixed start 0 due own.lambda) where
    at-time : (time lambda : ℕ) → IsValuedBeside table fixed start best → own.value ≤ℤ best.value → Contains (due ∷ []) time → lambda ≤ LAMBDA_MOST
        → value_beside table fixed start 0 time lambda ≤ℤ value_beside table fixed start 0 best.due best.lambda
    at-time time lambda is le has limit =
        let same : due ≡ time = Contains-one due time has in
        let own-most : value_beside table fixed start 0 own.due own.lambda ≤ℤ value_beside table fixed start 0 best.due best.lambda = le_beside _ _ (worth table start) _ _ valued is le in
        let top : value_beside table fixed start 0 due lambda ≤ℤ value_beside table fixed start 0 due own.lambda = peak lambda limit in
        let moved : value_beside table fixed start 0 due own.lambda ≤ℤ value_beside table fixed start 0 best.due best.lambda =
        subst (λ n. value_beside table fixed start 0 n own.lambda ≤ℤ value_beside table fixed start 0 best.due best.lambda) at own-most in
        let whole : value_beside table fixed start 0 due lambda ≤ℤ value_beside table fixed start 0 best.due best.lambda = omega (arith, ints) in
        subst (λ n. value_beside table fixed start 0 n lambda ≤ℤ value_beside table fixed start 0 best.due best.lambda) same whole

    pub best-more : (so_far : Option Addition) → IsBestAddition table fixed start dues so_far → (so_far ≡ Some best) ⊎ (best ≡ own) → IfSome so_far (λ first. first.value ≤ℤ best.value)
        → own.value ≤ℤ best.value → IsBestAddition table fixed start (dues ++ due ∷ []) (Some best)
    best-more None is (inl one) first second = absurd (none_is_some one)
      where
        none_is_some : None ≡ Some best → ⊥
        none_is_some same = subst (λ (o : Option Addition). MatchOption o (Unit {0}) (λ x. ⊥)) same tt
    best-more None is (inr one) first second =
        let own-is : IsValuedBeside table fixed start best = subst (λ (a : Addition). IsValuedBeside table fixed start a) (sym one) valued in
        record {
          may = subst (λ (a : Addition). IsAdditionTo start a) (sym one) may;
          valued = own-is;
          each = λ time lambda has free limit.
              elim (Contains-append_cases dues (due ∷ []) time has) as (λ _. value_beside table fixed start 0 time lambda ≤ℤ value_beside table fixed start 0 best.due best.lambda) [
                | inl earlier ↦ absurd (is.each time lambda earlier free limit)
                | inr here ↦ at-time time lambda own-is second here limit
              ];
        }
    best-more (Some before) is one first second =
        let chosen : IsAdditionTo start best × IsValuedBeside table fixed start best = (elim one as (λ _. IsAdditionTo start best × IsValuedBeside table fixed start best) [
          | inl kept ↦
              (let is-best : before ≡ best = some_is kept in
              (subst (λ (a : Addition). IsAdditionTo start a) is-best is.may, subst (λ (a : Addition). IsValuedBeside table fixed start a) is-best is.valued))
          | inr new ↦ (subst (λ (a : Addition). IsAdditionTo start a) (sym new) may, subst (λ (a : Addition). IsValuedBeside table fixed start a) (sym new) valued)
        ]) in
        record {
          may = chosen.0;
          valued = chosen.1;
          each = λ time lambda has free limit.
              elim (Contains-append_cases dues (due ∷ []) time has) as (λ _. value_beside table fixed start 0 time lambda ≤ℤ value_beside table fixed start 0 best.due best.lambda) [
                | inl earlier ↦
                    (let top : value_beside table fixed start 0 time lambda ≤ℤ value_beside table fixed start 0 before.due before.lambda = is.each time lambda earlier free limit in
                    let le : value_beside table fixed start 0 before.due before.lambda ≤ℤ value_beside table fixed start 0 best.due best.lambda =
                    le_beside _ _ (worth table start) _ _ is.valued chosen.1 first in
                    omega (arith, ints))
                | inr here ↦ at-time time lambda chosen.1 second here limit
              ];
        }
      where
        some_is : Some before ≡ Some best → before ≡ best
        some_is same = ap (held before) same

-- ---- all due times
pub best-on : (table : Table) (fixed : List (Option ℕ)) (start : List Window) (place due : ℕ) (sweep : CostSweep) (best : Option Addition) → IsSweep sweep → WentOn place due sweep
    → IsBestAddition table fixed start (times_of (take place sweep.steps.now) ++ due ∷ []) best → IsBestAddition table fixed start (times_of (take sweep.place sweep.steps.now)) best
best-on table fixed start place due sweep best is went found = record {
  may = found.may;
  valued = found.valued;
  each = λ time lambda has free limit.
      found.each time lambda (front-back sweep.steps.now place sweep.place due went.more is.within went.here time has) free limit;
}

pub beat-all : (table : Table) (fixed : List (Option ℕ)) (start : List Window) (steps : List CostStep) (place : ℕ) (best : Option Addition) (found : List Window) → length steps ≤ place
    → AreStepsOf table fixed start steps → IsBestAddition table fixed start (times_of (take place steps)) best
    → IfSome best (λ added. value_beside table fixed start 0 added.due added.lambda ≤ℤ value_of_windows table fixed found)
    → BeatAdditions table fixed (dues_of (units_of table)) start found
beat-all table fixed start steps place None found all are is le due lambda of_dues lacks limit =
    let whole : times_of (take place steps) ≡ times_of steps = ap times_of (take_all place steps all) in
    absurd (is.each due lambda (subst (λ (x : List ℕ). Contains x due) (sym whole) (are.all due of_dues)) lacks limit)
beat-all table fixed start steps place (Some best) found all are is le due lambda of_dues lacks limit =
    let whole : times_of (take place steps) ≡ times_of steps = ap times_of (take_all place steps all) in
    let top : value_beside table fixed start 0 due lambda ≤ℤ value_beside table fixed start 0 best.due best.lambda =
    is.each due lambda (subst (λ (x : List ℕ). Contains x due) (sym whole) (are.all due of_dues)) lacks limit in
    let last : value_beside table fixed start 0 best.due best.lambda ≤ℤ value_of_windows table fixed found = le in
    omega (arith, ints)
