-- The best of the windows of several lengths.
use Rattle.std.proofs.Common.{◌≡◌, ℕ, ◌-◌, ◌<◌, ◌≤◌, List, [], ◌∷◌, length, take, get_or, Option, refl, sym, ap, subst, inl, inr, arith, ℤ, ◌≤ℤ◌}
use Rattle.std.specs.List.{Contains}
use Rattle.std.proofs.lemmas.Bool.{cases_lt}
use Rattle.std.proofs.lemmas.Int.{ints}
use Rattle.std.proofs.lemmas.List.{take_all}
use Rattle.std.proofs.lemmas.List.Elements.{Contains-append_cases}
use Rattle.version_table.specs.declared.table.Unit.{Unit as CodedUnit}
use Rattle.version_table.specs.declared.table.Table.{Table}
use Rattle.version_table.specs.Table.{units_of}
use Rattle.dual_bounds.specs.declared.constants.TheConstants.{LAMBDA_MOST}
use Rattle.dual_bounds.specs.declared.windows.Multiplier.{Multiplier}
use Rattle.dual_bounds.specs.Values.{value_of_multipliers, value_of_windows}
use Rattle.cost_sweep.specs.declared.step.CostStep.{CostStep}
use Rattle.cost_sweep.specs.declared.sweep.CostSweep.{CostSweep}
use Rattle.cost_sweep.specs.Sweep.{IsSweep, WentOn}
use Rattle.multiplier_search.specs.declared.constants.TheConstants.{LONG_WINDOW_TICKS, SHORT_WINDOW_TICKS}
use Rattle.multiplier_search.specs.declared.window.ValuedWindow.{ValuedWindow}
use Rattle.multiplier_search.specs.Private.Lambda.{value_at}
use Rattle.multiplier_search.specs.Private.Lengths.{HasItsValue, Outdoes}
use Rattle.multiplier_search.specs.Private.UnitSteps.{AreStepsOf, times_of}
use Rattle.multiplier_search.specs.Single.{dues_of, IsBestSingle, IsFirstBest, IsNoWorseMultiplier, value_alone}
use Rattle.multiplier_search.specs.Windows.{BeatEachTried, IsBeginning}
use Rattle.multiplier_search.proofs.Best.{Contains-one, no_time}
use Rattle.multiplier_search.proofs.FirstBest.{front-back}

-- ---- one due time
-- no window of this length ends at it and begins behind time 0
pub outdoes-itself : (table : Table) (fixed : List (Option ℕ)) (ticks due : ℕ) (start : ValuedWindow) → HasItsValue table fixed start → due ≤ ticks
    → Outdoes table fixed ticks (due ∷ []) start start
outdoes-itself table fixed ticks due start valued early = record {
  valued = valued;
  least = omega (arith, ints);
  each = λ from time lambda has some is limit. absurd (let same : due ≡ time = Contains-one due time has in omega arith);
}

pub outdoes-own : (table : Table) (fixed : List (Option ℕ)) (ticks due : ℕ) (start own best : ValuedWindow) → HasItsValue table fixed best → start.value ≤ℤ best.value
    → own.value ≤ℤ best.value → ((lambda : ℕ) → lambda ≤ LAMBDA_MOST → value_at table fixed (due - ticks) due lambda ≤ℤ own.value) → Outdoes table fixed ticks (due ∷ []) start best
outdoes-own table fixed ticks due start own best valued one two each = record {
  valued = valued;
  least = one;
  each = λ from time lambda has some is limit.
      (let same : due ≡ time = Contains-one due time has in
      let begins : due - ticks ≡ from = omega arith in
      let le : value_at table fixed (due - ticks) due lambda ≤ℤ own.value = each lambda limit in
      let whole : value_at table fixed (due - ticks) due lambda ≤ℤ best.value = omega (arith, ints) in
      subst (λ n. value_at table fixed from n lambda ≤ℤ best.value) same (subst (λ n. value_at table fixed n due lambda ≤ℤ best.value) begins whole));
}

-- ---- all due times

pub outdoes-first : (table : Table) (fixed : List (Option ℕ)) (ticks place : ℕ) (steps : List CostStep) (start : ValuedWindow) → HasItsValue table fixed start → place ≡ 0
    → Outdoes table fixed ticks (times_of (take place steps)) start start
outdoes-first table fixed ticks place steps start valued first = record {
  valued = valued;
  least = omega (arith, ints);
  each = λ from time lambda has some is limit. absurd (no_time time (subst (λ n. Contains (times_of (take n steps)) time) first has));
}

pub outdoes-on : (table : Table) (fixed : List (Option ℕ)) (ticks place due : ℕ) (sweep : CostSweep) (start best better : ValuedWindow) → IsSweep sweep → WentOn place due sweep
    → Outdoes table fixed ticks (times_of (take place sweep.steps.now)) start best → Outdoes table fixed ticks (due ∷ []) best better
    → Outdoes table fixed ticks (times_of (take sweep.place sweep.steps.now)) start better
outdoes-on table fixed ticks place due sweep start best better is went first second =
    let one = first.least in
    let two = second.least in
    record {
      valued = second.valued;
      least = omega (arith, ints);
      each = λ from time lambda has some begins limit.
          elim (Contains-append_cases (times_of (take place sweep.steps.now)) (due ∷ []) time
          (front-back sweep.steps.now place sweep.place due went.more is.within went.here time has)) as (λ _. value_at table fixed from time lambda ≤ℤ better.value) [
            | inl earlier ↦ (let le = first.each from time lambda earlier some begins limit in omega (arith, ints))
            | inr here ↦ second.each from time lambda here some begins limit
          ];
    }

pub outdoes-all : (table : Table) (fixed : List (Option ℕ)) (ticks place : ℕ) (steps : List CostStep) (start best : ValuedWindow) → length steps ≤ place → AreStepsOf table fixed [] steps
    → Outdoes table fixed ticks (times_of (take place steps)) start best → Outdoes table fixed ticks (dues_of (units_of table)) start best
outdoes-all table fixed ticks place steps start best all are is =
    let whole : times_of (take place steps) ≡ times_of steps = ap times_of (take_all place steps all) in
    record {
      valued = is.valued;
      least = is.least;
      each = λ from time lambda has some begins limit.
          is.each from time lambda (subst (λ (x : List ℕ). Contains x time) (sym whole) (are.all time has)) some begins limit;
    }

-- ---- all lengths
pub alone-is : (table : Table) (fixed : List (Option ℕ)) (due lambda : ℕ) → value_alone table fixed (record { due = due; lambda = lambda }) ≡ value_at table fixed 0 due lambda
unfolding value_alone value_of_multipliers
alone-is table fixed due lambda = refl

no_worse-le : (table : Table) (fixed : List (Option ℕ)) (a b : Multiplier) → IsNoWorseMultiplier table fixed a b → value_alone table fixed b ≤ℤ value_alone table fixed a
no_worse-le table fixed a b (inl less) = omega (arith, ints)
no_worse-le table fixed a b (inr same) = (let equal = same.0 in omega (arith, ints))

pub beat-each : (table : Table) (fixed : List (Option ℕ)) (dues : List ℕ) (first : Multiplier) (start late short long : ValuedWindow) → IsFirstBest table fixed dues first
    → start.value ≡ value_alone table fixed first → Outdoes table fixed 0 dues start late → Outdoes table fixed SHORT_WINDOW_TICKS dues late short
    → Outdoes table fixed LONG_WINDOW_TICKS dues short long → BeatEachTried table fixed dues (long.window ∷ [])
beat-each table fixed dues first start late short long is alone of_late of_short of_long tried tries = elim (cases_lt 0 tried.from) as (λ _. top ≤ℤ end) [
  | inl some ↦ behind some tries.beginning
  | inr none ↦ early (omega arith)
]
  where
    top : ℤ
    top = value_of_windows table fixed (tried ∷ [])

    end : ℤ
    end = value_of_windows table fixed (long.window ∷ [])

    early : tried.from ≡ 0 → value_of_windows table fixed (tried ∷ []) ≤ℤ value_of_windows table fixed (long.window ∷ [])
    early zero =
        let other : Multiplier = record { due = tried.due; lambda = tried.lambda } in
        let le : value_alone table fixed other ≤ℤ value_alone table fixed first =
        no_worse-le table fixed first other (is.first other (record { due = tries.due; lambda = tries.lambda })) in
        let same : value_alone table fixed other ≡ value_at table fixed 0 tried.due tried.lambda = alone-is table fixed tried.due tried.lambda in
        let one = of_late.least in
        let two = of_short.least in
        let three = of_long.least in
        let four : long.value ≡ value_of_windows table fixed (long.window ∷ []) = of_long.valued in
        let whole : value_at table fixed 0 tried.due tried.lambda ≤ℤ value_of_windows table fixed (long.window ∷ []) = omega (arith, ints) in
        subst (λ n. value_at table fixed n tried.due tried.lambda ≤ℤ value_of_windows table fixed (long.window ∷ [])) (sym zero) whole

    behind : 0 < tried.from → IsBeginning tried.from tried.due → value_of_windows table fixed (tried ∷ []) ≤ℤ value_of_windows table fixed (long.window ∷ [])
    behind some (inl (inl first)) = absurd (omega arith)
    behind some (inl (inr last)) =
        let le = of_late.each tried.from tried.due tried.lambda tries.due some (omega arith) tries.lambda in
        let two = of_short.least in
        let three = of_long.least in
        let four : long.value ≡ value_of_windows table fixed (long.window ∷ []) = of_long.valued in
        omega (arith, ints)
    behind some (inr (inl half)) =
        let le = of_short.each tried.from tried.due tried.lambda tries.due some half tries.lambda in
        let three = of_long.least in
        let four : long.value ≡ value_of_windows table fixed (long.window ∷ []) = of_long.valued in
        omega (arith, ints)
    behind some (inr (inr whole)) =
        let le = of_long.each tried.from tried.due tried.lambda tries.due some whole tries.lambda in
        let four : long.value ≡ value_of_windows table fixed (long.window ∷ []) = of_long.valued in
        omega (arith, ints)

-- no due time, where no multiplier is the best
pub beat-none : (table : Table) (fixed : List (Option ℕ)) (single : List Multiplier) → length single ≡ 0 → IsBestSingle table fixed single
    → BeatEachTried table fixed (dues_of (units_of table)) []
beat-none table fixed [] none is tried tries = absurd (no_time tried.due (subst (λ (x : List CodedUnit). Contains (dues_of x) tried.due) is tries.due))
beat-none table fixed (first ∷ more) none is tried tries = absurd (omega (arith, none))

-- the best multiplier where there is one
pub first-of : (table : Table) (fixed : List (Option ℕ)) (single : List Multiplier) (d : Multiplier) → 0 < length single → IsBestSingle table fixed single
    → IsFirstBest table fixed (dues_of (units_of table)) (get_or single 0 d)
first-of table fixed [] d some is = absurd (omega arith)
first-of table fixed (first ∷ []) d some is = is
first-of table fixed (first ∷ other ∷ more) d some is = absurd is
