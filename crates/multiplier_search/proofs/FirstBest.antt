-- Values and first best multipliers of a sweep.
use Rattle.std.proofs.Common.{◌≡◌, ℕ, ◌<◌, ◌≤◌, List, [], ◌∷◌, ◌++◌, length, take, get_or, sum_by, Option, Some, None, MatchOption, refl, sym, ap, subst, ◌∙◌, inl, inr, arith, ℤ, pos, ◌+ℤ◌, ◌-ℤ◌, ◌*ℤ◌, ◌<ℤ◌}
use Rattle.std.specs.List.{Contains}
use Rattle.std.proofs.lemmas.Bool.{cases_lt}
use Rattle.std.proofs.lemmas.Int.{ints}
use Rattle.std.proofs.lemmas.List.{get_or-map, get_or-take, length-map, length-take-le, take_all}
use Rattle.std.proofs.lemmas.List.Elements.{Contains-append_left, Contains-append_right, Contains-append_cases}
use Rattle.version_table.specs.declared.table.Unit.{Unit as CodedUnit}
use Rattle.version_table.specs.declared.table.Table.{Table}
use Rattle.version_table.specs.Table.{units_of}
use Rattle.dual_bounds.specs.declared.constants.TheConstants.{LAMBDA_MOST}
use Rattle.dual_bounds.specs.declared.windows.Multiplier.{Multiplier}
use Rattle.dual_bounds.specs.declared.windows.Window.{Window}
use Rattle.dual_bounds.specs.Room.{room}
use Rattle.dual_bounds.specs.Values.{value_of_multipliers, value_of_windows, worth}
use Rattle.dual_bounds.proofs.Charges.{worth-more, worth_none}
use Rattle.cost_sweep.specs.declared.step.CostStep.{CostStep}
use Rattle.cost_sweep.specs.declared.sweep.CostSweep.{CostSweep}
use Rattle.cost_sweep.specs.Steps.{paid_by, spared_by}
use Rattle.cost_sweep.specs.Sweep.{IsSweep, WentOn}
use Rattle.multiplier_search.specs.declared.single.Valued.{Valued}
use Rattle.multiplier_search.specs.Private.Lambda.{EndsRise, RisesTo, value_at, value_beside}
use Rattle.multiplier_search.specs.Private.UnitSteps.{AreStepsOf, beside, IsBestValued, IsBetterValued, IsNoWorseValued, IsValued, times_of}
use Rattle.multiplier_search.specs.Single.{dues_of, IsBestSingle, IsFirstBest, IsNoWorseMultiplier, value_alone}
use Rattle.multiplier_search.proofs.Best.{best_at_due, best_of_both, Contains-one, no_time}

-- ---- values
-- what steps add less what they take, less what the room is worth
pub value-is : (table : Table) (fixed : List (Option ℕ)) (windows : List Window) (steps : List CostStep) (due lambda paid spared : ℕ) (capacity : ℤ) → lambda ≤ LAMBDA_MOST
    → AreStepsOf table fixed windows steps
    → paid ≡ sum_by (paid_by due lambda) steps → spared ≡ sum_by (spared_by due lambda) steps → capacity ≡ room table 0 due
    → (pos paid -ℤ pos spared) -ℤ (pos lambda *ℤ capacity) ≡ value_beside table fixed windows 0 due lambda +ℤ worth table windows
unfolding value_of_windows
value-is table fixed windows steps due lambda paid spared capacity limit are paid-is spared-is room-is =
    let costs = are.costs due lambda limit in
    let window : Window = record { from = 0; due = due; lambda = lambda } in
    let one : worth table (beside windows due lambda) ≡ (pos lambda *ℤ room table 0 due) +ℤ worth table windows = worth-more table window windows in
    let same : pos lambda *ℤ capacity ≡ pos lambda *ℤ room table 0 due = ap (λ (z : ℤ). pos lambda *ℤ z) room-is in
    omega (arith, ints)

-- what no windows are worth
pub value-alone : (table : Table) (value own : ℤ) → value ≡ own +ℤ worth table [] → value ≡ own
value-alone table value own is =
    let none : worth table [] ≡ pos 0 = worth_none table in
    omega (arith, ints)

-- ---- the first best at the last due time
pub best-at : (table : Table) (fixed : List (Option ℕ)) (due lambda : ℕ) (value : ℤ) → lambda ≤ LAMBDA_MOST → RisesTo (value_at table fixed 0 due) lambda
    → EndsRise (value_at table fixed 0 due) lambda → value ≡ value_at table fixed 0 due lambda
    → IsBestValued table fixed (due ∷ []) (Some (record { multiplier = record { due = due; lambda = lambda }; value = value }))
unfolding value_alone value_of_multipliers
best-at table fixed due lambda value limit rises ends is = (best_at_due table fixed due lambda limit rises ends, is)

-- ---- the first best of two
no_worse : (table : Table) (fixed : List (Option ℕ)) (a b : Valued) → IsValued table fixed a → IsValued table fixed b → IsNoWorseValued a b → IsNoWorseMultiplier table fixed a.multiplier b.multiplier
no_worse table fixed a b first second (inl less) =
    inl (subst (λ (z : ℤ). z <ℤ value_alone table fixed a.multiplier) second (subst (λ (z : ℤ). b.value <ℤ z) first less))
no_worse table fixed a b first second (inr same) = inr (sym second ∙ same.0 ∙ first, same.1)

pub best-of : (table : Table) (fixed : List (Option ℕ)) (dues more : List ℕ) (a b better : Valued) → IsBestValued table fixed dues (Some a) → IsBestValued table fixed more (Some b)
    → IsBetterValued a b better → IsBestValued table fixed (dues ++ more) (Some better)
best-of table fixed dues more a b better first second (inl is) = (
  best_of_both table fixed dues more a.multiplier b.multiplier better.multiplier first.0 second.0
      (inl (ap (λ (v : Valued). v.multiplier) is.0, no_worse table fixed a b first.1 second.1 is.1)),
  subst (λ (v : Valued). IsValued table fixed v) (sym is.0) first.1,
)
best-of table fixed dues more a b better first second (inr is) = (
  best_of_both table fixed dues more a.multiplier b.multiplier better.multiplier first.0 second.0
      (inr (ap (λ (v : Valued). v.multiplier) is.0, no_worse table fixed b a second.1 first.1 is.1)),
  subst (λ (v : Valued). IsValued table fixed v) (sym is.0) second.1,
)

pub best-alone : (table : Table) (fixed : List (Option ℕ)) (dues more : List ℕ) (b : Valued) → IsBestValued table fixed dues None → IsBestValued table fixed more (Some b)
    → IsBestValued table fixed (dues ++ more) (Some b)
best-alone table fixed dues more b none is = subst (λ (x : List ℕ). IsBestValued table fixed (x ++ more) (Some b)) (sym none) is

pub none-valued : (table : Table) (fixed : List (Option ℕ)) (steps : List CostStep) (place : ℕ) → place ≡ 0 → IsBestValued table fixed (times_of (take place steps)) None
none-valued table fixed steps place first = ap (λ n. times_of (take n steps)) first

-- ---- due times in another order
pub best-moved : (table : Table) (fixed : List (Option ℕ)) (dues moved : List ℕ) (best : Multiplier) → ((time : ℕ) → Contains dues time → Contains moved time)
    → ((time : ℕ) → Contains moved time → Contains dues time) → IsFirstBest table fixed dues best → IsFirstBest table fixed moved best
best-moved table fixed dues moved best there back is = record {
  candidate = record { due = there best.due is.candidate.due; lambda = is.candidate.lambda };
  first = λ other candidate. is.first other (record { due = back other.due candidate.due; lambda = candidate.lambda });
}

-- ---- the steps up to the next due time
module _ (steps : List CostStep) (place place' due : ℕ) (more : place < place') (within : place' ≤ length steps)
    (here : (k : ℕ) (d : CostStep) → place ≤ k → k < place' → (get_or steps k d).due ≡ due) where
  none : CostStep
  none = record { due = 0; from = 0; rise = 0; packets = 0; fewer = 0 }

  at-front : (n k time : ℕ) → n ≤ length steps → k < n → get_or (times_of (take n steps)) k time ≡ (get_or steps k none).due
  at-front n k time upto low =
      let size : length (take n steps) ≡ n = length-take-le n steps upto in
      get_or-map (λ (s : CostStep). s.due) (take n steps) k none time (omega arith) ∙ ap (λ (s : CostStep). s.due) (get_or-take n steps k none low)

  size-front : (n : ℕ) → n ≤ length steps → length (times_of (take n steps)) ≡ n
  size-front n upto = length-map (take n steps) (λ (s : CostStep). s.due) ∙ length-take-le n steps upto

  pub front-there : (time : ℕ) → Contains (times_of (take place steps) ++ due ∷ []) time → Contains (times_of (take place' steps)) time
  front-there time has = elim (Contains-append_cases (times_of (take place steps)) (due ∷ []) time has) as (λ _. Contains (times_of (take place' steps)) time) [
    | inl before ↦ by_place before
    | inr last ↦
        (let same : due ≡ time = Contains-one due time last in
        (place, omega (arith, size-front place' within), at-front place' place time within more ∙ here place none (omega arith) more ∙ same))
  ]
    where
      by_place : Contains (times_of (take place steps)) time → Contains (times_of (take place' steps)) time
      by_place (k, low, is) =
          let size = size-front place (omega arith) in
          let low' : k < place = omega arith in
          (k, omega (arith, size-front place' within), at-front place' k time within (omega arith) ∙ sym (at-front place k time (omega arith) low') ∙ is)

  pub front-back : (time : ℕ) → Contains (times_of (take place' steps)) time → Contains (times_of (take place steps) ++ due ∷ []) time
  front-back time (k, low, is) =
      let size = size-front place' within in
      let low' : k < place' = omega arith in
      let own : (get_or steps k none).due ≡ time = sym (at-front place' k time within low') ∙ is in
      elim (cases_lt k place) as (λ _. Contains (times_of (take place steps) ++ due ∷ []) time) [
        | inl before ↦
            Contains-append_left (times_of (take place steps)) (due ∷ []) time
            (k, omega (arith, size-front place (omega arith)), at-front place k time (omega arith) before ∙ own)
        | inr behind ↦ Contains-append_right (times_of (take place steps)) (due ∷ []) time (0, omega arith, sym (here k none behind low') ∙ own)
      ]

pub best-on : (table : Table) (fixed : List (Option ℕ)) (place due : ℕ) (sweep : CostSweep) (best : Valued) → IsSweep sweep → WentOn place due sweep
    → IsBestValued table fixed (times_of (take place sweep.steps.now) ++ due ∷ []) (Some best) → IsBestValued table fixed (times_of (take sweep.place sweep.steps.now)) (Some best)
best-on table fixed place due sweep best is went (first, valued) =
    let there = front-there sweep.steps.now place sweep.place due went.more is.within went.here in
    let back = front-back sweep.steps.now place sweep.place due went.more is.within went.here in
    (best-moved table fixed (times_of (take place sweep.steps.now) ++ due ∷ []) (times_of (take sweep.place sweep.steps.now)) best.multiplier there back first, valued)

-- ---- all due times
no_units : (units : List CodedUnit) → ((time : ℕ) → Contains (dues_of units) time → ⊥) → units ≡ []
no_units [] none = refl
no_units (unit ∷ units) none = absurd (none unit.due (0, omega arith, refl))

pub single-none : (table : Table) (fixed : List (Option ℕ)) (steps : List CostStep) (place : ℕ) → length steps ≤ place → AreStepsOf table fixed [] steps
    → IsBestValued table fixed (times_of (take place steps)) None → IsBestSingle table fixed []
single-none table fixed steps place all are empty =
    let whole : times_of steps ≡ [] = ap times_of (sym (take_all place steps all)) ∙ empty in
    no_units (units_of table) (λ time has. no_time time (subst (λ (x : List ℕ). Contains x time) whole (are.all time has)))

pub single-some : (table : Table) (fixed : List (Option ℕ)) (steps : List CostStep) (place : ℕ) (best : Valued) → length steps ≤ place → AreStepsOf table fixed [] steps
    → IsBestValued table fixed (times_of (take place steps)) (Some best) → IsBestSingle table fixed (best.multiplier ∷ [])
single-some table fixed steps place best all are (first, valued) =
    let whole : times_of (take place steps) ≡ times_of steps = ap times_of (take_all place steps all) in
    best-moved table fixed (times_of (take place steps)) (dues_of (units_of table)) best.multiplier
    (λ time has. are.from time (subst (λ (x : List ℕ). Contains x time) whole has))
    (λ time has. subst (λ (x : List ℕ). Contains x time) (sym whole) (are.all time has)) first

pub single-of : (table : Table) (fixed : List (Option ℕ)) (steps : List CostStep) (place : ℕ) (best : Option Valued) (found : List Multiplier) → length steps ≤ place
    → AreStepsOf table fixed [] steps → IsBestValued table fixed (times_of (take place steps)) best → MatchOption best (found ≡ []) (λ valued. found ≡ valued.multiplier ∷ [])
    → IsBestSingle table fixed found
single-of table fixed steps place None found all are is same =
    subst (λ (x : List Multiplier). IsBestSingle table fixed x) (sym same) (single-none table fixed steps place all are is)
single-of table fixed steps place (Some best) found all are is same =
    subst (λ (x : List Multiplier). IsBestSingle table fixed x) (sym same) (single-some table fixed steps place best all are is)
