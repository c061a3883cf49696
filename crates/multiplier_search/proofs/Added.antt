-- Steps of units behind each other.
use Rattle.std.proofs.Common.{◌≡◌, ℕ, ◌+◌, ◌*◌, ◌<◌, ◌≤◌, ◌⊎◌, List, [], ◌∷◌, ◌++◌, length, get_or, map, cond, nat_le, sum_by, All, Option, refl, sym, ap, subst, ◌∙◌, inl, inr, length-append, arith}
use Rattle.std.specs.List.{Contains, zip}
use Rattle.std.specs.List.Sorted.{IsPermutation}
use Rattle.std.proofs.lemmas.Bool.{cases_lt, le-leb, lt-leb}
use Rattle.std.proofs.lemmas.List.{get_or-map, length-map, map-append}
use Rattle.std.proofs.lemmas.List.Elements.{All-head, All-tail, Contains-append_left, Contains-append_right, Contains-append_cases}
use Rattle.std.proofs.lemmas.List.Sums.{sum_by-append, sum_by-cons, sum_by-le}
use Rattle.std.proofs.lemmas.List.Sorted.{Contains-permutation, IsPermutation-map, IsPermutation-sym, length_permutation, sum_by-IsPermutation}
use Rattle.version_table.specs.declared.limits.TheConstants.{UNITS_MOST}
use Rattle.version_table.specs.declared.table.Unit.{Unit as CodedUnit}
use Rattle.version_table.specs.declared.table.Table.{Table}
use Rattle.version_table.specs.Choice.{least}
use Rattle.version_table.specs.Table.{units_of}
use Rattle.dual_bounds.specs.declared.constants.TheConstants.{LAMBDA_MOST}
use Rattle.dual_bounds.specs.declared.windows.Window.{Window}
use Rattle.dual_bounds.specs.Fixed.{allowed}
use Rattle.dual_bounds.specs.Values.{charge, cost, least_cost, least_costs, price}
use Rattle.dual_bounds.proofs.Charges.{price-more}
use Rattle.dual_bounds.proofs.LeastCosts.{charge-le}
use Rattle.cost_sweep.specs.declared.step.CostStep.{CostStep}
use Rattle.cost_sweep.specs.Steps.{paid, paid_by, spared, spared_by}
use Rattle.cost_steps.specs.declared.constants.TheConstants.{PRICE_MOST}
use Rattle.cost_steps.specs.Steps.{TellLeastAbove}
use Rattle.multiplier_search.specs.Private.UnitSteps.{AddSteps, AddUnit, AreStepsOf, beside, LeaveRoom, times_of}
use Rattle.multiplier_search.specs.Single.{dues_of}
use Rattle.multiplier_search.proofs.Best.{Contains-one, no_time}

-- ---- one unit under one window from time 0 on, beside others
pub price-beside : (windows : List Window) (due lambda time : ℕ) → price (beside windows due lambda) time ≡ cond (nat_le time due) lambda 0 + price windows time
price-beside windows due lambda time =
    let window : Window = record { from = 0; due = due; lambda = lambda } in
    let own : charge time window ≡ cond (nat_le time due) lambda 0 = rw (le-leb 0 time (omega arith)) refl in
    price-more window windows time ∙ ap (λ n. n + price windows time) own

pub price-room : (windows : List Window) (time : ℕ) → LeaveRoom windows → price windows time + LAMBDA_MOST ≤ PRICE_MOST
unfolding price
price-room windows time room =
    let each : All (λ window. charge time window ≤ LAMBDA_MOST) windows = λ k d within. charge-le time (get_or windows k d) (room.lambdas k d within) in
    let whole : sum_by (charge time) windows ≤ length windows * LAMBDA_MOST = sum_by-le (charge time) LAMBDA_MOST windows each in
    omega (arith, room.few)

charged-le : (due lambda time : ℕ) → lambda ≤ LAMBDA_MOST → cond (nat_le time due) lambda 0 ≤ LAMBDA_MOST
charged-le due lambda time limit = elim (cases_lt due time) as (λ _. cond (nat_le time due) lambda 0 ≤ LAMBDA_MOST) [
  | inl later ↦ rw (lt-leb time due later) (omega arith)
  | inr by ↦ rw (le-leb time due by) limit
]

sum-same : (f g : CostStep → ℕ) (steps : List CostStep) → All (λ step. f step ≡ g step) steps → sum_by f steps ≡ sum_by g steps
sum-same f g [] same = refl
sum-same f g (step ∷ steps) same =
    let own : f step ≡ g step = All-head (λ (s : CostStep). f s ≡ g s) step steps same in
    let more = sum-same f g steps (All-tail (λ (s : CostStep). f s ≡ g s) step steps same) in
    let one = sum_by-cons f step steps in
    let two = sum_by-cons g step steps in
    omega arith

unit-costs : (windows : List Window) (unit : CodedUnit) (entry : Option ℕ) (own : List CostStep) (base due lambda : ℕ) → LeaveRoom windows → base ≡ price windows unit.due → lambda ≤ LAMBDA_MOST
    → TellLeastAbove base unit.due (allowed unit entry) own
    → least_cost (beside windows due lambda) unit entry + sum_by (spared_by due lambda) own ≡ sum_by (paid_by due lambda) own
unfolding least_cost
unit-costs windows unit entry own base due lambda room charged limit tell =
    let q = cond (nat_le unit.due due) lambda 0 in
    let total : price (beside windows due lambda) unit.due ≡ base + q = (let one = price-beside windows due lambda unit.due in omega (arith, one, charged)) in
    let here : least (map (cost (price (beside windows due lambda) unit.due)) (allowed unit entry)) ≡ least (map (cost (base + q)) (allowed unit entry)) =
    ap (λ p. least (map (cost p) (allowed unit entry))) total in
    let most : base + q ≤ PRICE_MOST = omega (arith, charged, price-room windows unit.due room, charged-le due lambda unit.due limit) in
    let whole : least (map (cost (base + q)) (allowed unit entry)) + sum_by (spared q) own ≡ sum_by (paid q) own = tell.costs q most in
    let one : sum_by (spared_by due lambda) own ≡ sum_by (spared q) own = sum-same (spared_by due lambda) (spared q) own
    (λ k d low. ap (λ n. spared (cond (nat_le n due) lambda 0) (get_or own k d)) (tell.dues k d low)) in
    let two : sum_by (paid_by due lambda) own ≡ sum_by (paid q) own = sum-same (paid_by due lambda) (paid q) own
    (λ k d low. ap (λ n. paid (cond (nat_le n due) lambda 0) (get_or own k d)) (tell.dues k d low)) in
    omega arith

-- ---- due times of a unit's steps
module _ (unit : CodedUnit) (entry : Option ℕ) (own : List CostStep) (base : ℕ) (tell : TellLeastAbove base unit.due (allowed unit entry) own) where
  own-due : (time : ℕ) → Contains (times_of own) time → unit.due ≡ time
  own-due time (k, within, is) =
      let none : CostStep = record { due = 0; from = 0; rise = 0; packets = 0; fewer = 0 } in
      let size : length (times_of own) ≡ length own = length-map own (λ (s : CostStep). s.due) in
      let at : get_or (times_of own) k time ≡ (get_or own k none).due = get_or-map (λ (s : CostStep). s.due) own k none time (omega arith) in
      let due : (get_or own k none).due ≡ unit.due = tell.dues k none (omega arith) in
      sym due ∙ sym at ∙ is

  has-due : (time : ℕ) → unit.due ≡ time → Contains (times_of own) time
  has-due time is =
      let none : CostStep = record { due = 0; from = 0; rise = 0; packets = 0; fewer = 0 } in
      let some : 0 < length own = omega (arith, tell.some) in
      let size : length (times_of own) ≡ length own = length-map own (λ (s : CostStep). s.due) in
      let at : get_or (times_of own) 0 time ≡ (get_or own 0 none).due = get_or-map (λ (s : CostStep). s.due) own 0 none time some in
      let due : (get_or own 0 none).due ≡ unit.due = tell.dues 0 none some in
      (0, omega arith, at ∙ due ∙ is)

-- ---- one unit more
pub added-first : (windows : List Window) (unit : CodedUnit) (entry : Option ℕ) (units : List CodedUnit) (fixed : List (Option ℕ)) (before mid after : List CostStep) → LeaveRoom windows
    → AddUnit windows unit entry before mid → AddSteps windows units fixed mid after → AddSteps windows (unit ∷ units) (entry ∷ fixed) before after
unfolding least_costs
added-first windows unit entry units fixed before mid after room add rest =
    let own = add.own in
    let tell = add.tell in
    let split : (f : CostStep → ℕ) → sum_by f mid ≡ sum_by f before + sum_by f own = λ f. ap (sum_by f) add.is ∙ sum_by-append f before own in
    let times : times_of mid ≡ times_of before ++ times_of own = ap times_of add.is ∙ map-append (λ (s : CostStep). s.due) before own in
    let size : length mid ≡ length before + length own = ap (λ (x : List CostStep). length x) add.is ∙ length-append before own in
    record {
      costs = λ due lambda limit.
          (let first = unit-costs windows unit entry own add.base due lambda room add.charged limit tell in
          let whole = sum_by-cons (λ (x : CodedUnit × Option ℕ). least_cost (beside windows due lambda) x.0 x.1) (unit, entry) (zip units fixed) in
          let others = rest.costs due lambda limit in
          let one = split (spared_by due lambda) in
          let two = split (paid_by due lambda) in
          omega arith);
      count = omega (arith, rest.count, tell.count);
      rises = omega (arith, rest.rises, tell.rises, split (λ (s : CostStep). s.rise));
      packets = omega (arith, rest.packets, tell.packets, split (λ (s : CostStep). s.packets));
      fewer = omega (arith, rest.fewer, tell.fewer, split (λ (s : CostStep). s.fewer));
      from = λ time has. elim (rest.from time has) as (λ _. Contains (times_of before) time ⊎ Contains (unit.due ∷ dues_of units) time) [
        | inl in_mid ↦
            (elim (Contains-append_cases (times_of before) (times_of own) time (subst (λ (x : List ℕ). Contains x time) times in_mid))
            as (λ _. Contains (times_of before) time ⊎ Contains (unit.due ∷ dues_of units) time) [
              | inl earlier ↦ inl earlier
              | inr here ↦ inr (0, omega arith, own-due unit entry own add.base tell time here)
            ])
        | inr later ↦ inr (Contains-append_right (unit.due ∷ []) (dues_of units) time later)
      ];
      kept = λ time has. rest.kept time (subst (λ (x : List ℕ). Contains x time) (sym times) (Contains-append_left (times_of before) (times_of own) time has));
      all = λ time has. elim (Contains-append_cases (unit.due ∷ []) (dues_of units) time has) as (λ _. Contains (times_of after) time) [
        | inl here ↦
            rest.kept time (subst (λ (x : List ℕ). Contains x time) (sym times)
            (Contains-append_right (times_of before) (times_of own) time (has-due unit entry own add.base tell time (Contains-one unit.due time here))))
        | inr later ↦ rest.all time later
      ];
    }

-- ---- no unit more
pub added-none : (windows : List Window) (fixed : List (Option ℕ)) (steps : List CostStep) → AddSteps windows [] fixed steps steps
unfolding least_costs
added-none windows fixed steps = record {
  costs = λ due lambda limit. omega arith;
  count = omega arith;
  rises = omega arith;
  packets = omega arith;
  fewer = omega arith;
  from = λ time has. inl has;
  kept = λ time has. has;
  all = λ time has. absurd (no_time time has);
}

-- ---- some units, and others behind them
pub added-both : (windows : List Window) (whole units others : List CodedUnit) (fixed front back : List (Option ℕ)) (before mid after : List CostStep) → whole ≡ units ++ others
    → ((all : List Window) → least_costs all whole fixed ≡ least_costs all units front + least_costs all others back) → AddSteps windows units front before mid
    → AddSteps windows others back mid after → AddSteps windows whole fixed before after
added-both windows whole units others fixed front back before mid after is total first second =
    let size : length whole ≡ length units + length others = ap (λ (x : List CodedUnit). length x) is ∙ length-append units others in
    let dues : dues_of whole ≡ dues_of units ++ dues_of others = ap dues_of is ∙ map-append (λ (u : CodedUnit). u.due) units others in
    record {
      costs = λ due lambda limit.
          (let one = first.costs due lambda limit in
          let two = second.costs due lambda limit in
          let both = total (beside windows due lambda) in
          omega arith);
      count = omega (arith, first.count, second.count);
      rises = omega (arith, first.rises, second.rises);
      packets = omega (arith, first.packets, second.packets);
      fewer = omega (arith, first.fewer, second.fewer);
      from = λ time has. elim (second.from time has) as (λ _. Contains (times_of before) time ⊎ Contains (dues_of whole) time) [
        | inl in_mid ↦
            (elim (first.from time in_mid) as (λ _. Contains (times_of before) time ⊎ Contains (dues_of whole) time) [
              | inl earlier ↦ inl earlier
              | inr here ↦ inr (subst (λ (x : List ℕ). Contains x time) (sym dues) (Contains-append_left (dues_of units) (dues_of others) time here))
            ])
        | inr later ↦ inr (subst (λ (x : List ℕ). Contains x time) (sym dues) (Contains-append_right (dues_of units) (dues_of others) time later))
      ];
      kept = λ time has. second.kept time (first.kept time has);
      all = λ time has. elim (Contains-append_cases (dues_of units) (dues_of others) time (subst (λ (x : List ℕ). Contains x time) dues has)) as (λ _. Contains (times_of after) time) [
        | inl here ↦ second.kept time (first.all time here)
        | inr later ↦ second.all time later
      ];
    }

-- ---- all units
pub steps-of : (table : Table) (fixed : List (Option ℕ)) (windows : List Window) (steps : List CostStep) → length (units_of table) ≤ UNITS_MOST
    → AddSteps windows (units_of table) fixed [] steps → AreStepsOf table fixed windows steps
steps-of table fixed windows steps few add = record {
  costs = λ due lambda limit. (let whole = add.costs due lambda limit in omega arith);
  small = record {
    count = omega (arith, add.count);
    rises = omega (arith, add.rises);
    packets = omega (arith, add.packets);
    fewer = omega (arith, add.fewer);
  };
  from = λ time has. elim (add.from time has) as (λ _. Contains (dues_of (units_of table)) time) [
    | inl none ↦ absurd (no_time time none)
    | inr is ↦ is
  ];
  all = add.all;
}

-- ---- in another order
pub steps-moved : (table : Table) (fixed : List (Option ℕ)) (windows : List Window) (steps moved : List CostStep) → IsPermutation steps moved → AreStepsOf table fixed windows steps
    → AreStepsOf table fixed windows moved
steps-moved table fixed windows steps moved by are =
    let same : (f : CostStep → ℕ) → sum_by f moved ≡ sum_by f steps = λ f. sum_by-IsPermutation f steps moved by in
    let times : IsPermutation (times_of steps) (times_of moved) = IsPermutation-map (λ (s : CostStep). s.due) steps moved by in
    record {
      costs = λ due lambda limit.
          (let whole = are.costs due lambda limit in
          let one = same (spared_by due lambda) in
          let two = same (paid_by due lambda) in
          omega arith);
      small = record {
        count = omega (arith, are.small.count, length_permutation steps moved by);
        rises = omega (arith, are.small.rises, same (λ (s : CostStep). s.rise));
        packets = omega (arith, are.small.packets, same (λ (s : CostStep). s.packets));
        fewer = omega (arith, are.small.fewer, same (λ (s : CostStep). s.fewer));
      };
      from = λ time has. are.from time (Contains-permutation (times_of moved) (times_of steps) time (IsPermutation-sym (times_of steps) (times_of moved) times) has);
      all = λ time has. Contains-permutation (times_of steps) (times_of moved) time times (are.all time has);
    }
