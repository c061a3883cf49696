-- The values of windows that begin behind time 0.
use Rattle.std.proofs.Common.{◌≡◌, ℕ, ◌+◌, ◌-◌, ◌≤◌, ◌&&◌, List, [], ◌∷◌, map, cond, nat_le, sum_by, Option, refl, ap, ◌∙◌, inl, inr, arith, ℤ, pos, ◌+ℤ◌, ◌-ℤ◌, ◌*ℤ◌}
use Rattle.std.specs.List.{zip}
use Rattle.std.proofs.lemmas.Bool.{cases_lt, le-leb, lt-leb}
use Rattle.std.proofs.lemmas.Int.{ints}
use Rattle.std.proofs.lemmas.List.Sums.{sum_by-cons}
use Rattle.version_table.specs.declared.table.Unit.{Unit as CodedUnit}
use Rattle.version_table.specs.declared.table.Table.{Table}
use Rattle.version_table.specs.Choice.{least}
use Rattle.version_table.specs.Table.{units_of}
use Rattle.dual_bounds.specs.declared.constants.TheConstants.{LAMBDA_MOST}
use Rattle.dual_bounds.specs.declared.windows.Window.{Window}
use Rattle.dual_bounds.specs.Fixed.{allowed}
use Rattle.dual_bounds.specs.Room.{room}
use Rattle.dual_bounds.specs.Values.{cost, least_cost, least_costs, price, value_of_windows, worth}
use Rattle.dual_bounds.proofs.Charges.{price-more, worth-more}
use Rattle.cost_sweep.specs.declared.sweep.CostSweep.{CostSweep}
use Rattle.cost_sweep.specs.declared.sweep.Costs.{Costs}
use Rattle.cost_sweep.specs.Steps.{paid_by, spared_by}
use Rattle.cost_sweep.specs.Sweep.{HasReached}
use Rattle.multiplier_search.specs.Private.Lambda.{value_beside}
use Rattle.multiplier_search.specs.Private.UnitSteps.{AreAtWindow, AreFree, AreStepsOf, beside}
use Rattle.multiplier_search.proofs.Added.{price-beside}

-- one window beside others
abbrev pub window_beside : List Window → (from due lambda : ℕ) → List Window
window_beside windows from due lambda = record { from = from; due = due; lambda = lambda } ∷ windows

price-within : (windows : List Window) (from due lambda time : ℕ)
    → price (window_beside windows from due lambda) time ≡ cond (nat_le from time && nat_le time due) lambda 0 + price windows time
price-within windows from due lambda time = price-more (record { from = from; due = due; lambda = lambda }) windows time

-- ---- what one unit costs under a window, and under the one before it, it costs under both as one, and without
module _ (windows : List Window) (from due before lambda : ℕ) (next : before + 1 ≡ from) (order : from ≤ due) where
  module _ (unit : CodedUnit) (entry : Option ℕ) where
    own : ℕ → ℕ
    own q = least (map (cost (q + price windows unit.due)) (allowed unit entry))

    at : (all : List Window) (q : ℕ) → price all unit.due ≡ q + price windows unit.due → least_cost all unit entry ≡ own q
    unfolding least_cost own
    at all q is = ap (λ p. least (map (cost p) (allowed unit entry))) is

    pub unit-between : least_cost (window_beside windows from due lambda) unit entry + least_cost (beside windows before lambda) unit entry
        ≡ least_cost (beside windows due lambda) unit entry + least_cost (beside windows due 0) unit entry
    unit-between =
        let within = price-within windows from due lambda unit.due in
        let early = price-beside windows before lambda unit.due in
        let upto = price-beside windows due lambda unit.due in
        let free = price-beside windows due 0 unit.due in
        elim (cases_lt unit.due from) as (λ _. least_cost (window_beside windows from due lambda) unit entry + least_cost (beside windows before lambda) unit entry
        ≡ least_cost (beside windows due lambda) unit entry + least_cost (beside windows due 0) unit entry) [
          | inl less ↦
              (let one = at (window_beside windows from due lambda) 0 (within ∙ rw (lt-leb from unit.due less) refl) in
              let two = at (beside windows before lambda) lambda (early ∙ rw (le-leb unit.due before (omega arith)) refl) in
              let three = at (beside windows due lambda) lambda (upto ∙ rw (le-leb unit.due due (omega arith)) refl) in
              let four = at (beside windows due 0) 0 (free ∙ rw (le-leb unit.due due (omega arith)) refl) in
              omega arith)
          | inr here ↦ (elim (cases_lt due unit.due) as (λ _. least_cost (window_beside windows from due lambda) unit entry + least_cost (beside windows before lambda) unit entry
              ≡ least_cost (beside windows due lambda) unit entry + least_cost (beside windows due 0) unit entry) [
                | inl later ↦
                    (let one = at (window_beside windows from due lambda) 0 (within ∙ rw (le-leb from unit.due here, lt-leb unit.due due later) refl) in
                    let two = at (beside windows before lambda) 0 (early ∙ rw (lt-leb unit.due before (omega arith)) refl) in
                    let three = at (beside windows due lambda) 0 (upto ∙ rw (lt-leb unit.due due later) refl) in
                    let four = at (beside windows due 0) 0 (free ∙ rw (lt-leb unit.due due later) refl) in
                    omega arith)
                | inr by ↦
                    (let one = at (window_beside windows from due lambda) lambda (within ∙ rw (le-leb from unit.due here, le-leb unit.due due by) refl) in
                    let two = at (beside windows before lambda) 0 (early ∙ rw (lt-leb unit.due before (omega arith)) refl) in
                    let three = at (beside windows due lambda) lambda (upto ∙ rw (le-leb unit.due due by) refl) in
                    let four = at (beside windows due 0) 0 (free ∙ rw (le-leb unit.due due by) refl) in
                    omega arith)
              ])
        ]

  sum-four : (f g h k : CodedUnit × Option ℕ → ℕ) (xs : List (CodedUnit × Option ℕ)) → ((x : CodedUnit × Option ℕ) → f x + g x ≡ h x + k x)
      → sum_by f xs + sum_by g xs ≡ sum_by h xs + sum_by k xs
  sum-four f g h k [] same = refl
  sum-four f g h k (x ∷ xs) same =
      let own = same x in
      let more = sum-four f g h k xs same in
      let one = sum_by-cons f x xs in
      let two = sum_by-cons g x xs in
      let three = sum_by-cons h x xs in
      let four = sum_by-cons k x xs in
      omega arith

  pub costs-between : (units : List CodedUnit) (fixed : List (Option ℕ)) → least_costs (window_beside windows from due lambda) units fixed + least_costs (beside windows before lambda) units fixed
      ≡ least_costs (beside windows due lambda) units fixed + least_costs (beside windows due 0) units fixed
  unfolding least_costs
  costs-between units fixed =
      sum-four (λ x. least_cost (window_beside windows from due lambda) x.0 x.1) (λ x. least_cost (beside windows before lambda) x.0 x.1)
      (λ x. least_cost (beside windows due lambda) x.0 x.1) (λ x. least_cost (beside windows due 0) x.0 x.1) (zip units fixed) (λ x. unit-between x.0 x.1)

-- ---- the value between two sweeps
pub are-free : (table : Table) (fixed : List (Option ℕ)) (windows : List Window) (due : ℕ) (last : CostSweep) (free : Costs) → AreStepsOf table fixed windows last.steps.now → HasReached due last
    → ((time : ℕ) → HasReached time last → free.paid ≡ sum_by (paid_by time 0) last.steps.now)
    → ((time : ℕ) → HasReached time last → free.spared ≡ sum_by (spared_by time 0) last.steps.now) → AreFree table fixed windows due free
are-free table fixed windows due last free steps reached paid spared =
    let costs = steps.costs due 0 (omega arith) in
    let one = paid due reached in
    let two = spared due reached in
    omega arith

pub value-between : (table : Table) (fixed : List (Option ℕ)) (windows : List Window) (from due lambda : ℕ) (last before : CostSweep) (free costs early : Costs) (capacity : ℤ) → lambda ≤ LAMBDA_MOST
    → AreAtWindow table fixed windows from due last before → AreFree table fixed windows due free
    → ((time : ℕ) → HasReached time last → costs.paid ≡ sum_by (paid_by time lambda) last.steps.now)
    → ((time : ℕ) → HasReached time last → costs.spared ≡ sum_by (spared_by time lambda) last.steps.now)
    → ((time : ℕ) → HasReached time before → early.paid ≡ sum_by (paid_by time lambda) before.steps.now)
    → ((time : ℕ) → HasReached time before → early.spared ≡ sum_by (spared_by time lambda) before.steps.now)
    → capacity ≡ room table from due
    → (pos ((costs.paid + free.paid) + early.spared) -ℤ pos ((costs.spared + free.spared) + early.paid)) -ℤ (pos lambda *ℤ capacity) ≡ value_beside table fixed windows from due lambda +ℤ worth table windows
unfolding value_of_windows
value-between table fixed windows from due lambda last before free costs early capacity limit at is_free paid spared early_paid early_spared room-is =
    let time = from - 1 in
    let some = at.some in
    let next : time + 1 ≡ from = omega arith in
    let passed = at.passed time next in
    let one = at.steps.costs due lambda limit in
    let two = at.early.costs time lambda limit in
    let three = paid due at.reached in
    let four = spared due at.reached in
    let five = early_paid time passed in
    let six = early_spared time passed in
    let seven = costs-between windows from due time lambda next at.order (units_of table) fixed in
    let sum : (costs.paid + free.paid) + early.spared ≡ least_costs (window_beside windows from due lambda) (units_of table) fixed + ((costs.spared + free.spared) + early.paid) = omega arith in
    let window : Window = record { from = from; due = due; lambda = lambda } in
    let eight : worth table (window_beside windows from due lambda) ≡ (pos lambda *ℤ room table from due) +ℤ worth table windows = worth-more table window windows in
    let same : pos lambda *ℤ capacity ≡ pos lambda *ℤ room table from due = ap (λ (z : ℤ). pos lambda *ℤ z) room-is in
    omega (arith, ints)
