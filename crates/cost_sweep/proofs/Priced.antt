-- What steps come to where packets that are due by a time have a price.
use Rattle.std.proofs.Common.{◌≡◌, ℕ, ◌+◌, ◌*◌, ◌<◌, ◌≤◌, ◌-◌, List, [], ◌∷◌, length, take, drop, get_or, cond, nat_le, sum_by, All, Bool, true, false, refl, sym, ap, subst, arith}
use Rattle.std.proofs.lemmas.Bool.{le-leb, lt-leb}
use Rattle.std.proofs.lemmas.List.{get_or-take, get_or-drop, length-drop, length-take-le}
use Rattle.std.proofs.lemmas.List.Elements.{All-head, All-tail}
use Rattle.std.proofs.lemmas.List.Sums.{sum_by-cons, sum_by-take-drop, sum_by-take-le, sum_by-le-sum_by}
use Rattle.cost_sweep.specs.declared.step.CostStep.{CostStep}
use Rattle.cost_sweep.specs.Steps.{paid_by, spared_by}
use Rattle.cost_sweep.specs.Sweep.{counted}

abbrev pub rise_of : CostStep → ℕ
rise_of step = step.rise

abbrev pub fewer_of : CostStep → ℕ
fewer_of step = step.fewer

abbrev pub packets_of : CostStep → ℕ
packets_of step = step.packets

module _ (due price : ℕ) where
  -- ---- one step
  paid-due : (step : CostStep) → step.due ≤ due → paid_by due price step ≡ counted rise_of price step + step.packets * price
  paid-due step by = rw (le-leb step.due due by) refl

  spared-due : (step : CostStep) → step.due ≤ due → spared_by due price step ≡ counted fewer_of price step * price
  spared-due step by = rw (le-leb step.due due by) (cases (nat_le step.from price))
    where
      cases : (b : Bool) → cond b (step.fewer * price) 0 ≡ cond b step.fewer 0 * price
      cases true = refl
      cases false = omega arith

  paid-later : (step : CostStep) → due < step.due → paid_by due price step ≡ counted rise_of 0 step
  paid-later step later = rw (lt-leb step.due due later) (omega arith)

  spared-later : (step : CostStep) → due < step.due → spared_by due price step ≡ 0
  spared-later step later = rw (lt-leb step.due due later) (cases (nat_le step.from 0))
    where
      cases : (b : Bool) → cond b (step.fewer * 0) 0 ≡ 0
      cases true = omega arith
      cases false = refl

  -- ---- sums
  front-paid : (steps : List CostStep) → All (λ step. step.due ≤ due) steps
      → sum_by (paid_by due price) steps ≡ sum_by (counted rise_of price) steps + sum_by packets_of steps * price
  front-paid [] by = omega arith
  front-paid (step ∷ steps) by =
      let own = paid-due step (All-head (λ (s : CostStep). s.due ≤ due) step steps by) in
      let more = front-paid steps (All-tail (λ (s : CostStep). s.due ≤ due) step steps by) in
      let one = sum_by-cons (paid_by due price) step steps in
      let two = sum_by-cons (counted rise_of price) step steps in
      let three : sum_by packets_of (step ∷ steps) * price ≡ (step.packets + sum_by packets_of steps) * price = ap (λ n. n * price) (sum_by-cons packets_of step steps) in
      omega arith

  front-spared : (steps : List CostStep) → All (λ step. step.due ≤ due) steps → sum_by (spared_by due price) steps ≡ sum_by (counted fewer_of price) steps * price
  front-spared [] by = omega arith
  front-spared (step ∷ steps) by =
      let own = spared-due step (All-head (λ (s : CostStep). s.due ≤ due) step steps by) in
      let more = front-spared steps (All-tail (λ (s : CostStep). s.due ≤ due) step steps by) in
      let one = sum_by-cons (spared_by due price) step steps in
      let two : sum_by (counted fewer_of price) (step ∷ steps) * price ≡ (counted fewer_of price step + sum_by (counted fewer_of price) steps) * price =
      ap (λ n. n * price) (sum_by-cons (counted fewer_of price) step steps) in
      omega arith

  back-paid : (steps : List CostStep) → All (λ step. due < step.due) steps → sum_by (paid_by due price) steps ≡ sum_by (counted rise_of 0) steps
  back-paid [] later = refl
  back-paid (step ∷ steps) later =
      let own = paid-later step (All-head (λ (s : CostStep). due < s.due) step steps later) in
      let more = back-paid steps (All-tail (λ (s : CostStep). due < s.due) step steps later) in
      let one = sum_by-cons (paid_by due price) step steps in
      let two = sum_by-cons (counted rise_of 0) step steps in
      omega arith

  back-spared : (steps : List CostStep) → All (λ step. due < step.due) steps → sum_by (spared_by due price) steps ≡ 0
  back-spared [] later = refl
  back-spared (step ∷ steps) later =
      let own = spared-later step (All-head (λ (s : CostStep). due < s.due) step steps later) in
      let more = back-spared steps (All-tail (λ (s : CostStep). due < s.due) step steps later) in
      let one = sum_by-cons (spared_by due price) step steps in
      omega arith

  -- ---- the first steps are due, the others later
  module _ (steps : List CostStep) (place : ℕ) (within : place ≤ length steps) (by : (k : ℕ) (d : CostStep) → k < place → (get_or steps k d).due ≤ due)
      (later : (k : ℕ) (d : CostStep) → place ≤ k → k < length steps → due < (get_or steps k d).due) where
    front : All (λ step. step.due ≤ due) (take place steps)
    front k d low =
        let size : length (take place steps) ≡ place = length-take-le place steps within in
        let here : get_or (take place steps) k d ≡ get_or steps k d = get_or-take place steps k d (omega arith) in
        subst (λ (s : CostStep). s.due ≤ due) (sym here) (by k d (omega arith))

    back : All (λ step. due < step.due) (drop place steps)
    back k d low =
        let size : length (drop place steps) ≡ length steps - place = length-drop place steps in
        let here : get_or (drop place steps) k d ≡ get_or steps (place + k) d = get_or-drop place steps k d in
        subst (λ (s : CostStep). due < s.due) (sym here) (later (place + k) d (omega arith) (omega arith))

    pub paid-is : sum_by (paid_by due price) steps
        ≡ (sum_by (counted rise_of price) (take place steps) + sum_by (counted rise_of 0) (drop place steps)) + sum_by packets_of (take place steps) * price
    paid-is =
        let one = sum_by-take-drop (paid_by due price) steps place in
        let two = front-paid (take place steps) front in
        let three = back-paid (drop place steps) back in
        omega arith

    pub spared-is : sum_by (spared_by due price) steps ≡ sum_by (counted fewer_of price) (take place steps) * price
    spared-is =
        let one = sum_by-take-drop (spared_by due price) steps place in
        let two = front-spared (take place steps) front in
        let three = back-spared (drop place steps) back in
        omega arith

-- ---- bounds
pub counted-le : (amount : CostStep → ℕ) (price : ℕ) (step : CostStep) → counted amount price step ≤ amount step
counted-le amount price step = cases (nat_le step.from price)
  where
    cases : (b : Bool) → cond b (amount step) 0 ≤ amount step
    cases true = omega arith
    cases false = omega arith

pub counted-front : (amount : CostStep → ℕ) (price : ℕ) (steps : List CostStep) (place : ℕ) → sum_by (counted amount price) (take place steps) ≤ sum_by amount steps
counted-front amount price steps place =
    let one = sum_by-take-le (counted amount price) steps place in
    let two = sum_by-le-sum_by (counted amount price) amount steps (counted-le amount price) in
    omega arith

pub counted-back : (amount : CostStep → ℕ) (price : ℕ) (steps : List CostStep) (place : ℕ) → sum_by (counted amount price) (drop place steps) ≤ sum_by amount steps
counted-back amount price steps place =
    let one = sum_by-take-drop (counted amount price) steps place in
    let two = sum_by-le-sum_by (counted amount price) amount steps (counted-le amount price) in
    omega arith
