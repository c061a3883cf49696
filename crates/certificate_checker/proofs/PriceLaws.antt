-- The price of a packet is what has risen by its due time less what has fallen before it.
use Rattle.std.proofs.Common.{◌≡◌, ℕ, zero, suc, ◌+◌, ◌*◌, ◌<◌, ◌≤◌, List, [], ◌∷◌, length, map, take, get_or, sum_by, All, refl, sym, ap, subst, ◌∙◌, inl, inr, arith}
use Rattle.std.specs.List.Sorted.{IsNonDecreasingBy, IsPermutation}
use Rattle.std.proofs.lemmas.Bool.{cases_lt, lt-ltb, le-ltb}
use Rattle.std.proofs.lemmas.List.{get_or_default}
use Rattle.std.proofs.lemmas.List.Elements.{All-head, All-tail}
use Rattle.std.proofs.lemmas.List.Sorted.{All-permutation, length_permutation, sum_by-IsPermutation}
use Rattle.std.proofs.lemmas.List.Sums.{sum_by-cons, sum_by_more}
use Rattle.dual_bounds.specs.declared.constants.TheConstants.{LAMBDA_MOST, WINDOWS_MOST}
use Rattle.dual_bounds.specs.declared.windows.Window.{Window as PricedWindow}
use Rattle.dual_bounds.specs.Values.{charge, price}
use Rattle.certificate_checker.specs.declared.prices.Dated.{Dated}
use Rattle.certificate_checker.specs.declared.prices.Passing.{Passing}
use Rattle.certificate_checker.specs.Faults.{NoneEmpty}
use Rattle.certificate_checker.specs.Private.Prices.{HasPassed, KeepsLimits, counted, fall_of, rise_of}

-- ---- what counts
abbrev pub none : Dated
none = record { time = 0; lambda = 0 }

counted-before : (time : ℕ) (one : Dated) → one.time < time → counted time one ≡ one.lambda
counted-before time one before = rw (lt-ltb one.time time before) refl

counted-behind : (time : ℕ) (one : Dated) → time ≤ one.time → counted time one ≡ 0
counted-behind time one behind = rw (le-ltb one.time time behind) refl

-- where the first have times before one, and the others not, the first count
front_counts : (time : ℕ) (dated : List Dated) (k : ℕ) → ((i : ℕ) (d : Dated) → i < k → i < length dated → (get_or dated i d).time < time)
    → ((i : ℕ) (d : Dated) → k ≤ i → i < length dated → time ≤ (get_or dated i d).time) → sum_by (counted time) dated ≡ sum_by (λ one. one.lambda) (take k dated)
front_counts time [] zero first others = refl
front_counts time [] (suc k) first others = refl
front_counts time (one ∷ dated) zero first others =
    omega (
      arith,
      sum_by-cons (counted time) one dated,
      counted-behind time one (others 0 none (omega arith) (omega arith)),
      front_counts time dated zero (λ i d low within. absurd (omega (arith, low))) (λ i d low within. others (suc i) d (omega arith) (omega (arith, within))),
    )
front_counts time (one ∷ dated) (suc k) first others =
    omega (
      arith,
      sum_by-cons (counted time) one dated,
      sum_by-cons (λ (x : Dated). x.lambda) one (take k dated),
      counted-before time one (first 0 none (omega arith) (omega arith)),
      front_counts time dated k (λ i d low within. first (suc i) d (omega (arith, low)) (omega (arith, within)))
          (λ i d low within. others (suc i) d (omega (arith, low)) (omega (arith, within))),
    )

-- ---- passing
-- the next has no time before this one, so none behind it has
pub passed_all : (time : ℕ) (passing : Passing) → HasPassed time passing
    → ((passing.place < length passing.dated.items) × ((d : Dated) → (get_or passing.dated.items passing.place d).time < time) → ⊥)
    → passing.sum ≡ sum_by (counted time) passing.dated.items
passed_all time passing has stopped =
    let dated = passing.dated.items in
    let next : (d : Dated) → passing.place < length dated → time ≤ (get_or dated passing.place d).time = λ d within.
    elim (cases_lt (get_or dated passing.place d).time time) as (λ _. time ≤ (get_or dated passing.place d).time) [
      | inl before ↦
          absurd (stopped (within, λ e. (let same = ap (λ (x : Dated). x.time) (get_or_default dated passing.place e d within) in omega (arith, same, before))))
      | inr behind ↦ behind
    ] in
    has.sum ∙ sym (front_counts time dated passing.place (λ i d low within. has.passed i d low)
    (λ i d low within. (let first = next d (omega (arith, low, within)) in let order = has.rising passing.place i d low within in omega (arith, first, order))))

pub passes_one : (time : ℕ) (old new : Passing) → HasPassed time old → old.place < length old.dated.items → ((d : Dated) → (get_or old.dated.items old.place d).time < time)
    → new.place ≡ old.place + 1 → new.dated.items ≡ old.dated.items → ((d : Dated) → new.sum ≡ old.sum + (get_or old.dated.items old.place d).lambda) → HasPassed time new
passes_one time old new has more before place same sum =
    let dated = old.dated.items in
    let total : new.sum ≡ sum_by (λ (x : Dated). x.lambda) (take (old.place + 1) dated) =
    omega (arith, sum none, has.sum, sum_by_more (λ (x : Dated). x.lambda) dated old.place none more) in
    let passed : (k : ℕ) (d : Dated) → k < old.place + 1 → (get_or dated k d).time < time = λ k d low.
    elim (cases_lt k old.place) as (λ _. (get_or dated k d).time < time) [
      | inl less ↦ has.passed k d less
      | inr most ↦ (let at : k ≡ old.place = omega (arith, low, most) in subst (λ (j : ℕ). (get_or dated j d).time < time) (sym at) (before d))
    ] in
    record {
      limits = rw same has.limits;
      rising = rw same has.rising;
      within = rw (same, place) (omega (arith, more));
      sum = rw (same, place) total;
      passed = rw (same, place) passed;
    }

-- the sum of what has passed is small
pub sum_small : (time : ℕ) (passing : Passing) → HasPassed time passing → passing.sum ≤ passing.place * LAMBDA_MOST
sum_small time passing has =
    let dated = passing.dated.items in
    omega (arith, has.sum, small dated passing.place has.limits.lambdas has.within)
  where
    small : (xs : List Dated) (k : ℕ) → All (λ (one : Dated). one.lambda ≤ LAMBDA_MOST) xs → k ≤ length xs → sum_by (λ (x : Dated). x.lambda) (take k xs) ≤ k * LAMBDA_MOST
    small xs zero lambdas within = omega arith
    small [] (suc k) lambdas within = absurd (omega (arith, within))
    small (x ∷ xs) (suc k) lambdas within =
        omega (
          arith,
          sum_by-cons (λ (y : Dated). y.lambda) x (take k xs),
          All-head (λ (one : Dated). one.lambda ≤ LAMBDA_MOST) x xs lambdas,
          small xs k (All-tail (λ (one : Dated). one.lambda ≤ LAMBDA_MOST) x xs lambdas) (omega (arith, within)),
        )

-- before all
pub passed_none : (time : ℕ) (dated : List Dated) (passing : Passing) → KeepsLimits dated → IsPermutation dated passing.dated.items → IsNonDecreasingBy (λ one. one.time) passing.dated.items
    → passing.place ≡ 0 → passing.sum ≡ 0 → HasPassed time passing
passed_none time dated passing limits moved rising place sum = record {
  limits = record {
    few = omega (arith, limits.few, length_permutation dated passing.dated.items moved);
    lambdas = All-permutation (λ (one : Dated). one.lambda ≤ LAMBDA_MOST) dated passing.dated.items moved limits.lambdas;
  };
  rising = rising;
  within = omega (arith, place);
  sum = sum ∙ ap (λ (k : ℕ). sum_by (λ (one : Dated). one.lambda) (take k passing.dated.items)) (sym place);
  passed = λ k d low. absurd (omega (arith, low, place));
}

-- at a later time no less has passed
pub passed_later : (time later : ℕ) (passing : Passing) → HasPassed time passing → time ≤ later → HasPassed later passing
passed_later time later passing has goes = record {
  limits = has.limits;
  rising = has.rising;
  within = has.within;
  sum = has.sum;
  passed = λ k d low. omega (arith, has.passed k d low, goes);
}

-- ---- limits of what windows make
pub rises_limits : (windows : List PricedWindow) (dated : List Dated) → dated ≡ map rise_of windows → length windows ≤ WINDOWS_MOST → All (λ window. window.lambda ≤ LAMBDA_MOST) windows
    → KeepsLimits dated
rises_limits windows dated are few lambdas = rw are (record { few = omega (arith, few, size windows); lambdas = each windows lambdas })
  where
    size : (ws : List PricedWindow) → length (map rise_of ws) ≡ length ws
    size [] = refl
    size (w ∷ ws) = ap suc (size ws)

    each : (ws : List PricedWindow) → All (λ (w : PricedWindow). w.lambda ≤ LAMBDA_MOST) ws → All (λ (one : Dated). one.lambda ≤ LAMBDA_MOST) (map rise_of ws)
    each [] all k d within = absurd (omega (arith, within))
    each (w ∷ ws) all zero d within = All-head (λ (x : PricedWindow). x.lambda ≤ LAMBDA_MOST) w ws all
    each (w ∷ ws) all (suc k) d within = each ws (All-tail (λ (x : PricedWindow). x.lambda ≤ LAMBDA_MOST) w ws all) k d (omega (arith, within))

pub falls_limits : (windows : List PricedWindow) (dated : List Dated) → dated ≡ map fall_of windows → length windows ≤ WINDOWS_MOST → All (λ window. window.lambda ≤ LAMBDA_MOST) windows
    → KeepsLimits dated
falls_limits windows dated are few lambdas = rw are (record { few = omega (arith, few, size windows); lambdas = each windows lambdas })
  where
    size : (ws : List PricedWindow) → length (map fall_of ws) ≡ length ws
    size [] = refl
    size (w ∷ ws) = ap suc (size ws)

    each : (ws : List PricedWindow) → All (λ (w : PricedWindow). w.lambda ≤ LAMBDA_MOST) ws → All (λ (one : Dated). one.lambda ≤ LAMBDA_MOST) (map fall_of ws)
    each [] all k d within = absurd (omega (arith, within))
    each (w ∷ ws) all zero d within = All-head (λ (x : PricedWindow). x.lambda ≤ LAMBDA_MOST) w ws all
    each (w ∷ ws) all (suc k) d within = each ws (All-tail (λ (x : PricedWindow). x.lambda ≤ LAMBDA_MOST) w ws all) k d (omega (arith, within))

-- ---- the price
charge_parts : (time : ℕ) (window : PricedWindow) → window.from ≤ window.due → charge time window + counted time (fall_of window) ≡ counted (time + 1) (rise_of window)
charge_parts time window some = grind (arith, some)

price_parts : (time : ℕ) (windows : List PricedWindow) → NoneEmpty windows
    → price windows time + sum_by (counted time) (map fall_of windows) ≡ sum_by (counted (time + 1)) (map rise_of windows)
unfolding price
price_parts time [] some = refl
price_parts time (window ∷ windows) some =
    omega (
      arith,
      sum_by-cons (charge time) window windows,
      sum_by-cons (counted time) (fall_of window) (map fall_of windows),
      sum_by-cons (counted (time + 1)) (rise_of window) (map rise_of windows),
      charge_parts time window (All-head (λ (w : PricedWindow). w.from ≤ w.due) window windows some),
      price_parts time windows (All-tail (λ (w : PricedWindow). w.from ≤ w.due) window windows some),
    )

-- what has risen is the price and what has fallen
pub price_is : (time risen fallen : ℕ) (windows : List PricedWindow) (first_rises rises first_falls falls : List Dated) → NoneEmpty windows → first_rises ≡ map rise_of windows
    → IsPermutation first_rises rises → first_falls ≡ map fall_of windows → IsPermutation first_falls falls → risen ≡ sum_by (counted (time + 1)) rises → fallen ≡ sum_by (counted time) falls
    → price windows time + fallen ≡ risen
price_is time risen fallen windows first_rises rises first_falls falls some rises_are rises_moved falls_are falls_moved risen_is fallen_is =
    let up : risen ≡ sum_by (counted (time + 1)) (map rise_of windows) =
    risen_is ∙ sum_by-IsPermutation (counted (time + 1)) first_rises rises rises_moved ∙ ap (sum_by (counted (time + 1))) rises_are in
    let down : fallen ≡ sum_by (counted time) (map fall_of windows) =
    fallen_is ∙ sum_by-IsPermutation (counted time) first_falls falls falls_moved ∙ ap (sum_by (counted time)) falls_are in
    omega (arith, up, down, price_parts time windows some)
