-- Values of which each rise is at most the one before: they rise up to a place, and no more from it on.
use Rattle.std.proofs.Common.{◌≡◌, ℕ, zero, suc, ◌+◌, ◌-◌, ◌<◌, ◌≤◌, sym, subst, inl, inr, arith, ℤ, ◌+ℤ◌, ◌≤ℤ◌, ◌<ℤ◌}
use Rattle.std.proofs.lemmas.Bool.{cases_lt}
use Rattle.std.proofs.lemmas.Int.{ints}
use Rattle.dual_bounds.specs.declared.constants.TheConstants.{LAMBDA_MOST}
use Rattle.multiplier_search.specs.Private.Lambda.{EndsRise, RisesTo}

-- values with the same put to each are in the same order
pub less_beside : (a b more x y : ℤ) → x ≡ a +ℤ more → y ≡ b +ℤ more → x <ℤ y → a <ℤ b
less_beside a b more x y first second less = omega (arith, ints)

pub le_beside : (a b more x y : ℤ) → x ≡ a +ℤ more → y ≡ b +ℤ more → x ≤ℤ y → a ≤ℤ b
le_beside a b more x y first second le = omega (arith, ints)

module _ (value : ℕ → ℤ) (concave : (k : ℕ) → (value k +ℤ value (suc (suc k))) ≤ℤ (value (suc k) +ℤ value (suc k))) where
  -- each later rise is at most an earlier one
  rises_fall : (k more : ℕ) → (value (suc (k + more)) +ℤ value k) ≤ℤ (value (k + more) +ℤ value (suc k))
  rises_fall k zero =
      let same : k + 0 ≡ k = omega arith in
      rw same (omega (arith, ints))
  rises_fall k (suc more) =
      let next : k + suc more ≡ suc (k + more) = omega arith in
      let before = rises_fall k more in
      let here = concave (k + more) in
      rw next (omega (arith, ints))

  -- the values below the end of the rise are less
  below_end : (k more : ℕ) → RisesTo value (k + suc more) → value k <ℤ value (k + suc more)
  below_end k zero rises = rises k (omega arith)
  below_end k (suc more) rises =
      let next : k + suc (suc more) ≡ (k + suc more) + 1 = omega arith in
      let before : value k <ℤ value (k + suc more) = below_end k more (λ j low. rises j (omega arith)) in
      let rise : value (k + suc more) <ℤ value ((k + suc more) + 1) = rises (k + suc more) (omega arith) in
      rw next (omega (arith, ints))

  pub less_below : (lambda k : ℕ) → RisesTo value lambda → k < lambda → value k <ℤ value lambda
  less_below lambda k rises low =
      let whole : k + suc (lambda - suc k) ≡ lambda = omega arith in
      subst (λ n. value k <ℤ value n) whole (below_end k (lambda - suc k) (subst (λ n. RisesTo value n) (sym whole) rises))

  -- the values behind the end of the rise are no greater
  behind_end : (lambda more : ℕ) → value (lambda + 1) ≤ℤ value lambda → value (lambda + more) ≤ℤ value lambda
  behind_end lambda zero ends =
      let same : lambda + 0 ≡ lambda = omega arith in
      rw same (omega (arith, ints))
  behind_end lambda (suc more) ends =
      let next : lambda + suc more ≡ suc (lambda + more) = omega arith in
      let one_more : lambda + 1 ≡ suc lambda = omega arith in
      let ends' : value (suc lambda) ≤ℤ value lambda = subst (λ n. value n ≤ℤ value lambda) one_more ends in
      let before = behind_end lambda more ends in
      let fall = rises_fall lambda more in
      rw next (omega (arith, ints))

  pub no_greater_behind : (lambda k : ℕ) → EndsRise value lambda → lambda ≤ k → k ≤ LAMBDA_MOST → value k ≤ℤ value lambda
  no_greater_behind lambda k (inl last) from upto =
      let same : k ≡ lambda = omega arith in
      rw same (omega (arith, ints))
  no_greater_behind lambda k (inr ends) from upto =
      let whole : lambda + (k - lambda) ≡ k = omega arith in
      subst (λ n. value n ≤ℤ value lambda) whole (behind_end lambda (k - lambda) ends)

  -- where a value is less than the next, values rise up to the next
  pub rises_upto : (middle : ℕ) → value middle <ℤ value (middle + 1) → RisesTo value (middle + 1)
  rises_upto middle rise k low =
      let size : k + (middle - k) ≡ middle = omega arith in
      let next : middle + 1 ≡ suc middle = omega arith in
      let next_k : k + 1 ≡ suc k = omega arith in
      let fall : (value (suc middle) +ℤ value k) ≤ℤ (value middle +ℤ value (suc k)) =
      subst (λ n. (value (suc n) +ℤ value k) ≤ℤ (value n +ℤ value (suc k))) size (rises_fall k (middle - k)) in
      let rise' : value middle <ℤ value (suc middle) = subst (λ n. value middle <ℤ value n) next rise in
      rw next_k (omega (arith, ints))

  -- the value at the end of the rise is the greatest
  pub greatest_at : (lambda k : ℕ) → RisesTo value lambda → EndsRise value lambda → k ≤ LAMBDA_MOST → value k ≤ℤ value lambda
  greatest_at lambda k rises ends limit = elim (cases_lt k lambda) as (λ _. value k ≤ℤ value lambda) [
    | inl below ↦ (let less = less_below lambda k rises below in omega (arith, ints))
    | inr beyond ↦ no_greater_behind lambda k ends beyond limit
  ]
