-- The greatest slot of which it is said that it is scheduled, among the first of some slots.
use Rattle.std.specs.Prelude.{◌≡◌, ℕ, ◌<◌, ◌≤◌, max, List, slice_get, Option, Some, None}
use Rattle.rate_fit.specs.declared.verdict.Verdict.{Verdict}
use Rattle.rate_fit.specs.declared.verdict.Verdict.TheVariants.{Scheduled, Missed, Limit}

-- slot number k is this, and it is said to be scheduled
pub record IsSaid (slots : List ℕ) (verdicts : List Verdict) (k slot : ℕ) : Type 0 where
  pub slot_is : slice_get slots k ≡ Some slot
  pub said : slice_get verdicts k ≡ Some Scheduled

-- the greatest among the first n
abbrev pub IsGreatestSaid : List ℕ → List Verdict → (n : ℕ) → Option ℕ → Type 0
IsGreatestSaid slots verdicts n (Some slot) =
    ((k : ℕ) × (k < n) × IsSaid slots verdicts k slot) × ((k other : ℕ) → k < n → IsSaid slots verdicts k other → other ≤ slot)
IsGreatestSaid slots verdicts n None = (k other : ℕ) → k < n → IsSaid slots verdicts k other → ⊥

-- the greatest, with one more slot and what is said of it
abbrev pub with_verdict : Option ℕ → ℕ → Verdict → Option ℕ
with_verdict (Some other) slot Scheduled = Some (max other slot)
with_verdict None slot Scheduled = Some slot
with_verdict greatest slot (Missed miss) = greatest
with_verdict greatest slot Limit = greatest
