-- How many instants have come: one instant after another.
use Rattle.std.proofs.Common.{◌≡◌, ℕ, zero, suc, ◌+◌, ◌<◌, ◌≤◌, ltb, leb, cond, List, [], ◌∷◌, length, get_or, refl, ◌∙◌, arith, inl, inr}
use Rattle.std.proofs.lemmas.Bool.{cases_lt, le-leb, lt-leb, lt-ltb, le-ltb, cond-true, cond-false}
use Rattle.std.proofs.lemmas.List.Sums.{sum_by-cons}
use Rattle.tstd_model.specs.Instants.{came, came_before}
use Rattle.tstd_model.specs.Private.Server.{Spaced, EachWithin}

pub came-nil : (at : ℕ) → came at [] ≡ 0
came-nil at = refl

-- an instant that has come, and one that has not
pub came-yes : (at instant : ℕ) (later : List ℕ) → instant ≤ at → came at (instant ∷ later) ≡ suc (came at later)
came-yes at instant later has =
    let here : ◌≡◌ {A = ℕ} (cond (leb instant at) 1 0) 1 = cond-true (leb instant at) 1 0 (le-leb instant at has) in
    omega (arith, here, sum_by-cons (λ x. cond (leb x at) 1 0) instant later)

pub came-no : (at instant : ℕ) (later : List ℕ) → at < instant → came at (instant ∷ later) ≡ came at later
came-no at instant later has =
    let here : ◌≡◌ {A = ℕ} (cond (leb instant at) 1 0) 0 = cond-false (leb instant at) 1 0 (lt-leb instant at has) in
    omega (arith, here, sum_by-cons (λ x. cond (leb x at) 1 0) instant later)

pub came_before-yes : (at instant : ℕ) (later : List ℕ) → instant < at → came_before at (instant ∷ later) ≡ suc (came_before at later)
came_before-yes at instant later has =
    let here : ◌≡◌ {A = ℕ} (cond (ltb instant at) 1 0) 1 = cond-true (ltb instant at) 1 0 (lt-ltb instant at has) in
    omega (arith, here, sum_by-cons (λ x. cond (ltb x at) 1 0) instant later)

pub came_before-no : (at instant : ℕ) (later : List ℕ) → at ≤ instant → came_before at (instant ∷ later) ≡ came_before at later
came_before-no at instant later has =
    let here : ◌≡◌ {A = ℕ} (cond (ltb instant at) 1 0) 0 = cond-false (ltb instant at) 1 0 (le-ltb instant at has) in
    omega (arith, here, sum_by-cons (λ x. cond (ltb x at) 1 0) instant later)

-- one more instant, and at most one more has come
pub came-more : (at instant : ℕ) (later : List ℕ) → came at later ≤ came at (instant ∷ later)
came-more at instant later = elim (cases_lt at instant) [
  | inl after ↦ omega (arith, came-no at instant later after)
  | inr has ↦ omega (arith, came-yes at instant later has)
]

pub came-one_more : (at instant : ℕ) (later : List ℕ) → came at (instant ∷ later) ≤ suc (came at later)
came-one_more at instant later = elim (cases_lt at instant) [
  | inl after ↦ omega (arith, came-no at instant later after)
  | inr has ↦ omega (arith, came-yes at instant later has)
]

-- of instants that don't fall, none has come before the first
pub came_none : (at before : ℕ) (instants : List ℕ) → at < before → Spaced 0 before instants → came at instants ≡ 0
came_none at before [] early rise = refl
came_none at before (instant ∷ later) early rise = came-no at instant later (omega (arith, rise.0)) ∙ came_none at instant later (omega (arith, rise.0)) rise.1

-- instants with steps between them don't fall
pub Spaced-rises : (step before before' : ℕ) (instants : List ℕ) → before' ≤ before + step → Spaced step before instants → Spaced 0 before' instants
Spaced-rises step before before' [] low rise = tt
Spaced-rises step before before' (instant ∷ later) low rise = (omega (arith, rise.0), Spaced-rises step instant instant later (omega arith) rise.1)

pub came_none-spaced : (step at before : ℕ) (instants : List ℕ) → at < before → Spaced step before instants → came at instants ≡ 0
came_none-spaced step at before instants early rise = came_none at before instants early (Spaced-rises step before before instants (omega arith) rise)

-- the first is at least a step after `before`
pub came_none-far : (step at before : ℕ) (instants : List ℕ) → at < before + step → Spaced step before instants → came at instants ≡ 0
came_none-far step at before instants early rise = came_none at (before + step) instants early (Spaced-rises step before (before + step) instants (omega arith) rise)

-- where each other instant is at most so much later, as many of them have come so much later
pub came-within : (delay x : ℕ) (ins outs : List ℕ) → EachWithin delay outs ins → came x ins ≤ came (x + delay) outs
came-within delay x [] [] within = omega arith
came-within delay x [] (o ∷ outs) within = absurd within
came-within delay x (i ∷ ins) [] within = absurd within
came-within delay x (i ∷ ins) (o ∷ outs) within = elim (cases_lt x i) [
  | inl after ↦ omega (arith, came-no x i ins after, came-within delay x ins outs within.1, came-more (x + delay) o outs)
  | inr has ↦ omega (arith, came-yes x i ins has, came-yes (x + delay) o outs (omega (arith, within.0)), came-within delay x ins outs within.1)
]

-- of instants that don't fall, as many have come as stand before the first one that has not
pub came-at : (x before c : ℕ) (instants : List ℕ) → Spaced 0 before instants → c < came x instants → get_or instants c 0 ≤ x
came-at x before c [] rise some = absurd (omega arith)
came-at x before zero (instant ∷ later) rise some = elim (cases_lt x instant) [
  | inl after ↦ absurd (omega (arith, came-no x instant later after, came_none x instant later after rise.1))
  | inr has ↦ has
]
came-at x before (suc c) (instant ∷ later) rise some = elim (cases_lt x instant) as (λ _. get_or later c 0 ≤ x) [
  | inl after ↦ absurd (omega (arith, came-no x instant later after, came_none x instant later after rise.1))
  | inr has ↦ came-at x instant c later rise.1 (omega (arith, came-yes x instant later has))
]

pub came-from : (x before c : ℕ) (instants : List ℕ) → Spaced 0 before instants → c < length instants → get_or instants c 0 ≤ x → c < came x instants
came-from x before c [] rise within has = absurd (omega arith)
came-from x before zero (instant ∷ later) rise within has = omega (arith, came-yes x instant later has)
came-from x before (suc c) (instant ∷ later) rise within has =
    omega (arith, came-from x instant c later rise.1 (omega arith) has, came-yes x instant later (came-first x instant c later rise.1 has (omega arith)))
  where
    came-first : (x instant c : ℕ) (later : List ℕ) → Spaced 0 instant later → get_or later c 0 ≤ x → c < length later → instant ≤ x
    came-first x instant c [] rise has within = absurd (omega arith)
    came-first x instant zero (y ∷ later) rise has within = omega (arith, rise.0)
    came-first x instant (suc c) (y ∷ later) rise has within = omega (arith, rise.0, came-first x y c later rise.1 has (omega arith))

pub came-length : (x : ℕ) (instants : List ℕ) → came x instants ≤ length instants
came-length x [] = omega arith
came-length x (instant ∷ later) = elim (cases_lt x instant) [
  | inl after ↦ omega (arith, came-no x instant later after, came-length x later)
  | inr has ↦ omega (arith, came-yes x instant later has, came-length x later)
]

-- ---- the same of those that came before an instant
pub came_before-more : (at instant : ℕ) (later : List ℕ) → came_before at later ≤ came_before at (instant ∷ later)
came_before-more at instant later = elim (cases_lt instant at) [
  | inl has ↦ omega (arith, came_before-yes at instant later has)
  | inr after ↦ omega (arith, came_before-no at instant later after)
]

pub came_before-one_more : (at instant : ℕ) (later : List ℕ) → came_before at (instant ∷ later) ≤ suc (came_before at later)
came_before-one_more at instant later = elim (cases_lt instant at) [
  | inl has ↦ omega (arith, came_before-yes at instant later has)
  | inr after ↦ omega (arith, came_before-no at instant later after)
]

pub came_before_none : (at before : ℕ) (instants : List ℕ) → at ≤ before → Spaced 0 before instants → came_before at instants ≡ 0
came_before_none at before [] early rise = refl
came_before_none at before (instant ∷ later) early rise =
    came_before-no at instant later (omega (arith, rise.0)) ∙ came_before_none at instant later (omega (arith, rise.0)) rise.1
