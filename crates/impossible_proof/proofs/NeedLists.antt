-- What is needed along a list in the order of due times: up to a place, and in a window.
use Rattle.std.proofs.Common.{◌≡◌, ℕ, zero, suc, ◌+◌, ◌<◌, ◌≤◌, List, [], ◌∷◌, length, take, get_or, refl, ap, subst, inl, inr, arith}
use Rattle.std.specs.List.Sorted.{IsNonDecreasingBy}
use Rattle.std.proofs.lemmas.Bool.{cases_lt}
use Rattle.std.proofs.lemmas.List.Sums.{sum_by-cons}
use Rattle.impossible_proof.specs.declared.needs.UnitNeed.{UnitNeed}
use Rattle.impossible_proof.specs.Private.Needs.{need_in, packets_in}
use Rattle.impossible_proof.specs.Private.Scan.{before, due_at}
use Rattle.impossible_proof.proofs.Rooms.{before_window, behind_window, in_window}

-- ---- the order of due times, by recursion: each is at least this one, and the others follow on it
abbrev pub Rises : (low : ℕ) → List UnitNeed → Type 0
Rises low [] = Unit {0}
Rises low (one ∷ needs) = (low ≤ one.due) × Rises one.due needs

rises_from : (low : ℕ) (needs : List UnitNeed) → IsNonDecreasingBy (λ one. one.due) needs → ((d : UnitNeed) → 0 < length needs → low ≤ (get_or needs 0 d).due) → Rises low needs
rises_from low [] rising first = tt
rises_from low (one ∷ needs) rising first = (
  first one (omega arith),
  rises_from one.due needs (λ i j d upto within. rising (suc i) (suc j) d (omega arith) (omega arith)) (λ d some. rising zero (suc zero) d (omega arith) (omega arith)),
)

pub rises : (needs : List UnitNeed) → IsNonDecreasingBy (λ one. one.due) needs → Rises 0 needs
rises needs rising = rises_from 0 needs rising (λ d some. omega arith)

all_above : (low : ℕ) (needs : List UnitNeed) → Rises low needs → (k : ℕ) → k < length needs → low ≤ due_at needs k
all_above low [] up k within = absurd (omega arith)
all_above low (one ∷ needs) up zero within = up.0
all_above low (one ∷ needs) up (suc k) within = omega (arith, up.0, all_above one.due needs up.1 k (omega arith))

lower : (low less : ℕ) (needs : List UnitNeed) → less ≤ low → Rises low needs → Rises less needs
lower low less [] le up = tt
lower low less (one ∷ needs) le up = (omega (arith, up.0), up.1)

-- ---- one more need
need_in-cons : (from due : ℕ) (one : UnitNeed) (needs : List UnitNeed) → need_in from due (one ∷ needs) ≡ packets_in from due one + need_in from due needs
unfolding need_in
need_in-cons from due one needs = sum_by-cons (packets_in from due) one needs

need_in-nil : (from due : ℕ) → need_in from due [] ≡ 0
unfolding need_in
need_in-nil from due = refl

before-cons : (one : UnitNeed) (needs : List UnitNeed) (place : ℕ) → before (one ∷ needs) (suc place) ≡ one.packets + before needs place
unfolding before
before-cons one needs place = sum_by-cons (λ (n : UnitNeed). n.packets) one (take place needs)

before-none : (needs : List UnitNeed) → before needs 0 ≡ 0
unfolding before
before-none [] = refl
before-none (one ∷ needs) = refl

inside : (from due : ℕ) (one : UnitNeed) → from ≤ one.due → one.due ≤ due → packets_in from due one ≡ one.packets
inside from due one low high = rw (in_window from due one.due low high) refl

too_early : (from due : ℕ) (one : UnitNeed) → one.due < from → packets_in from due one ≡ 0
too_early from due one low = rw (before_window from due one.due low) refl

too_late : (from due : ℕ) (one : UnitNeed) → due < one.due → packets_in from due one ≡ 0
too_late from due one high = rw (behind_window from due one.due high) refl

-- ---- all are due from a time on, or later than one
all_from : (from low : ℕ) (needs : List UnitNeed) → Rises low needs → from ≤ low → need_in 0 from needs ≡ need_in from from needs
all_from from low [] up le = omega (arith, need_in-nil 0 from, need_in-nil from from)
all_from from low (one ∷ needs) up le =
    let rest = all_from from one.due needs up.1 (omega (arith, up.0)) in
    let first = need_in-cons 0 from one needs in
    let second = need_in-cons from from one needs in
    elim (cases_lt from one.due) as (λ _. need_in 0 from (one ∷ needs) ≡ need_in from from (one ∷ needs)) [
      | inl behind ↦ omega (arith, first, second, rest, too_late 0 from one behind, too_late from from one behind)
      | inr upto ↦ omega (arith, first, second, rest, inside 0 from one (omega arith) upto, inside from from one (omega (arith, up.0)) upto)
    ]

none_by : (due low : ℕ) (needs : List UnitNeed) → Rises low needs → due < low → need_in 0 due needs ≡ 0
none_by due low [] up less = need_in-nil 0 due
none_by due low (one ∷ needs) up less =
    omega (arith, need_in-cons 0 due one needs, too_late 0 due one (omega (arith, up.0)), none_by due one.due needs up.1 (omega (arith, up.0)))

-- ---- what is needed up to any place that is due at a window's end
pub needed_by : (low : ℕ) (needs : List UnitNeed) → Rises low needs → (k : ℕ) → k < length needs → before needs (k + 1) ≤ need_in 0 (due_at needs k) needs
needed_by low [] up k within = absurd (omega arith)
needed_by low (one ∷ needs) up zero within =
    omega (
      arith,
      before-cons one needs 0,
      before-none needs,
      need_in-cons 0 one.due one needs,
      inside 0 one.due one (omega arith) (omega arith),
    )
needed_by low (one ∷ needs) up (suc k) within =
    let due = due_at needs k in
    let next : suc k + 1 ≡ suc (k + 1) = omega arith in
    let above = all_above one.due needs up.1 k (omega arith) in
    omega (
      arith,
      ap (before (one ∷ needs)) next,
      before-cons one needs (k + 1),
      need_in-cons 0 due one needs,
      inside 0 due one (omega arith) above,
      needed_by one.due needs up.1 k (omega arith),
    )

-- ---- what is needed before any place that is due at a window's beginning
pub needed_before : (low : ℕ) (needs : List UnitNeed) → Rises low needs → (j : ℕ) → j < length needs
    → need_in 0 (due_at needs j) needs ≤ before needs j + need_in (due_at needs j) (due_at needs j) needs
needed_before low [] up j within = absurd (omega arith)
needed_before low (one ∷ needs) up zero within = omega (arith, all_from one.due one.due (one ∷ needs) (omega arith, up.1) (omega arith))
needed_before low (one ∷ needs) up (suc j) within =
    let due = due_at needs j in
    let above = all_above one.due needs up.1 j (omega arith) in
    omega (
      arith,
      before-cons one needs j,
      need_in-cons 0 due one needs,
      need_in-cons due due one needs,
      inside 0 due one (omega arith) above,
      needed_before one.due needs up.1 j (omega arith),
    )

-- ---- the first place that is due at a time
pub record IsFirstPlace (needs : List UnitNeed) (due : ℕ) : Type 0 where
  pub place : ℕ
  pub within : place < length needs
  pub due_is : due_at needs place ≡ due
  pub earlier : (m : ℕ) → m < place → due_at needs m < due
  pub total : before needs place + need_in due due needs ≡ need_in 0 due needs

next_first : (one : UnitNeed) (needs : List UnitNeed) (due : ℕ) → one.due < due → IsFirstPlace needs due → IsFirstPlace (one ∷ needs) due
next_first one needs due less is = record {
  place = suc is.place;
  within = omega (arith, is.within);
  due_is = is.due_is;
  earlier = before_it;
  total = omega (
    arith,
    before-cons one needs is.place,
    need_in-cons due due one needs,
    need_in-cons 0 due one needs,
    too_early due due one less,
    inside 0 due one (omega arith) (omega arith),
    is.total,
  );
}
  where
    before_it : (m : ℕ) → m < suc is.place → due_at (one ∷ needs) m < due
    before_it zero upto = less
    before_it (suc m) upto = is.earlier m (omega arith)

here_first : (one : UnitNeed) (needs : List UnitNeed) → Rises one.due needs → IsFirstPlace (one ∷ needs) one.due
here_first one needs up = record {
  place = 0;
  within = omega arith;
  due_is = refl;
  earlier = λ m upto. absurd (omega arith);
  total = omega (arith, before-none (one ∷ needs), all_from one.due one.due (one ∷ needs) (omega arith, up) (omega arith));
}

pub first_place : (low : ℕ) (needs : List UnitNeed) (due : ℕ) → Rises low needs → (k : ℕ) → k < length needs → due_at needs k ≡ due → IsFirstPlace needs due
first_place low [] due up k within is = absurd (omega arith)
first_place low (one ∷ needs) due up zero within is = subst (λ (d : ℕ). IsFirstPlace (one ∷ needs) d) is (here_first one needs up.1)
first_place low (one ∷ needs) due up (suc k) within is =
    let above = all_above one.due needs up.1 k (omega arith) in
    elim (cases_lt one.due due) as (λ _. IsFirstPlace (one ∷ needs) due) [
      | inl less ↦ next_first one needs due less (first_place one.due needs due up.1 k (omega arith) is)
      | inr upto ↦ (let same : one.due ≡ due = omega (arith, is) in subst (λ (d : ℕ). IsFirstPlace (one ∷ needs) d) same (here_first one needs up.1))
    ]

-- ---- the last place that is due at a time
pub record IsLastPlace (needs : List UnitNeed) (due : ℕ) : Type 0 where
  pub place : ℕ
  pub within : place < length needs
  pub due_is : due_at needs place ≡ due
  pub later : (m : ℕ) → place < m → m < length needs → due < due_at needs m
  pub total : before needs (place + 1) ≡ need_in 0 due needs

next_last : (one : UnitNeed) (needs : List UnitNeed) (due : ℕ) → one.due ≤ due → IsLastPlace needs due → IsLastPlace (one ∷ needs) due
next_last one needs due upto is =
    let next : suc is.place + 1 ≡ suc (is.place + 1) = omega arith in
    record {
      place = suc is.place;
      within = omega (arith, is.within);
      due_is = is.due_is;
      later = behind_it;
      total = omega (
        arith,
        ap (before (one ∷ needs)) next,
        before-cons one needs (is.place + 1),
        need_in-cons 0 due one needs,
        inside 0 due one (omega arith) upto,
        is.total,
      );
    }
  where
    behind_it : (m : ℕ) → suc is.place < m → m < length (one ∷ needs) → due < due_at (one ∷ needs) m
    behind_it zero past within = absurd (omega arith)
    behind_it (suc m) past within = is.later m (omega arith) (omega arith)

here_last : (one : UnitNeed) (needs : List UnitNeed) (low : ℕ) → Rises low needs → one.due < low → IsLastPlace (one ∷ needs) one.due
here_last one needs low up less = record {
  place = 0;
  within = omega arith;
  due_is = refl;
  later = behind_it;
  total = omega (
    arith,
    before-cons one needs 0,
    before-none needs,
    need_in-cons 0 one.due one needs,
    inside 0 one.due one (omega arith) (omega arith),
    none_by one.due low needs up less,
  );
}
  where
    behind_it : (m : ℕ) → 0 < m → m < length (one ∷ needs) → one.due < due_at (one ∷ needs) m
    behind_it zero past within = absurd (omega arith)
    behind_it (suc m) past within = omega (arith, all_above low needs up m (omega arith))

pub last_place : (low : ℕ) (needs : List UnitNeed) (due : ℕ) → Rises low needs → (k : ℕ) → k < length needs → due_at needs k ≡ due → IsLastPlace needs due
last_place low [] due up k within is = absurd (omega arith)
last_place low (one ∷ []) due up zero within is = subst (λ (d : ℕ). IsLastPlace (one ∷ []) d) is (here_last one [] (suc one.due) tt (omega arith))
last_place low (one ∷ []) due up (suc k) within is = absurd (omega arith)
last_place low (one ∷ two ∷ needs) due up zero within is =
    elim (cases_lt due two.due) as (λ _. IsLastPlace (one ∷ two ∷ needs) due) [
      | inl above ↦
          subst (λ (d : ℕ). IsLastPlace (one ∷ two ∷ needs) d) is
          (here_last one (two ∷ needs) two.due (omega arith, up.1.1) (omega (arith, is)))
      | inr upto ↦
          next_last one (two ∷ needs) due (omega (arith, is)) (last_place one.due (two ∷ needs) due up.1 zero (omega arith) (omega (arith, is, up.1.0)))
    ]
last_place low (one ∷ two ∷ needs) due up (suc k) within is =
    let above = all_above one.due (two ∷ needs) up.1 k (omega arith) in
    next_last one (two ∷ needs) due (omega (arith, is)) (last_place one.due (two ∷ needs) due up.1 k (omega arith) is)
