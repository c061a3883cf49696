-- When a server hasn't been idle for a second: the walk over its bytes finds the first such instant.
use Rattle.std.proofs.Common.{◌≡◌, ℕ, suc, ◌+◌, ◌-◌, ◌<◌, ◌≤◌, ◌⊎◌, inl, inr, leb, cond, List, [], ◌∷◌, max, Option, Some, None, refl, sym, ap, ◌∙◌, subst, arith}
use Rattle.std.proofs.lemmas.Bool.{cases_lt, cond-true, cond-false, le-leb, lt-leb}
use Rattle.stream_constants.specs.declared.clock.TheConstants.{SUBTICKS_PER_SECOND}
use Rattle.tstd_model.specs.Instants.{came, departures}
use Rattle.tstd_model.specs.Private.Server.{Spaced}
use Rattle.tstd_model.proofs.Counts.{came-yes, came-no, came_none, came_none-spaced}
use Rattle.tstd_model.proofs.Server.{departures-spaced}
use Rattle.stream_audit.specs.Private.BusyTime.{busy_by}

-- ---- the walk

-- a second has passed
pub by-second : (s from until : ℕ) (comes : List ℕ) → from + SUBTICKS_PER_SECOND ≤ until → busy_by s from until comes ≡ Some (from + SUBTICKS_PER_SECOND)
unfolding busy_by
by-second s from until [] le = cond-true (leb (from + SUBTICKS_PER_SECOND) until) (Some (from + SUBTICKS_PER_SECOND)) None (le-leb (from + SUBTICKS_PER_SECOND) until le)
by-second s from until (x ∷ later) le =
    cond-true (leb (from + SUBTICKS_PER_SECOND) until) (Some (from + SUBTICKS_PER_SECOND)) (cond (leb x until) (busy_by s from (until + s) later) (busy_by s x (x + s) later))
    (le-leb (from + SUBTICKS_PER_SECOND) until le)

-- nothing comes any more
pub by-end : (s from until : ℕ) → until < from + SUBTICKS_PER_SECOND → busy_by s from until [] ≡ None
unfolding busy_by
by-end s from until short = cond-false (leb (from + SUBTICKS_PER_SECOND) until) (Some (from + SUBTICKS_PER_SECOND)) None (lt-leb (from + SUBTICKS_PER_SECOND) until short)

by-next : (s from until x : ℕ) (later : List ℕ) → until < from + SUBTICKS_PER_SECOND →
    busy_by s from until (x ∷ later) ≡ cond (leb x until) (busy_by s from (until + s) later) (busy_by s x (x + s) later)
unfolding busy_by
by-next s from until x later short =
    cond-false (leb (from + SUBTICKS_PER_SECOND) until) (Some (from + SUBTICKS_PER_SECOND)) (cond (leb x until) (busy_by s from (until + s) later) (busy_by s x (x + s) later))
    (lt-leb (from + SUBTICKS_PER_SECOND) until short)

-- a byte comes while it is busy
pub by-on : (s from until x : ℕ) (later : List ℕ) → until < from + SUBTICKS_PER_SECOND → x ≤ until → busy_by s from until (x ∷ later) ≡ busy_by s from (until + s) later
by-on s from until x later short le =
    by-next s from until x later short ∙ cond-true (leb x until) (busy_by s from (until + s) later) (busy_by s x (x + s) later) (le-leb x until le)

-- a byte comes when it is idle
pub by-anew : (s from until x : ℕ) (later : List ℕ) → until < from + SUBTICKS_PER_SECOND → until < x → busy_by s from until (x ∷ later) ≡ busy_by s x (x + s) later
by-anew s from until x later short lt =
    by-next s from until x later short ∙ cond-false (leb x until) (busy_by s from (until + s) later) (busy_by s x (x + s) later) (lt-leb x until lt)

-- ---- a second on end

-- at this instant something has held for a second
abbrev pub Second : (ℕ → Type 0) → ℕ → Type 0
Second P at = (from : ℕ) × (at ≡ from + SUBTICKS_PER_SECOND) × ((t : ℕ) → from ≤ t → t < at → P t)

-- the first such instant, or none where there is none
abbrev pub IsFirstSecond : (ℕ → Type 0) → Option ℕ → Type 0
IsFirstSecond P (Some at) = Second P at × ((other : ℕ) → Second P other → at ≤ other)
IsFirstSecond P None = (at : ℕ) → Second P at → ⊥

-- what holds at the same instants, at least where it matters
pub first-moves : (P Q : ℕ → Type 0) (found : Option ℕ) → ((t : ℕ) → P t → Q t) → ((at : ℕ) → Second Q at → Second P at) → IsFirstSecond P found → IsFirstSecond Q found
first-moves P Q (Some at) to back first = ((first.0.0, first.0.1, λ t low high. to t (first.0.2 t low high)), λ other second. first.1 other (back other second))
first-moves P Q None to back none = λ at second. none at (back at second)

-- ---- when a server is busy

-- busy by what has come, from one instant until another, or then by what comes later
abbrev pub Busy : (s from until : ℕ) → List ℕ → ℕ → Type 0
Busy s from until comes t = ((from ≤ t) × (t < until)) ⊎ ((until ≤ t) × (0 < came t comes - came t (departures s until comes)))

-- a second ends a second behind the begin at the earliest
second-low : (s from until : ℕ) (comes : List ℕ) (at : ℕ) → from ≤ until → Second (Busy s from until comes) at → from + SUBTICKS_PER_SECOND ≤ at
second-low s from until comes at order second = by_busy (second.2 second.0 (omega arith) (omega (arith, second.1)))
  where
    by_busy : Busy s from until comes second.0 → from + SUBTICKS_PER_SECOND ≤ at
    by_busy (inl here) = omega (arith, here.0, second.1)
    by_busy (inr then) = omega (arith, then.0, order, second.1)

module _ (s from until x : ℕ) (later : List ℕ) where
  -- the byte that comes next is there until it leaves
  leaves-later : (d t : ℕ) → max x until + s ≡ d → t < d → came t (departures s until (x ∷ later)) ≡ 0
  unfolding departures
  leaves-later d t is lt =
      came-no t (max x until + s) (departures s (max x until + s) later) (omega (arith, is, lt))
      ∙ came_none-spaced s t (max x until + s) (departures s (max x until + s) later) (omega (arith, is, lt)) (departures-spaced s (max x until + s) later)

  -- from then on it counts no more
  left-then : (d t : ℕ) → max x until + s ≡ d → x ≤ t → d ≤ t →
      came t (x ∷ later) - came t (departures s until (x ∷ later)) ≡ came t later - came t (departures s d later)
  unfolding departures
  left-then d t is has le =
      let outs : came t (departures s until (x ∷ later)) ≡ suc (came t (departures s d later)) =
      came-yes t (max x until + s) (departures s (max x until + s) later) (omega (arith, is, le)) ∙ ap (λ n. suc (came t (departures s n later))) is in
      omega (arith, outs, came-yes t x later has)

  there-now : (d t : ℕ) → max x until + s ≡ d → x ≤ t → t < d → 0 < came t (x ∷ later) - came t (departures s until (x ∷ later))
  there-now d t is has lt = omega (arith, came-yes t x later has, leaves-later d t is lt)

  -- while it is busy
  on-to : x ≤ until → from ≤ until → (t : ℕ) → Busy s from (until + s) later t → Busy s from until (x ∷ later) t
  on-to le order t busy = let is : max x until + s ≡ until + s = omega (arith, le) in
      elim (cases_lt t until) [
        | inl before ↦ inl (low t busy, before)
        | inr behind ↦ inr (
          behind,
          elim (cases_lt t (until + s)) [
            | inl early ↦ there-now (until + s) t is (omega (arith, le, behind)) early
            | inr late ↦ subst (λ n. 0 < n) (sym (left-then (until + s) t is (omega (arith, le, behind)) late)) (rest t late busy)
          ],
        )
      ]
    where
      low : (t : ℕ) → Busy s from (until + s) later t → from ≤ t
      low t (inl here) = here.0
      low t (inr then) = omega (arith, then.0, order)

      rest : (t : ℕ) → until + s ≤ t → Busy s from (until + s) later t → 0 < came t later - came t (departures s (until + s) later)
      rest t late (inl here) = absurd (omega (arith, here.1, late))
      rest t late (inr then) = then.1

  on-back : x ≤ until → from ≤ until → (t : ℕ) → Busy s from until (x ∷ later) t → Busy s from (until + s) later t
  on-back le order t (inl here) = inl (here.0, omega (arith, here.1))
  on-back le order t (inr then) = let is : max x until + s ≡ until + s = omega (arith, le) in
      elim (cases_lt t (until + s)) [
        | inl early ↦ inl (omega (arith, then.0, order), early)
        | inr late ↦ inr (late, subst (λ n. 0 < n) (left-then (until + s) t is (omega (arith, le, then.0)) late) then.1)
      ]

  -- when it is idle
  anew-to : until < x → (t : ℕ) → Busy s x (x + s) later t → Busy s from until (x ∷ later) t
  anew-to lt t (inl here) = let is : max x until + s ≡ x + s = omega (arith, lt) in inr (omega (arith, lt, here.0), there-now (x + s) t is here.0 here.1)
  anew-to lt t (inr then) = let is : max x until + s ≡ x + s = omega (arith, lt) in
      inr (omega (arith, lt, then.0), subst (λ n. 0 < n) (sym (left-then (x + s) t is (omega (arith, then.0)) then.0)) then.1)

  -- nothing is there from when the last byte left until the next one comes
  idle : until < x → Spaced 0 x later → (t : ℕ) → until ≤ t → t < x → Busy s from until (x ∷ later) t → ⊥
  idle lt rise t low high (inl here) = absurd (omega (arith, here.1, low))
  idle lt rise t low high (inr then) =
      let none : came t (x ∷ later) ≡ 0 = came-no t x later high ∙ came_none t x later high rise in
      absurd (omega (arith, then.1, none))

  anew-back : until < x → Spaced 0 x later → from ≤ until → until < from + SUBTICKS_PER_SECOND → (at : ℕ) → Second (Busy s from until (x ∷ later)) at → Second (Busy s x (x + s) later) at
  anew-back lt rise order short at second = (second.0, second.1, λ t low high. by_busy t low high (second.2 t low high))
    where
      start_late : until ≤ second.0
      start_late = elim (cases_lt second.0 until) [
        | inr late ↦ late
        | inl early ↦ absurd (idle lt rise until (omega arith) lt (second.2 until (omega (arith, early)) (omega (arith, short, second-low s from until (x ∷ later) at order second))))
      ]

      by_busy : (t : ℕ) → second.0 ≤ t → t < at → Busy s from until (x ∷ later) t → Busy s x (x + s) later t
      by_busy t low high busy = let is : max x until + s ≡ x + s = omega (arith, lt) in
          elim (cases_lt t x) [
            | inl before ↦ absurd (idle lt rise t (omega (arith, start_late, low)) before busy)
            | inr behind ↦ elim (cases_lt t (x + s)) [
              | inl early ↦ inl (behind, early)
              | inr late ↦ inr (late, rest t is behind late busy)
            ]
          ]
        where
          rest : (t : ℕ) → max x until + s ≡ x + s → x ≤ t → x + s ≤ t → Busy s from until (x ∷ later) t → 0 < came t later - came t (departures s (x + s) later)
          rest t is behind late (inl here) = absurd (omega (arith, here.1, lt, behind))
          rest t is behind late (inr then) = subst (λ n. 0 < n) (left-then (x + s) t is behind late) then.1

-- ---- the walk finds the first second

found-now : (s from until : ℕ) (comes : List ℕ) → from ≤ until → from + SUBTICKS_PER_SECOND ≤ until → IsFirstSecond (Busy s from until comes) (Some (from + SUBTICKS_PER_SECOND))
found-now s from until comes order le =
    ((from, refl, λ t low high. inl (low, omega (arith, high, le))), λ other second. second-low s from until comes other order second)

found-never : (s from until : ℕ) → from ≤ until → until < from + SUBTICKS_PER_SECOND → IsFirstSecond (Busy s from until []) None
found-never s from until order short at second =
    by_busy (second.2 until (start (second.2 second.0 (omega arith) (omega (arith, second.1)))) (omega (arith, short, second-low s from until [] at order second)))
  where
    start : Busy s from until [] second.0 → second.0 ≤ until
    start (inl here) = omega (arith, here.1)
    start (inr then) = absurd (omega (arith, then.1))

    by_busy : Busy s from until [] until → ⊥
    by_busy (inl here) = absurd (omega (arith, here.1))
    by_busy (inr then) = absurd (omega (arith, then.1))

rise-rest : (x : ℕ) (later : List ℕ) → Spaced 0 x later → Spaced 0 0 later
rise-rest x [] rise = tt
rise-rest x (y ∷ later) rise = (omega arith, rise.1)

pub first-second : (s from until : ℕ) (comes : List ℕ) → from ≤ until → Spaced 0 0 comes → IsFirstSecond (Busy s from until comes) (busy_by s from until comes)
first-second s from until [] order rise = elim (cases_lt until (from + SUBTICKS_PER_SECOND)) [
  | inr long ↦ subst (λ found. IsFirstSecond (Busy s from until []) found) (sym (by-second s from until [] long)) (found-now s from until [] order long)
  | inl short ↦ subst (λ found. IsFirstSecond (Busy s from until []) found) (sym (by-end s from until short)) (found-never s from until order short)
]
first-second s from until (x ∷ later) order rise = elim (cases_lt until (from + SUBTICKS_PER_SECOND)) [
  | inr long ↦ subst (λ found. IsFirstSecond (Busy s from until (x ∷ later)) found) (sym (by-second s from until (x ∷ later) long)) (found-now s from until (x ∷ later) order long)
  | inl short ↦ elim (cases_lt until x) [
    | inl anew ↦ subst (λ found. IsFirstSecond (Busy s from until (x ∷ later)) found) (sym (by-anew s from until x later short anew))
        (first-moves (Busy s x (x + s) later) (Busy s from until (x ∷ later)) (busy_by s x (x + s) later) (anew-to s from until x later anew)
        (anew-back s from until x later anew rise.1 order short)
        (first-second s x (x + s) later (omega arith) (rise-rest x later rise.1)))
    | inr on ↦ subst (λ found. IsFirstSecond (Busy s from until (x ∷ later)) found) (sym (by-on s from until x later short on))
        (first-moves (Busy s from (until + s) later) (Busy s from until (x ∷ later)) (busy_by s from (until + s) later) (on-to s from until x later on order)
        (λ at second. (second.0, second.1, λ t low high. on-back s from until x later on order t (second.2 t low high)))
        (first-second s from (until + s) later (omega (arith, order)) (rise-rest x later rise.1)))
  ]
]
