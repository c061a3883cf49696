-- The laws of one server: bytes that come at given instants, and leave one after the other, each after so many subticks.
use Rattle.std.proofs.Common.{◌≡◌, ℕ, zero, suc, ◌+◌, ◌*◌, ◌<◌, ◌≤◌, List, [], ◌∷◌, ◌++◌, length, drop, get_or, max, refl, ap, arith, inl, inr}
use Rattle.std.proofs.lemmas.Bool.{cases_lt}
use Rattle.tstd_model.specs.Instants.{spaced, came, departures}
use Rattle.tstd_model.specs.Private.Server.{last_departure, latest_work, Spaced, EachWithin, UnderLine, UnderEither, EachAtMost}
use Rattle.tstd_model.proofs.Counts.{came-yes, came-no, came_none-spaced, came_none-far, came-within}

-- ---- one list behind another
pub departures-append : (s l : ℕ) (xs ys : List ℕ) → departures s l (xs ++ ys) ≡ departures s l xs ++ departures s (last_departure s l xs) ys
unfolding departures last_departure
departures-append s l [] ys = refl
departures-append s l (x ∷ xs) ys = ap (λ later. (max x l + s) ∷ later) (departures-append s (max x l + s) xs ys)

pub last_departure-append : (s l : ℕ) (xs ys : List ℕ) → last_departure s l (xs ++ ys) ≡ last_departure s (last_departure s l xs) ys
unfolding last_departure
last_departure-append s l [] ys = refl
last_departure-append s l (x ∷ xs) ys = last_departure-append s (max x l + s) xs ys

pub length-departures : (s l : ℕ) (xs : List ℕ) → length (departures s l xs) ≡ length xs
unfolding departures
length-departures s l [] = refl
length-departures s l (x ∷ xs) = ap suc (length-departures s (max x l + s) xs)

-- ---- the closed form
closed_step : (x l s n top : ℕ) → max ((max x l + s) + s * n) top ≡ max (l + s * suc n) (max (x + s * suc n) top)
closed_step x l s n top = omega arith

pub last_departure-is : (s l : ℕ) (xs : List ℕ) → last_departure s l xs ≡ max (l + s * length xs) (latest_work s xs)
unfolding last_departure latest_work
last_departure-is s l [] = omega arith
last_departure-is s l (x ∷ xs) = rw (last_departure-is s (max x l + s) xs) (closed_step x l s (length xs) (latest_work s xs))

-- where all come by some instant, the server is free that much work later
pub last_departure-most : (s l most : ℕ) (xs : List ℕ) → l ≤ most → EachAtMost most xs → last_departure s l xs ≤ most + s * length xs
unfolding last_departure
last_departure-most s l most [] under each = omega arith
last_departure-most s l most (x ∷ xs) under each =
    omega (arith, last_departure-most s (max x l + s) (most + s) xs (omega arith) (EachAtMost-more most (most + s) xs (omega arith) each.1))
  where
    EachAtMost-more : (m n : ℕ) (xs : List ℕ) → m ≤ n → EachAtMost m xs → EachAtMost n xs
    EachAtMost-more m n [] le each = tt
    EachAtMost-more m n (x ∷ xs) le each = (omega (arith, each.0), EachAtMost-more m n xs le each.1)

-- ---- departures rise
pub departures-spaced : (s l : ℕ) (xs : List ℕ) → Spaced s l (departures s l xs)
unfolding departures
departures-spaced s l [] = tt
departures-spaced s l (x ∷ xs) = (omega arith, departures-spaced s (max x l + s) xs)

pub last_departure-rises : (s l : ℕ) (xs : List ℕ) → l + s * length xs ≤ last_departure s l xs
last_departure-rises s l xs = omega (arith, last_departure-is s l xs)

-- ---- later arrivals, later departures
pub departures-within : (s delay l l' : ℕ) (xs ys : List ℕ) → l ≤ l' + delay → EachWithin delay xs ys → EachWithin delay (departures s l xs) (departures s l' ys)
unfolding departures
departures-within s delay l l' [] [] le each = tt
departures-within s delay l l' [] (y ∷ ys) le each = each
departures-within s delay l l' (x ∷ xs) [] le each = each
departures-within s delay l l' (x ∷ xs) (y ∷ ys) le each =
    let first : max x l + s ≤ (max y l' + s) + delay = omega (arith, each.0) in
    (first, departures-within s delay (max x l + s) (max y l' + s) xs ys first each.1)

-- ---- arrivals under a line
pub departures-under_line : (s l most : ℕ) (xs : List ℕ) → l ≤ most → UnderLine most s xs → UnderLine (most + s) s (departures s l xs)
unfolding departures
departures-under_line s l most [] under line = tt
departures-under_line s l most (x ∷ xs) under line =
    let first : max x l + s ≤ most + s = omega (arith, line.0) in
    (first, departures-under_line s (max x l + s) (most + s) xs first line.1)

-- each byte leaves at most so much later xs it and those before it take, counted from when it comes or the server is free
pub Spaced-from : (low : ℕ) (xs : List ℕ) (k : ℕ) → Spaced 0 low xs → k < length xs → low ≤ get_or xs k 0
Spaced-from low [] k rise within = absurd (omega arith)
Spaced-from low (x ∷ xs) zero rise within = omega (arith, rise.0)
Spaced-from low (x ∷ xs) (suc k) rise within = omega (arith, rise.0, Spaced-from x xs k rise.1 (omega arith))

pub departures-batch : (s l : ℕ) (xs : List ℕ) (from j : ℕ) → Spaced 0 from xs → j < length xs → get_or (departures s l xs) j 0 ≤ max l (get_or xs j 0) + suc j * s
unfolding departures
departures-batch s l [] from j rise within = absurd (omega arith)
departures-batch s l (x ∷ xs) from zero rise within = omega arith
departures-batch s l (x ∷ xs) from (suc j) rise within =
    omega (arith, departures-batch s (max x l + s) xs x j rise.1 (omega arith), Spaced-from x xs j rise.1 (omega arith))

-- ---- arrivals at equal steps
-- where the steps are at least the server's: under the line of a server that is busy, or so much behind the arrivals
pub departures-steps : (s l most first step count line other : ℕ) → line ≡ most + s → other ≡ first + s → s ≤ step → l ≤ max most first
    → UnderEither line s other step (departures s l (spaced first step count))
unfolding departures spaced
departures-steps s l most first step zero line other line_is other_is slow under = tt
departures-steps s l most first step (suc count) line other line_is other_is slow under = (
  omega arith,
  departures-steps s (max first l + s) (most + s) (first + step) step count (line + s) (other + step) (omega arith) (omega arith) slow (omega arith),
)

-- where they are at most the server's: under the line
pub spaced-under_line : (most step first s count : ℕ) → first ≤ most → step ≤ s → UnderLine most s (spaced first step count)
unfolding spaced
spaced-under_line most step first s zero under fast = tt
spaced-under_line most step first s (suc count) under fast = (under, spaced-under_line (most + s) step (first + step) s count (omega arith) fast)

-- ---- dropping the first bytes makes none later
pub EachWithin-same : (xs : List ℕ) → EachWithin 0 xs xs
EachWithin-same [] = tt
EachWithin-same (x ∷ xs) = (omega arith, EachWithin-same xs)

pub departures-drop : (s l l' h : ℕ) (comes : List ℕ) → l' ≤ l → EachWithin 0 (departures s l' (drop h comes)) (drop h (departures s l comes))
unfolding departures
departures-drop s l l' zero comes le = departures-within s 0 l' l comes comes (omega arith) (EachWithin-same comes)
departures-drop s l l' (suc h) [] le = tt
departures-drop s l l' (suc h) (x ∷ comes) le = departures-drop s (max x l + s) l' h comes (omega arith)

pub last_departure-drop : (s l l' h : ℕ) (comes : List ℕ) → l' ≤ l → last_departure s l' (drop h comes) ≤ last_departure s l comes
unfolding last_departure
last_departure-drop s l l' zero [] le = le
last_departure-drop s l l' zero (x ∷ comes) le = last_departure-drop s (max x l + s) (max x l' + s) zero comes (omega arith)
last_departure-drop s l l' (suc h) [] le = le
last_departure-drop s l l' (suc h) (x ∷ comes) le = last_departure-drop s (max x l + s) l' h comes (omega arith)

-- ---- counts in a window
-- of instants with a step between them, at most b lie in a window of b steps behind x
pub came-window : (step before x b top : ℕ) (instants : List ℕ) → top ≡ x + b * step → Spaced step before instants → came top instants ≤ b + came x instants
came-window step before x b top [] top_is rise = omega arith
came-window step before x zero top (instant ∷ later) top_is rise =
    let same : top ≡ x = omega arith in
    omega (arith, ap (λ at. came at (instant ∷ later)) same)
came-window step before x (suc b) top (instant ∷ later) top_is rise = elim (cases_lt x instant) [
  | inr passed ↦
      omega (arith, came-yes x instant later passed, came-yes top instant later (omega arith), came-window step instant x (suc b) top later top_is rise.1)
  | inl after ↦ elim (cases_lt top instant) [
    | inl above ↦ omega (arith, came-no top instant later above, came_none-spaced step top instant later above rise.1)
    | inr inside ↦
        omega (
          arith,
          came-yes top instant later inside,
          came-no x instant later after,
          came-window step instant (x + step) b top later (omega arith) rise.1,
          came_none-far step (x + step) instant later (omega arith) rise.1,
        )
  ]
]

-- a buffer from which each byte leaves at most b steps behind its coming holds at most b bytes
pub came-occupied : (step before b delay x : ℕ) (ins outs : List ℕ) → delay ≡ b * step → EachWithin delay outs ins → Spaced step before outs → came x ins ≤ b + came x outs
came-occupied step before b delay x ins outs delay_is within rise =
    omega (arith, came-within delay x ins outs within, came-window step before x b (x + delay) outs (omega arith) rise)
