-- A packet whose bytes come at equal steps to a server that may be busy.
use Rattle.std.proofs.Common.{◌≡◌, ℕ, zero, suc, ◌+◌, ◌-◌, ◌*◌, ◌≤◌, List, [], ◌∷◌, ◌++◌, length, max, refl, ap, arith, inl, inr}
use Rattle.std.proofs.lemmas.Bool.{cases_lt}
use Rattle.std.proofs.lemmas.Nat.{mul-le}
use Rattle.tstd_model.specs.Instants.{spaced, departures}
use Rattle.tstd_model.specs.Private.Server.{last_departure, latest_work, EachWithin}
use Rattle.tstd_model.proofs.RisingLaws.{length-spaced}
use Rattle.tstd_model.proofs.Server.{last_departure-is}

-- the latest work is under a step that is at least the server's and the arrivals'
pub latest_work-spaced : (s step most first count : ℕ) → s ≤ most → step ≤ most → latest_work s (spaced first step count) ≤ first + most * count
unfolding latest_work spaced
latest_work-spaced s step most first zero fast slow = omega arith
latest_work-spaced s step most first (suc count) fast slow =
    let size : length (first ∷ spaced (first + step) step count) ≡ suc count = ap suc (length-spaced (first + step) step count) in
    let work : s * suc count ≤ most * suc count = mul-le s (suc count) most (suc count) fast (omega arith) in
    rw size (omega (arith, work, latest_work-spaced s step most (first + step) count fast slow))

-- after a packet the server is free by the end of its slot and what is left of the work
pub last_departure-packet : (s l first step count work : ℕ) → l ≤ first + work
    → last_departure s l (spaced first step count) ≤ (first + step * count) + ((work + s * count) - step * count)
last_departure-packet s l first step count work busy =
    let closed : last_departure s l (spaced first step count) ≡ max (l + s * count) (latest_work s (spaced first step count)) =
    rw (last_departure-is s l (spaced first step count), length-spaced first step count) refl in
    elim (cases_lt s step) [
      | inl slow ↦ omega (arith, closed, latest_work-spaced s step step first count (omega arith) (omega arith))
      | inr fast ↦ omega (arith, closed, latest_work-spaced s step s first count (omega arith) fast)
    ]

-- each byte of a packet leaves at most so much after it comes
pub departures-packet : (s l first step count work delay : ℕ) → l ≤ first + work → work + s * count ≤ delay
    → EachWithin delay (departures s l (spaced first step count)) (spaced first step count)
unfolding departures spaced
departures-packet s l first step zero work delay busy small = tt
departures-packet s l first step (suc count) work delay busy small = (
  omega arith,
  departures-packet s (max first l + s) (first + step) step count (work + s) delay (omega arith) (omega arith),
)

pub EachWithin-append : (delay : ℕ) (xs ys more others : List ℕ) → EachWithin delay xs ys → EachWithin delay more others → EachWithin delay (xs ++ more) (ys ++ others)
EachWithin-append delay [] [] more others first second = second
EachWithin-append delay [] (y ∷ ys) more others first second = absurd first
EachWithin-append delay (x ∷ xs) [] more others first second = absurd first
EachWithin-append delay (x ∷ xs) (y ∷ ys) more others first second = (first.0, EachWithin-append delay xs ys more others first.1 second)
