-- Two lists of instants, entry by entry: one more packet, and what holds at each entry tells of counts.
use Rattle.std.proofs.Common.{◌≡◌, ℕ, zero, suc, ◌+◌, ◌*◌, ◌<◌, ◌≤◌, List, [], ◌∷◌, ◌++◌, length, max, replicate, map, take, sum_by, slice_get, Some, None, refl, subst, ap, inl, inr, arith}
use Rattle.std.specs.List.{AllZip}
use Rattle.std.proofs.lemmas.Bool.{cases_lt}
use Rattle.std.proofs.lemmas.Option.{same_Some}
use Rattle.std.proofs.lemmas.List.Sums.{sum_by-cons}
use Rattle.stream_constants.specs.declared.clock.TheConstants.{SUBTICKS_PER_TICK}
use Rattle.tstd_model.specs.declared.decoder_input.Removal.{Removal}
use Rattle.tstd_model.specs.Instants.{departures, came, came_before}
use Rattle.tstd_model.specs.Decoder.{removed}
use Rattle.tstd_model.specs.Private.Server.{last_departure, Spaced, EachAtMost}
use Rattle.tstd_model.proofs.Counts.{came-yes, came-no, came_before-yes, came_before-more}
use Rattle.tstd_model.proofs.Server.{last_departure-rises}
use Rattle.tstd_bridge.proofs.KeptBytes.{came-append, came-replicate}

pub AllZip-append : (R : ℕ → ℕ → Type 0) (xs ys more others : List ℕ) → AllZip R xs ys → AllZip R more others → AllZip R (xs ++ more) (ys ++ others)
AllZip-append R [] [] more others first second = second
AllZip-append R [] (y ∷ ys) more others first second = absurd first
AllZip-append R (x ∷ xs) [] more others first second = absurd first
AllZip-append R (x ∷ xs) (y ∷ ys) more others first second = (first.0, AllZip-append R xs ys more others first.1 second)

-- instants that are all before another
pub zip_before : (top at count : ℕ) (xs : List ℕ) → EachAtMost top xs → top < at → length xs ≡ count → AllZip (λ x y. x < y) xs (replicate count at)
zip_before top at zero [] each before as_many = tt
zip_before top at (suc count) [] each before as_many = absurd (omega (arith, as_many))
zip_before top at zero (x ∷ xs) each before as_many = absurd (omega (arith, as_many))
zip_before top at (suc count) (x ∷ xs) each before as_many = (omega (arith, each.0), zip_before top at count xs each.1 before (omega (arith, as_many)))

-- instants from which on another is not far
pub zip_within : (start limit at count : ℕ) (xs : List ℕ) → Spaced 0 start xs → at ≤ start + limit → length xs ≡ count → AllZip (λ x y. y ≤ x + limit) xs (replicate count at)
zip_within start limit at zero [] rise within as_many = tt
zip_within start limit at (suc count) [] rise within as_many = absurd (omega (arith, as_many))
zip_within start limit at zero (x ∷ xs) rise within as_many = absurd (omega (arith, as_many))
zip_within start limit at (suc count) (x ∷ xs) rise within as_many =
    (omega (arith, rise.0), zip_within x limit at count xs rise.1 (omega (arith, rise.0)) (omega (arith, as_many)))

pub zip_before-then : (xs ys zs : List ℕ) → AllZip (λ x y. x < y) xs ys → AllZip (λ y z. y ≤ z) ys zs → AllZip (λ x z. x < z) xs zs
zip_before-then [] [] [] first second = tt
zip_before-then [] [] (z ∷ zs) first second = absurd second
zip_before-then [] (y ∷ ys) zs first second = absurd first
zip_before-then (x ∷ xs) [] zs first second = absurd first
zip_before-then (x ∷ xs) (y ∷ ys) [] first second = absurd second
zip_before-then (x ∷ xs) (y ∷ ys) (z ∷ zs) first second = (omega (arith, first.0, second.0), zip_before-then xs ys zs first.1 second.1)

pub zip_within-then : (limit : ℕ) (xs ys zs : List ℕ) → AllZip (λ x y. y ≤ x + limit) xs ys → AllZip (λ z y. z ≤ y) zs ys → AllZip (λ x z. z ≤ x + limit) xs zs
zip_within-then limit [] [] [] first second = tt
zip_within-then limit [] [] (z ∷ zs) first second = absurd second
zip_within-then limit [] (y ∷ ys) zs first second = absurd first
zip_within-then limit (x ∷ xs) [] zs first second = absurd first
zip_within-then limit (x ∷ xs) (y ∷ ys) [] first second = absurd second
zip_within-then limit (x ∷ xs) (y ∷ ys) (z ∷ zs) first second = (omega (arith, first.0, second.0), zip_within-then limit xs ys zs first.1 second.1)

-- where each is before its other, as many are before an instant as others have come
pub came-before : (x : ℕ) (xs ys : List ℕ) → AllZip (λ a b. a < b) xs ys → came x ys ≤ came_before x xs
came-before x [] [] each = omega arith
came-before x [] (b ∷ ys) each = absurd each
came-before x (a ∷ xs) [] each = absurd each
came-before x (a ∷ xs) (b ∷ ys) each = elim (cases_lt x b) [
  | inl after ↦ omega (arith, came-no x b ys after, came-before x xs ys each.1, came_before-more x a xs)
  | inr has ↦ omega (arith, came-yes x b ys has, came_before-yes x a xs (omega (arith, each.0)), came-before x xs ys each.1)
]

-- the other of an entry
pub zip-get : (R : ℕ → ℕ → Type 0) (xs ys : List ℕ) (k x : ℕ) → AllZip R xs ys → slice_get xs k ≡ Some x → (y : ℕ) × (slice_get ys k ≡ Some y) × R x y
zip-get R [] ys k x each there = absurd (let e : None ≡ Some x = there in cc)
zip-get R (a ∷ xs) [] k x each there = absurd each
zip-get R (a ∷ xs) (b ∷ ys) zero x each there = let same : a ≡ x = same_Some a x there in (b, refl, subst (λ q. R q b) same each.0)
zip-get R (a ∷ xs) (b ∷ ys) (suc k) x each there = zip-get R xs ys k x each.1 there

-- each leaves by the time at which the server is free
pub departures-by : (s l : ℕ) (xs : List ℕ) → EachAtMost (last_departure s l xs) (departures s l xs)
unfolding departures last_departure
departures-by s l [] = tt
departures-by s l (x ∷ xs) = (omega (arith, last_departure-rises s (max x l + s) xs), departures-by s (max x l + s) xs)

-- ---- removals in order
due_from : (before n : ℕ) (removals : List Removal) (removal : Removal) → Spaced 0 before (map (λ r. r.due) removals) → slice_get removals n ≡ Some removal → before ≤ removal.due
due_from before n [] removal rise there = absurd (let e : None ≡ Some removal = there in cc)
due_from before zero (r ∷ removals) removal rise there = let same : r.due ≡ removal.due = ap (λ (q : Removal). q.due) (same_Some r removal there) in omega (arith, rise.0)
due_from before (suc n) (r ∷ removals) removal rise there = omega (arith, rise.0, due_from r.due n removals removal rise.1 there)

-- the bytes of the removals up to one of them are taken by its time
pub taken-by : (before n : ℕ) (removals : List Removal) (removal : Removal) → Spaced 0 before (map (λ r. r.due) removals) → slice_get removals n ≡ Some removal
    → sum_by (λ r. r.bytes) (take (suc n) removals) ≤ came (SUBTICKS_PER_TICK * removal.due) (removed removals)
unfolding removed
taken-by before n [] removal rise there = absurd (let e : None ≡ Some removal = there in cc)
taken-by before zero (r ∷ removals) removal rise there =
    let x = SUBTICKS_PER_TICK * removal.due in
    let own = replicate r.bytes (SUBTICKS_PER_TICK * r.due) in
    let same : r.due ≡ removal.due = ap (λ (q : Removal). q.due) (same_Some r removal there) in
    omega (arith, sum_by-cons (λ (q : Removal). q.bytes) r [], came-append x own (removed removals), came-replicate x (SUBTICKS_PER_TICK * r.due) r.bytes (omega arith))
taken-by before (suc n) (r ∷ removals) removal rise there =
    let x = SUBTICKS_PER_TICK * removal.due in
    let own = replicate r.bytes (SUBTICKS_PER_TICK * r.due) in
    let order : r.due ≤ removal.due = due_from r.due n removals removal rise.1 there in
    omega (
      arith,
      sum_by-cons (λ (q : Removal). q.bytes) r (take (suc n) removals),
      came-append x own (removed removals),
      came-replicate x (SUBTICKS_PER_TICK * r.due) r.bytes (omega arith),
      taken-by r.due n removals removal rise.1 there,
    )
