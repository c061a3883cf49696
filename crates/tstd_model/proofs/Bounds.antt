-- How late a decoder's instants are at most.
use Rattle.std.proofs.Common.{◌≡◌, ℕ, zero, suc, ◌+◌, ◌*◌, ◌<◌, ◌≤◌, List, [], ◌∷◌, ◌++◌, length, map, replicate, max, ap, arith, inl, inr, Bool, length-append, All}
use Rattle.std.proofs.lemmas.Bool.{cases_Bool, cond-true, cond-false}
use Rattle.std.proofs.lemmas.List.Elements.{All-head, All-tail}
use Rattle.std.proofs.lemmas.Nat.{mul-le}
use Rattle.stream_constants.specs.declared.clock.TheConstants.{SUBTICKS_PER_TICK}
use Rattle.stream_constants.specs.declared.packets.TheConstants.{PACKET_BYTES}
use Rattle.tstd_model.specs.Instants.{spaced, departures, departures_into}
use Rattle.tstd_model.specs.PacketBytes.{Arrival, PacketPart, byte_subticks, arrives_in, arrives, kept}
use Rattle.tstd_model.specs.Decoder.{Removal, removed}
use Rattle.tstd_model.specs.Private.Server.{EachAtMost}
use Rattle.tstd_model.proofs.RisingLaws.{Rising, length-spaced}

pub EachAtMost-more : (m n : ℕ) (xs : List ℕ) → m ≤ n → EachAtMost m xs → EachAtMost n xs
EachAtMost-more m n [] le each = tt
EachAtMost-more m n (x ∷ xs) le each = (omega (arith, each.0), EachAtMost-more m n xs le each.1)

EachAtMost-append : (m : ℕ) (xs ys : List ℕ) → EachAtMost m xs → EachAtMost m ys → EachAtMost m (xs ++ ys)
EachAtMost-append m [] ys each each' = each'
EachAtMost-append m (x ∷ xs) ys each each' = (each.0, EachAtMost-append m xs ys each.1 each')

EachAtMost-replicate : (m n x : ℕ) → x ≤ m → EachAtMost m (replicate n x)
EachAtMost-replicate m zero x le = tt
EachAtMost-replicate m (suc n) x le = (le, EachAtMost-replicate m n x le)

-- ---- arrivals
spaced-most : (first step count most : ℕ) → first + step * count ≤ most → EachAtMost most (spaced first step count)
unfolding spaced
spaced-most first step zero most le = tt
spaced-most first step (suc count) most le = (omega arith, spaced-most (first + step) step count most (omega arith))

-- packets in slots below a number
pub arrives-most : (slot top : ℕ) (arrivals : List Arrival) → All (λ a. a.slot_no < top) arrivals → EachAtMost (PACKET_BYTES * top * byte_subticks slot) (arrives slot arrivals)
unfolding arrives arrives_in
arrives-most slot top [] below = tt
arrives-most slot top (arrival ∷ arrivals) below =
    let step = byte_subticks slot in
    let first = PACKET_BYTES * arrival.slot_no * step in
    let lt : arrival.slot_no < top = All-head (λ (a : Arrival). a.slot_no < top) arrival arrivals below in
    let next : first + step * PACKET_BYTES ≡ PACKET_BYTES * (arrival.slot_no + 1) * step = omega arith in
    let most : PACKET_BYTES * (arrival.slot_no + 1) * step ≤ PACKET_BYTES * top * step = mul-le (PACKET_BYTES * (arrival.slot_no + 1)) step (PACKET_BYTES * top) step (omega arith) (omega arith) in
    EachAtMost-append (PACKET_BYTES * top * step) (spaced first step PACKET_BYTES) (arrives slot arrivals)
    (spaced-most first step PACKET_BYTES (PACKET_BYTES * top * step) (omega (arith, next, most)))
    (arrives-most slot top arrivals (All-tail (λ (a : Arrival). a.slot_no < top) arrival arrivals below))

pub length-arrives : (slot : ℕ) (arrivals : List Arrival) → length (arrives slot arrivals) ≡ PACKET_BYTES * length arrivals
unfolding arrives arrives_in
length-arrives slot [] = omega arith
length-arrives slot (arrival ∷ arrivals) =
    let first = PACKET_BYTES * arrival.slot_no * byte_subticks slot in
    omega (
      arith,
      length-append (spaced first (byte_subticks slot) PACKET_BYTES) (arrives slot arrivals),
      length-spaced first (byte_subticks slot) PACKET_BYTES,
      length-arrives slot arrivals,
    )

-- there are no more packets than slots
pub length-rising : (least top : ℕ) (arrivals : List Arrival) → least ≤ top → Rising least (map (λ a. a.slot_no) arrivals) → All (λ a. a.slot_no < top) arrivals → least + length arrivals ≤ top
length-rising least top [] le rise below = omega arith
length-rising least top (arrival ∷ arrivals) le rise below =
    let lt : arrival.slot_no < top = All-head (λ (a : Arrival). a.slot_no < top) arrival arrivals below in
    omega (arith, rise.0, length-rising (arrival.slot_no + 1) top arrivals (omega arith) rise.1 (All-tail (λ (a : Arrival). a.slot_no < top) arrival arrivals below))

pub length-kept : (test : PacketPart → Bool) (parts : List PacketPart) (instants : List ℕ) → length (kept test parts instants) ≤ length instants
unfolding kept
length-kept test [] instants = omega arith
length-kept test (part ∷ parts) [] = omega arith
length-kept test (part ∷ parts) (instant ∷ instants) =
    let later = kept test parts instants in
    elim (cases_Bool (test part)) [
      | inl passes ↦ omega (arith, ap (λ (l : List ℕ). length l) (cond-true (test part) (instant ∷ later) later passes), length-kept test parts instants)
      | inr fails ↦ omega (arith, ap (λ (l : List ℕ). length l) (cond-false (test part) (instant ∷ later) later fails), length-kept test parts instants)
    ]

pub kept-most : (most : ℕ) (test : PacketPart → Bool) (parts : List PacketPart) (instants : List ℕ) → EachAtMost most instants → EachAtMost most (kept test parts instants)
unfolding kept
kept-most most test [] instants each = tt
kept-most most test (part ∷ parts) [] each = tt
kept-most most test (part ∷ parts) (instant ∷ instants) each =
    let later = kept test parts instants in
    elim (cases_Bool (test part)) [
      | inl passes ↦ rw (cond-true (test part) (instant ∷ later) later passes) ((each.0, kept-most most test parts instants each.1))
      | inr fails ↦ rw (cond-false (test part) (instant ∷ later) later fails) (kept-most most test parts instants each.1)
    ]

-- ---- departures
pub departures-most : (s l most top : ℕ) (xs : List ℕ) → l ≤ most → EachAtMost most xs → most + s * length xs ≤ top → EachAtMost top (departures s l xs)
unfolding departures
departures-most s l most top [] under each le = tt
departures-most s l most top (x ∷ xs) under each le =
    let first : max x l + s ≤ most + s = omega (arith, each.0) in (
      omega (arith, first),
      departures-most s (max x l + s) (most + s) top xs first (EachAtMost-more most (most + s) xs (omega arith) each.1) (omega arith),
    )

pub departures_into-most : (s l most top : ℕ) (rooms xs : List ℕ) → l ≤ most → EachAtMost most rooms → EachAtMost most xs → most + s * length xs ≤ top
    → EachAtMost top (departures_into rooms s l xs)
unfolding departures_into
departures_into-most s l most top rooms [] under free each le = tt
departures_into-most s l most top [] (x ∷ xs) under free each le = tt
departures_into-most s l most top (room ∷ rooms) (x ∷ xs) under free each le =
    let first : max (max x l + s) room ≤ most + s = omega (arith, each.0, free.0) in (
      omega (arith, first),
      departures_into-most s (max (max x l + s) room) (most + s) top rooms xs first
          (EachAtMost-more most (most + s) rooms (omega arith) free.1)
          (EachAtMost-more most (most + s) xs (omega arith) each.1)
          (omega arith),
    )

-- ---- removals
pub removed-most : (most : ℕ) (removals : List Removal) → All (λ r. r.due ≤ most) removals → EachAtMost (SUBTICKS_PER_TICK * most) (removed removals)
unfolding removed
removed-most most [] due = tt
removed-most most (removal ∷ removals) due =
    EachAtMost-append (SUBTICKS_PER_TICK * most) (replicate removal.bytes (SUBTICKS_PER_TICK * removal.due)) (removed removals)
    (EachAtMost-replicate (SUBTICKS_PER_TICK * most) removal.bytes (SUBTICKS_PER_TICK * removal.due) (omega (arith, All-head (λ (r : Removal). r.due ≤ most) removal removals due)))
    (removed-most most removals (All-tail (λ (r : Removal). r.due ≤ most) removal removals due))

pub rooms-most : (most count : ℕ) (instants : List ℕ) → EachAtMost most instants → EachAtMost most (replicate count 0 ++ instants)
rooms-most most count instants each = EachAtMost-append most (replicate count 0) instants (EachAtMost-replicate most count 0 (omega arith)) each
