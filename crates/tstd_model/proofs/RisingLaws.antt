-- The instants of a decoder don't fall from byte to byte.
use Rattle.std.proofs.Common.{◌≡◌, ℕ, zero, suc, ◌+◌, ◌*◌, ◌<◌, ◌≤◌, List, [], ◌∷◌, ◌++◌, length, map, replicate, get_or, refl, sym, ap, arith, inl, inr, Bool, max, subst}
use Rattle.std.proofs.lemmas.Bool.{cases_Bool, cases_lt, cond-true, cond-false}
use Rattle.std.specs.List.Sorted.{IsStrictlyIncreasing, IsNonDecreasing}
use Rattle.std.proofs.lemmas.Nat.{mul-le}
use Rattle.stream_constants.specs.declared.clock.TheConstants.{SUBTICKS_PER_TICK}
use Rattle.stream_constants.specs.declared.packets.TheConstants.{PACKET_BYTES}
use Rattle.tstd_model.specs.Instants.{spaced, came, departures_into}
use Rattle.tstd_model.specs.PacketBytes.{Arrival, PacketPart, Overhead, PesHeader, Data, byte_subticks, arrives_in, arrives, kept, with_headers}
use Rattle.tstd_model.specs.Decoder.{Removal, removed}
use Rattle.tstd_model.specs.Private.Server.{Spaced}
use Rattle.tstd_model.proofs.Counts.{came-yes, came-no, came-more}

-- ---- from the words of the contract
-- each number is greater than the one before, and the first is at least this one
abbrev pub Rising : (least : ℕ) → List ℕ → Type 0
Rising least [] = Unit {0}
Rising least (x ∷ xs) = (least ≤ x) × Rising (x + 1) xs

strictly-suc : (xs : List ℕ) → IsStrictlyIncreasing xs → (k : ℕ) → suc k < length xs → get_or xs k 0 < get_or xs (suc k) 0
strictly-suc xs rise k within =
    let e : k + 1 ≡ suc k = omega arith in
    subst (λ n. get_or xs k 0 < get_or xs n 0) e (rise k (omega arith))

strictly-rest : (x : ℕ) (xs : List ℕ) → IsStrictlyIncreasing (x ∷ xs) → IsStrictlyIncreasing xs
strictly-rest x xs rise = λ k within.
    let e : suc k ≡ k + 1 = omega arith in
    subst (λ n. get_or xs k 0 < get_or xs n 0) e (strictly-suc (x ∷ xs) rise (suc k) (omega arith))

Rising-rest : (x : ℕ) (xs : List ℕ) → IsStrictlyIncreasing (x ∷ xs) → Rising (x + 1) xs
Rising-rest x [] rise = tt
Rising-rest x (y ∷ xs) rise = (omega (arith, strictly-suc (x ∷ y ∷ xs) rise 0 (omega arith)), Rising-rest y xs (strictly-rest x (y ∷ xs) rise))

pub Rising-from : (xs : List ℕ) → IsStrictlyIncreasing xs → Rising 0 xs
Rising-from [] rise = tt
Rising-from (x ∷ xs) rise = (omega arith, Rising-rest x xs rise)

Spaced-rest : (x : ℕ) (xs : List ℕ) → IsNonDecreasing (x ∷ xs) → Spaced 0 x xs
Spaced-rest x [] rise = tt
Spaced-rest x (y ∷ xs) rise = (
  omega (arith, rise 0 1 0 (omega arith) (omega arith)),
  Spaced-rest y xs (λ i j d le within. rise (suc i) (suc j) d (omega arith) (omega arith)),
)

pub Spaced-from_order : (xs : List ℕ) → IsNonDecreasing xs → Spaced 0 0 xs
Spaced-from_order [] rise = tt
Spaced-from_order (x ∷ xs) rise = (omega arith, Spaced-rest x xs rise)

-- ---- bytes come one after the other
pub Spaced-append : (step before : ℕ) (xs ys : List ℕ) (last : ℕ) → Spaced step before xs → before ≤ last → ((k d : ℕ) → k < length xs → get_or xs k d ≤ last) → Spaced step last ys
    → Spaced step before (xs ++ ys)
Spaced-append step before [] ys last rise le each rise' = Spaced-lower step before last ys le rise'
  where
    Spaced-lower : (step low high : ℕ) (ys : List ℕ) → low ≤ high → Spaced step high ys → Spaced step low ys
    Spaced-lower step low high [] le rise = tt
    Spaced-lower step low high (y ∷ ys) le rise = (omega (arith, rise.0), rise.1)
Spaced-append step before (x ∷ xs) ys last rise le each rise' =
    (rise.0, Spaced-append step x xs ys last rise.1 (each 0 0 (omega arith)) (λ k d within. each (suc k) d (omega arith)) rise')

spaced-rises : (first step count before : ℕ) → before ≤ first → Spaced 0 before (spaced first step count)
unfolding spaced
spaced-rises first step zero before le = tt
spaced-rises first step (suc count) before le = (omega arith, spaced-rises (first + step) step count first (omega arith))

spaced-ends : (first step count k d : ℕ) → k < count → get_or (spaced first step count) k d ≤ first + step * count
unfolding spaced
spaced-ends first step zero k d within = absurd (omega arith)
spaced-ends first step (suc count) zero d within = omega arith
spaced-ends first step (suc count) (suc k) d within = omega (arith, spaced-ends (first + step) step count k d (omega arith))

pub length-spaced : (first step count : ℕ) → length (spaced first step count) ≡ count
unfolding spaced
length-spaced first step zero = refl
length-spaced first step (suc count) = ap suc (length-spaced (first + step) step count)

pub arrives-rise : (slot least : ℕ) (arrivals : List Arrival) → Rising least (map (λ a. a.slot_no) arrivals) → Spaced 0 (PACKET_BYTES * least * byte_subticks slot) (arrives slot arrivals)
unfolding arrives arrives_in
arrives-rise slot least [] rise = tt
arrives-rise slot least (arrival ∷ arrivals) rise =
    let first = PACKET_BYTES * arrival.slot_no * byte_subticks slot in
    let step = byte_subticks slot in
    let from : PACKET_BYTES * least * step ≤ first = mul-le (PACKET_BYTES * least) step (PACKET_BYTES * arrival.slot_no) step (omega (arith, rise.0)) (omega arith) in
    let next : first + step * PACKET_BYTES ≡ PACKET_BYTES * (arrival.slot_no + 1) * step = omega arith in
    Spaced-append 0 (PACKET_BYTES * least * step) (spaced first step PACKET_BYTES) (arrives slot arrivals) (first + step * PACKET_BYTES)
    (spaced-rises first step PACKET_BYTES (PACKET_BYTES * least * step) from)
    (omega arith)
    (λ k d within. spaced-ends first step PACKET_BYTES k d (omega (arith, length-spaced first step PACKET_BYTES)))
    (subst (λ n. Spaced 0 n (arrives slot arrivals)) (sym next) (arrives-rise slot (arrival.slot_no + 1) arrivals rise.1))

-- ---- of instants that don't fall, those that are kept don't fall
pub kept-rises : (test : PacketPart → Bool) (before : ℕ) (parts : List PacketPart) (instants : List ℕ) → Spaced 0 before instants → Spaced 0 before (kept test parts instants)
unfolding kept
kept-rises test before [] instants rise = tt
kept-rises test before (part ∷ parts) [] rise = tt
kept-rises test before (part ∷ parts) (instant ∷ instants) rise = elim (cases_Bool (test part)) [
  | inl passes ↦
      rw (cond-true (test part) (instant ∷ kept test parts instants) (kept test parts instants) passes)
      ((rise.0, kept-rises test instant parts instants rise.1))
  | inr fails ↦
      rw (cond-false (test part) (instant ∷ kept test parts instants) (kept test parts instants) fails)
      (kept-rises test before parts instants (lower before instant instants (omega (arith, rise.0)) rise.1))
]
  where
    lower : (low high : ℕ) (ys : List ℕ) → low ≤ high → Spaced 0 high ys → Spaced 0 low ys
    lower low high [] le rise = tt
    lower low high (y ∷ ys) le rise = (omega (arith, rise.0), rise.1)

pub departures_into-rises : (s l : ℕ) (rooms comes : List ℕ) → Spaced s l (departures_into rooms s l comes)
unfolding departures_into
departures_into-rises s l rooms [] = tt
departures_into-rises s l [] (come ∷ comes) = tt
departures_into-rises s l (room ∷ rooms) (come ∷ comes) = (omega arith, departures_into-rises s (max (max come l + s) room) rooms comes)

pub with_headers-rises : (before : ℕ) (parts : List PacketPart) (moves : List ℕ) → Spaced 0 before moves → Spaced 0 before (with_headers parts moves)
unfolding with_headers
with_headers-rises before [] moves rise = tt
with_headers-rises before (Overhead ∷ parts) moves rise = with_headers-rises before parts moves rise
with_headers-rises before (PesHeader ∷ parts) [] rise = tt
with_headers-rises before (PesHeader ∷ parts) (move ∷ later) rise = (rise.0, with_headers-rises move parts (move ∷ later) (omega arith, rise.1))
with_headers-rises before (Data ∷ parts) [] rise = tt
with_headers-rises before (Data ∷ parts) (move ∷ later) rise = (rise.0, with_headers-rises move parts later rise.1)

replicate-rises : (at count : ℕ) (later : List ℕ) (before : ℕ) → before ≤ at → Spaced 0 at later → Spaced 0 before (replicate count at ++ later)
replicate-rises at zero [] before le rise = tt
replicate-rises at zero (y ∷ later) before le rise = (omega (arith, rise.0), rise.1)
replicate-rises at (suc count) later before le rise = (omega arith, replicate-rises at count later at (omega arith) rise)

pub removed-rises : (before : ℕ) (removals : List Removal) → Spaced 0 before (map (λ r. r.due) removals) → Spaced 0 (SUBTICKS_PER_TICK * before) (removed removals)
unfolding removed
removed-rises before [] rise = tt
removed-rises before (removal ∷ removals) rise =
    replicate-rises (SUBTICKS_PER_TICK * removal.due) removal.bytes (removed removals) (SUBTICKS_PER_TICK * before) (omega (arith, rise.0)) (removed-rises removal.due removals rise.1)

-- ---- what moves into EB has room there
came-rooms : (x s l : ℕ) (rooms comes : List ℕ) → came x (departures_into rooms s l comes) ≤ came x rooms
unfolding departures_into
came-rooms x s l rooms [] = omega arith
came-rooms x s l [] (come ∷ comes) = omega arith
came-rooms x s l (room ∷ rooms) (come ∷ comes) =
    let move = max (max come l + s) room in
    let later = departures_into rooms s move comes in
    elim (cases_lt x move) [
      | inl after ↦ omega (arith, came-no x move later after, came-more x room rooms, came-rooms x s move rooms comes)
      | inr has ↦ omega (arith, came-yes x move later has, came-yes x room rooms (omega arith), came-rooms x s move rooms comes)
    ]

came-free : (x count : ℕ) (later : List ℕ) → came x (replicate count 0 ++ later) ≡ count + came x later
came-free x zero later = omega arith
came-free x (suc count) later = omega (arith, came-yes x 0 (replicate count 0 ++ later) (omega arith), came-free x count later)

pub came-moves : (x size s l : ℕ) (taken comes : List ℕ) → came x (departures_into (replicate size 0 ++ taken) s l comes) ≤ size + came x taken
came-moves x size s l taken comes = omega (arith, came-rooms x s l (replicate size 0 ++ taken) comes, came-free x size taken)
