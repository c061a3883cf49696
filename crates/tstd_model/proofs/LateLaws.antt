-- Which removal finds less than it takes, found by walking over the instants at which bytes complete and are taken.
use Rattle.std.proofs.Common.{
  ◌≡◌,
  ℕ,
  zero,
  suc,
  ◌+◌,
  ◌*◌,
  ◌<◌,
  ◌≤◌,
  ltb,
  leb,
  cond,
  List,
  [],
  ◌∷◌,
  ◌++◌,
  take,
  replicate,
  map,
  refl,
  ◌∙◌,
  ap,
  arith,
  inl,
  inr,
  Option,
  Some,
  None,
  slice_get,
  sum_by,
  count_by,
  subst,
  add-one,
}
use Rattle.std.proofs.lemmas.Bool.{cases_lt, le-leb, lt-leb, lt-ltb, le-ltb, cond-true, cond-false}
use Rattle.std.proofs.lemmas.Option.{same_Some}
use Rattle.std.proofs.lemmas.List.Sums.{sum_by-cons, sum_by-append}
use Rattle.stream_constants.specs.declared.clock.TheConstants.{SUBTICKS_PER_TICK}
use Rattle.tstd_model.specs.Instants.{came_before}
use Rattle.tstd_model.specs.Decoder.{Removal}
use Rattle.tstd_model.specs.Private.Scans.{RemovedByte, first_late, taken_from}
use Rattle.tstd_model.specs.Private.Server.{Spaced}
use Rattle.tstd_model.proofs.Counts.{came_before-yes, came_before-no, came_before_none, came_before-more, came_before-one_more}

-- how many of the bytes are taken by the removals up to this number
abbrev taken_by : (number : ℕ) → List RemovedByte → ℕ
taken_by number bytes = count_by (λ byte. leb byte.removal number) bytes

taken_by-yes : (number : ℕ) (byte : RemovedByte) (bytes : List RemovedByte) → byte.removal ≤ number → taken_by number (byte ∷ bytes) ≡ suc (taken_by number bytes)
taken_by-yes number byte bytes has =
    let here : ◌≡◌ {A = ℕ} (cond (leb byte.removal number) 1 0) 1 = cond-true (leb byte.removal number) 1 0 (le-leb byte.removal number has) in
    omega (arith, here, sum_by-cons (λ b. cond (leb b.removal number) 1 0) byte bytes)

taken_by-no : (number : ℕ) (byte : RemovedByte) (bytes : List RemovedByte) → number < byte.removal → taken_by number (byte ∷ bytes) ≡ taken_by number bytes
taken_by-no number byte bytes has =
    let here : ◌≡◌ {A = ℕ} (cond (leb byte.removal number) 1 0) 0 = cond-false (leb byte.removal number) 1 0 (lt-leb byte.removal number has) in
    omega (arith, here, sum_by-cons (λ b. cond (leb b.removal number) 1 0) byte bytes)

-- the bytes stand in the order of their removals, the first of which has this number or a greater one
abbrev InOrder : (number : ℕ) → List RemovedByte → Type 0
InOrder number [] = Unit {0}
InOrder number (byte ∷ bytes) = (number ≤ byte.removal) × InOrder byte.removal bytes

-- the bytes of removals up to this number are taken by this instant
abbrev TakenUntil : (number at : ℕ) → List RemovedByte → Type 0
TakenUntil number at [] = Unit {0}
TakenUntil number at (byte ∷ bytes) = (byte.removal ≤ number → byte.at ≤ at) × TakenUntil number at bytes

taken_by_none : (number first : ℕ) (bytes : List RemovedByte) → number < first → InOrder first bytes → taken_by number bytes ≡ 0
taken_by_none number first [] less order = refl
taken_by_none number first (byte ∷ bytes) less order =
    taken_by-no number byte bytes (omega (arith, order.0)) ∙ taken_by_none number byte.removal bytes (omega (arith, order.0)) order.1

-- what a walk says of the instants at which bytes complete, and the bytes that are taken
abbrev IsFirstShort : (completes : List ℕ) → List RemovedByte → Option RemovedByte → Type 0
IsFirstShort completes bytes None = (number at : ℕ) → TakenUntil number at bytes → taken_by number bytes ≤ came_before at completes
IsFirstShort completes bytes (Some byte) =
    (came_before byte.at completes < taken_by byte.removal bytes)
    × ((number at : ℕ) → number < byte.removal → TakenUntil number at bytes → taken_by number bytes ≤ came_before at completes)

-- the byte found is of this removal or a later one
abbrev NotBefore : (number : ℕ) → Option RemovedByte → Type 0
NotBefore number None = Unit {0}
NotBefore number (Some byte) = number ≤ byte.removal

first_late-passes : (instant : ℕ) (byte : RemovedByte) (completes : List ℕ) (bytes : List RemovedByte) → instant < byte.at
    → first_late (instant ∷ completes) (byte ∷ bytes) ≡ first_late completes bytes
unfolding first_late
first_late-passes instant byte completes bytes lt = cond-true (ltb instant byte.at) (first_late completes bytes) (Some byte) (lt-ltb instant byte.at lt)

first_late-stops : (instant : ℕ) (byte : RemovedByte) (completes : List ℕ) (bytes : List RemovedByte) → byte.at ≤ instant
    → first_late (instant ∷ completes) (byte ∷ bytes) ≡ Some byte
unfolding first_late
first_late-stops instant byte completes bytes le = cond-false (ltb instant byte.at) (first_late completes bytes) (Some byte) (le-ltb instant byte.at le)

short-step : (number at instant : ℕ) (byte : RemovedByte) (completes : List ℕ) (bytes : List RemovedByte) → instant < byte.at
    → (byte.removal ≤ number → byte.at ≤ at) → taken_by number bytes ≤ came_before at completes → taken_by number (byte ∷ bytes) ≤ came_before at (instant ∷ completes)
short-step number at instant byte completes bytes lt until rest = elim (cases_lt number byte.removal) [
  | inl later ↦ omega (arith, taken_by-no number byte bytes later, came_before-more at instant completes)
  | inr has ↦
      let taken : byte.at ≤ at = until has in
      omega (arith, taken_by-yes number byte bytes has, came_before-yes at instant completes (omega arith))
]

short-passes : (instant : ℕ) (byte : RemovedByte) (completes : List ℕ) (bytes : List RemovedByte) (found : Option RemovedByte) → instant < byte.at
    → NotBefore byte.removal found → IsFirstShort completes bytes found → IsFirstShort (instant ∷ completes) (byte ∷ bytes) found
short-passes instant byte completes bytes None lt order is = λ number at until. short-step number at instant byte completes bytes lt until.0 (is number at until.1)
short-passes instant byte completes bytes (Some found) lt order is = (
  omega (arith, is.0, taken_by-yes found.removal byte bytes order, came_before-one_more found.at instant completes),
  λ number at before until. short-step number at instant byte completes bytes lt until.0 (is.1 number at before until.1),
)

short-stops : (byte : RemovedByte) (completes : List ℕ) (bytes : List RemovedByte) → InOrder byte.removal bytes → came_before byte.at completes ≡ 0
    → IsFirstShort completes (byte ∷ bytes) (Some byte)
short-stops byte completes bytes order none = (
  omega (arith, none, taken_by-yes byte.removal byte bytes (omega arith)),
  λ number at before until. omega (arith, taken_by-no number byte bytes before, taken_by_none number byte.removal bytes before order),
)

NotBefore-less : (number number' : ℕ) (found : Option RemovedByte) → number ≤ number' → NotBefore number' found → NotBefore number found
NotBefore-less number number' None le order = tt
NotBefore-less number number' (Some byte) le order = omega arith

short_from : (before number : ℕ) (completes : List ℕ) (bytes : List RemovedByte) → Spaced 0 before completes → InOrder number bytes
    → IsFirstShort completes bytes (first_late completes bytes) × NotBefore number (first_late completes bytes)
unfolding first_late
short_from before number [] [] rise order = (λ number at until. omega arith, tt)
short_from before number (instant ∷ completes) [] rise order = (λ number at until. omega arith, tt)
short_from before number [] (byte ∷ bytes) rise order = (short-stops byte [] bytes order.1 refl, order.0)
short_from before number (instant ∷ completes) (byte ∷ bytes) rise order = elim (cases_lt instant byte.at) [
  | inl passes ↦
      let later = short_from instant byte.removal completes bytes rise.1 order.1 in
      rw (first_late-passes instant byte completes bytes passes)
      ((short-passes instant byte completes bytes (first_late completes bytes) passes later.1 later.0, NotBefore-less number byte.removal (first_late completes bytes) order.0 later.1))
  | inr stops ↦
      rw (first_late-stops instant byte completes bytes stops)
      ((short-stops byte (instant ∷ completes) bytes order.1 (came_before-no byte.at instant completes stops ∙ came_before_none byte.at instant completes stops rise.1), order.0))
]

-- ---- the bytes that a list of removals takes
InOrder-less : (number number' : ℕ) (bytes : List RemovedByte) → number ≤ number' → InOrder number' bytes → InOrder number bytes
InOrder-less number number' [] le order = tt
InOrder-less number number' (byte ∷ bytes) le order = (omega (arith, order.0), order.1)

-- the bytes of a list of removals stand in the order of the removals
copies-order : (number : ℕ) (byte : RemovedByte) (count : ℕ) (bytes : List RemovedByte) → number ≤ byte.removal → InOrder byte.removal bytes → InOrder number (replicate count byte ++ bytes)
copies-order number byte zero bytes le order = InOrder-less number byte.removal bytes le order
copies-order number byte (suc count) bytes le order = (le, copies-order byte.removal byte count bytes (omega arith) order)

taken_from-order : (first : ℕ) (removals : List Removal) → InOrder first (taken_from first removals)
unfolding taken_from
taken_from-order first [] = tt
taken_from-order first (removal ∷ removals) =
    let byte : RemovedByte = record { at = SUBTICKS_PER_TICK * removal.due; removal = first } in
    copies-order first byte removal.bytes (taken_from (first + 1) removals) (omega arith)
    (InOrder-less first (first + 1) (taken_from (first + 1) removals) (omega arith) (taken_from-order (first + 1) removals))

taken_by-copies : (number : ℕ) (byte : RemovedByte) (count : ℕ) → byte.removal ≤ number → taken_by number (replicate count byte) ≡ count
taken_by-copies number byte zero le = refl
taken_by-copies number byte (suc count) le = omega (arith, taken_by-yes number byte (replicate count byte) le, taken_by-copies number byte count le)

-- the bytes of the first removals, up to this number
taken_by-is : (first k : ℕ) (removals : List Removal) → taken_by (first + k) (taken_from first removals) ≡ sum_by (λ r. r.bytes) (take (suc k) removals)
unfolding taken_from
taken_by-is first k [] = refl
taken_by-is first zero (removal ∷ removals) =
    let byte : RemovedByte = record { at = SUBTICKS_PER_TICK * removal.due; removal = first } in
    omega (
      arith,
      sum_by-append (λ b. cond (leb b.removal (first + zero)) 1 0) (replicate removal.bytes byte) (taken_from (first + 1) removals),
      taken_by-copies (first + zero) byte removal.bytes (omega arith),
      taken_by_none (first + zero) (first + 1) (taken_from (first + 1) removals) (omega arith) (taken_from-order (first + 1) removals),
    )
taken_by-is first (suc k) (removal ∷ removals) =
    let byte : RemovedByte = record { at = SUBTICKS_PER_TICK * removal.due; removal = first } in
    let place : (first + 1) + k ≡ first + suc k = omega arith in
    omega (
      arith,
      sum_by-append (λ b. cond (leb b.removal (first + suc k)) 1 0) (replicate removal.bytes byte) (taken_from (first + 1) removals),
      taken_by-copies (first + suc k) byte removal.bytes (omega arith),
      ap (λ n. taken_by n (taken_from (first + 1) removals)) place,
      taken_by-is (first + 1) k removals,
      sum_by-cons (λ r. r.bytes) removal (take (suc k) removals),
    )

-- the bytes of later removals don't count
later-until : (number at first : ℕ) (bytes : List RemovedByte) → number < first → InOrder first bytes → TakenUntil number at bytes
later-until number at first [] less order = tt
later-until number at first (byte ∷ bytes) less order = (λ le. absurd (omega (arith, order.0)), later-until number at byte.removal bytes (omega (arith, order.0)) order.1)

copies-until : (number at : ℕ) (byte : RemovedByte) (count : ℕ) (bytes : List RemovedByte) → byte.at ≤ at → TakenUntil number at bytes → TakenUntil number at (replicate count byte ++ bytes)
copies-until number at byte zero bytes le until = until
copies-until number at byte (suc count) bytes le until = (λ _. le, copies-until number at byte count bytes le until)

-- removals whose times don't fall: what those up to a number take is taken by that one's time
taken_from-until : (before first k : ℕ) (removals : List Removal) (removal : Removal) → Spaced 0 before (map (λ r. r.due) removals) → slice_get removals k ≡ Some removal
    → TakenUntil (first + k) (SUBTICKS_PER_TICK * removal.due) (taken_from first removals)
unfolding taken_from
taken_from-until before first k [] removal rise there = tt
taken_from-until before first zero (head ∷ removals) removal rise there =
    let byte : RemovedByte = record { at = SUBTICKS_PER_TICK * head.due; removal = first } in
    copies-until (first + zero) (SUBTICKS_PER_TICK * removal.due) byte head.bytes (taken_from (first + 1) removals)
    (omega (arith, ap (λ r. r.due) (same_Some head removal there)))
    (later-until (first + zero) (SUBTICKS_PER_TICK * removal.due) (first + 1) (taken_from (first + 1) removals) (omega arith) (taken_from-order (first + 1) removals))
taken_from-until before first (suc k) (head ∷ removals) removal rise there =
    let byte : RemovedByte = record { at = SUBTICKS_PER_TICK * head.due; removal = first } in
    let place : (first + 1) + k ≡ first + suc k = omega arith in
    copies-until (first + suc k) (SUBTICKS_PER_TICK * removal.due) byte head.bytes (taken_from (first + 1) removals)
    (omega (arith, due-rises head.due removals k removal rise.1 there))
    (subst (λ n. TakenUntil n (SUBTICKS_PER_TICK * removal.due) (taken_from (first + 1) removals)) place (taken_from-until head.due (first + 1) k removals removal rise.1 there))
  where
    due-rises : (low : ℕ) (removals : List Removal) (k : ℕ) (removal : Removal) → Spaced 0 low (map (λ r. r.due) removals) → slice_get removals k ≡ Some removal → low ≤ removal.due
    due-rises low [] k removal rise there = absurd (let e : None ≡ Some removal = there in cc)
    due-rises low (head ∷ removals) zero removal rise there = omega (arith, rise.0, ap (λ r. r.due) (same_Some head removal there))
    due-rises low (head ∷ removals) (suc k) removal rise there = omega (arith, rise.0, due-rises head.due removals k removal rise.1 there)

-- ---- each byte is one of a removal, taken at its time
pub record IsOf (first : ℕ) (removals : List Removal) (byte : RemovedByte) : Type 0 where
  pub place : ℕ
  pub removal : Removal
  pub number : byte.removal ≡ first + place
  pub there : slice_get removals place ≡ Some removal
  pub time : byte.at ≡ SUBTICKS_PER_TICK * removal.due

abbrev EachByte : (RemovedByte → Type 0) → List RemovedByte → Type 0
EachByte P [] = Unit {0}
EachByte P (byte ∷ bytes) = P byte × EachByte P bytes

IsOf-later : (first : ℕ) (head : Removal) (removals : List Removal) (bytes : List RemovedByte) → EachByte (IsOf (first + 1) removals) bytes → EachByte (IsOf first (head ∷ removals)) bytes
IsOf-later first head removals [] each = tt
IsOf-later first head removals (byte ∷ bytes) each = (
  record { place = suc each.0.place; removal = each.0.removal; number = omega (arith, each.0.number); there = each.0.there; time = each.0.time },
  IsOf-later first head removals bytes each.1,
)

copies-each : (P : RemovedByte → Type 0) (byte : RemovedByte) (count : ℕ) (bytes : List RemovedByte) → P byte → EachByte P bytes → EachByte P (replicate count byte ++ bytes)
copies-each P byte zero bytes here each = each
copies-each P byte (suc count) bytes here each = (here, copies-each P byte count bytes here each)

taken_from-each : (first : ℕ) (removals : List Removal) → EachByte (IsOf first removals) (taken_from first removals)
unfolding taken_from
taken_from-each first [] = tt
taken_from-each first (head ∷ removals) =
    let byte : RemovedByte = record { at = SUBTICKS_PER_TICK * head.due; removal = first } in
    copies-each (IsOf first (head ∷ removals)) byte head.bytes (taken_from (first + 1) removals)
    (record { place = zero; removal = head; number = omega arith; there = refl; time = refl })
    (IsOf-later first head removals (taken_from (first + 1) removals) (taken_from-each (first + 1) removals))

abbrev FoundOf : (RemovedByte → Type 0) → Option RemovedByte → Type 0
FoundOf P None = Unit {0}
FoundOf P (Some byte) = P byte

first_late-of : (P : RemovedByte → Type 0) (completes : List ℕ) (bytes : List RemovedByte) → EachByte P bytes → FoundOf P (first_late completes bytes)
unfolding first_late
first_late-of P [] [] each = tt
first_late-of P (instant ∷ completes) [] each = tt
first_late-of P [] (byte ∷ bytes) each = each.0
first_late-of P (instant ∷ completes) (byte ∷ bytes) each = elim (cases_lt instant byte.at) [
  | inl passes ↦ rw (first_late-passes instant byte completes bytes passes) (first_late-of P completes bytes each.1)
  | inr stops ↦ rw (first_late-stops instant byte completes bytes stops) each.0
]

-- ---- what the walk says of removals
-- the removal of this number finds less than it takes, of bytes that complete at these instants
pub record IsShort (completes : List ℕ) (removals : List Removal) (number : ℕ) : Type 0 where
  pub removal : Removal
  pub one_of : slice_get removals number ≡ Some removal
  pub fewer : came_before (SUBTICKS_PER_TICK * removal.due) completes < sum_by (λ r. r.bytes) (take (number + 1) removals)

abbrev pub IsFirstLate : (completes : List ℕ) → List Removal → Option RemovedByte → Type 0
IsFirstLate completes removals None = (number : ℕ) → IsShort completes removals number → ⊥
IsFirstLate completes removals (Some byte) =
    IsShort completes removals byte.removal
    × ((removal : Removal) × (slice_get removals byte.removal ≡ Some removal) × (byte.at ≡ SUBTICKS_PER_TICK * removal.due))
    × ((number : ℕ) → IsShort completes removals number → byte.removal ≤ number)

-- a removal that finds less, where what it and those before it take has come
not_short : (before : ℕ) (completes : List ℕ) (removals : List Removal) (number : ℕ) → Spaced 0 before (map (λ r. r.due) removals)
    → (short : IsShort completes removals number)
    → (TakenUntil number (SUBTICKS_PER_TICK * short.removal.due) (taken_from 0 removals) → taken_by number (taken_from 0 removals) ≤ came_before (SUBTICKS_PER_TICK * short.removal.due) completes) → ⊥
not_short before completes removals number rise short enough =
    let zero_first : 0 + number ≡ number = omega arith in
    let until = subst (λ n. TakenUntil n (SUBTICKS_PER_TICK * short.removal.due) (taken_from 0 removals)) zero_first (taken_from-until before 0 number removals short.removal rise short.one_of) in
    omega (
      arith,
      enough until,
      short.fewer,
      ap (λ n. taken_by n (taken_from 0 removals)) zero_first,
      taken_by-is 0 number removals,
      ap (λ n. sum_by (λ r. r.bytes) (take n removals)) (add-one number),
    )

late-found : (before : ℕ) (completes : List ℕ) (removals : List Removal) (found : Option RemovedByte) → Spaced 0 before (map (λ r. r.due) removals)
    → FoundOf (IsOf 0 removals) found → IsFirstShort completes (taken_from 0 removals) found → IsFirstLate completes removals found
late-found before completes removals None rise of is = λ number short. not_short before completes removals number rise short (is number (SUBTICKS_PER_TICK * short.removal.due))
late-found before completes removals (Some byte) rise of is =
    let place : byte.removal ≡ of.place = omega (arith, of.number) in
    let there : slice_get removals byte.removal ≡ Some of.removal = ap (λ n. slice_get removals n) place ∙ of.there in (
      record {
        removal = of.removal;
        one_of = there;
        fewer = omega (
          arith,
          is.0,
          ap (λ at. came_before at completes) of.time,
          ap (λ n. taken_by n (taken_from 0 removals)) zero_first,
          taken_by-is 0 byte.removal removals,
          ap (λ n. sum_by (λ r. r.bytes) (take n removals)) (add-one byte.removal),
        );
      },
      (of.removal, there, of.time),
      λ number short. elim (cases_lt number byte.removal) as (λ _. byte.removal ≤ number) [
        | inl earlier ↦ absurd (not_short before completes removals number rise short (is.1 number (SUBTICKS_PER_TICK * short.removal.due) earlier))
        | inr not_earlier ↦ not_earlier
      ],
    )
  where
    zero_first : 0 + byte.removal ≡ byte.removal
    zero_first = omega arith

-- the walk finds the first removal that finds less than it takes
pub first_late-is : (before before' : ℕ) (completes : List ℕ) (removals : List Removal) → Spaced 0 before completes → Spaced 0 before' (map (λ r. r.due) removals)
    → IsFirstLate completes removals (first_late completes (taken_from 0 removals))
first_late-is before before' completes removals rise rise' =
    late-found before' completes removals (first_late completes (taken_from 0 removals)) rise'
    (first_late-of (IsOf 0 removals) completes (taken_from 0 removals) (taken_from-each 0 removals))
    (short_from before 0 completes (taken_from 0 removals) rise (taken_from-order 0 removals)).0
