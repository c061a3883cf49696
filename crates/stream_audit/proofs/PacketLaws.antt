-- A transport buffer that packets come into: the first instant at which it hasn't been empty for a second, packet by packet.
use Rattle.std.proofs.Common.{
  ◌≡◌,
  ℕ,
  zero,
  suc,
  ◌+◌,
  ◌-◌,
  ◌*◌,
  ◌<◌,
  ◌≤◌,
  inl,
  inr,
  List,
  [],
  ◌∷◌,
  ◌++◌,
  drop,
  map,
  length,
  get_or,
  Option,
  Some,
  None,
  refl,
  sym,
  ap,
  ◌∙◌,
  subst,
  arith,
}
use Rattle.std.proofs.lemmas.Bool.{cases_lt}
use Rattle.std.proofs.lemmas.List.{at_drop_more, at_drop_all}
use Rattle.std.proofs.lemmas.Nat.{mul-le}
use Rattle.std.specs.List.Sorted.{IsStrictlyIncreasing}
use Rattle.stream_constants.specs.declared.clock.TheConstants.{SUBTICKS_PER_SECOND}
use Rattle.stream_constants.specs.declared.packets.TheConstants.{PACKET_BYTES}
use Rattle.tstd_model.specs.Instants.{spaced, came, departures}
use Rattle.tstd_model.specs.declared.decoder_input.Arrival.{Arrival}
use Rattle.tstd_model.specs.PacketBytes.{arrives_in, arrives, byte_subticks}
use Rattle.tstd_model.specs.Private.Server.{Spaced}
use Rattle.tstd_model.proofs.RisingLaws.{Rising, Rising-from, arrives-rise}
use Rattle.stream_audit.specs.NeverEmpty.{IsBusyAt, IsFirstBusy, buffer_with, packet_in}
use Rattle.stream_audit.specs.Private.BusyTime.{busy_by}
use Rattle.stream_audit.proofs.BusyLaws.{Busy, Second, IsFirstSecond, by-second, by-end, by-on, by-anew, first-second}

-- ---- a packet whose bytes come no slower than they leave

pub packet-short : (s from until first step n : ℕ) (rest : List ℕ) → step ≤ s → first ≤ until → until + s * n < from + SUBTICKS_PER_SECOND →
    busy_by s from until (spaced first step n ++ rest) ≡ busy_by s from (until + s * n) rest
unfolding spaced
packet-short s from until first step zero rest together le short = let none : until + s * 0 ≡ until = omega arith in ap (λ u. busy_by s from u rest) (sym none)
packet-short s from until first step (suc n) rest together le short =
    let next : until + s + s * n ≡ until + s * suc n = omega arith in
    by-on s from until first (spaced (first + step) step n ++ rest) (omega (arith, short, next)) le
    ∙ packet-short s from (until + s) (first + step) step n rest together (omega (arith, le, together)) (omega (arith, short, next))
    ∙ ap (λ u. busy_by s from u rest) next

pub packet-second : (s from until first step n : ℕ) (rest : List ℕ) → step ≤ s → first ≤ until → from + SUBTICKS_PER_SECOND ≤ until + s * n →
    busy_by s from until (spaced first step n ++ rest) ≡ Some (from + SUBTICKS_PER_SECOND)
unfolding spaced
packet-second s from until first step zero rest together le long = by-second s from until rest (omega (arith, long))
packet-second s from until first step (suc n) rest together le long = let next : until + s + s * n ≡ until + s * suc n = omega arith in
    elim (cases_lt until (from + SUBTICKS_PER_SECOND)) [
      | inr now ↦ by-second s from until (first ∷ (spaced (first + step) step n ++ rest)) now
      | inl short ↦ by-on s from until first (spaced (first + step) step n ++ rest) short le
          ∙ packet-second s from (until + s) (first + step) step n rest together (omega (arith, le, together)) (omega (arith, long, next))
    ]

-- a packet that comes when nothing is there
pub begins-anew : (s from until x : ℕ) (rest : List ℕ) → until < from + SUBTICKS_PER_SECOND → until < x → busy_by s from until (x ∷ rest) ≡ busy_by s x x (x ∷ rest)
begins-anew s from until x rest short lt = by-anew s from until x rest short lt ∙ sym (by-on s x x x rest (omega arith) (omega arith))

-- ---- a whole packet

first-byte : (first step n : ℕ) (later : List ℕ) → spaced first step (suc n) ++ later ≡ first ∷ (spaced (first + step) step n ++ later)
unfolding spaced
first-byte first step n later = refl

-- a packet comes to a busy time, which is `from'` up to `until'` at its first byte
module _ (s from until s' from' until' first step : ℕ) (same : (rest : List ℕ) → busy_by s from until (first ∷ rest) ≡ busy_by s' from' until' (first ∷ rest))
    (together : step ≤ s') (comes : first ≤ until') (later : List ℕ) where
  begun : busy_by s from until (spaced first step PACKET_BYTES ++ later) ≡ busy_by s' from' until' (spaced first step PACKET_BYTES ++ later)
  begun = ap (busy_by s from until) (first-byte first step 187 later) ∙ same (spaced (first + step) step 187 ++ later)
      ∙ ap (busy_by s' from' until') (sym (first-byte first step 187 later))

  pub taken-short : until' + PACKET_BYTES * s' < from' + SUBTICKS_PER_SECOND →
      busy_by s from until (spaced first step PACKET_BYTES ++ later) ≡ busy_by s' from' (until' + PACKET_BYTES * s') later
  taken-short short =
      let bytes : s' * PACKET_BYTES ≡ PACKET_BYTES * s' = omega arith in
      begun ∙ packet-short s' from' until' first step PACKET_BYTES later together comes (omega (arith, bytes, short))
      ∙ ap (λ (u : ℕ). busy_by s' from' (until' + u) later) bytes

  pub taken-second : from' + SUBTICKS_PER_SECOND ≤ until' + PACKET_BYTES * s' →
      busy_by s from until (spaced first step PACKET_BYTES ++ later) ≡ Some (from' + SUBTICKS_PER_SECOND)
  taken-second long =
      let bytes : s' * PACKET_BYTES ≡ PACKET_BYTES * s' = omega arith in
      begun ∙ packet-second s' from' until' first step PACKET_BYTES later together comes (omega (arith, bytes, long))

-- ---- bytes that come slower than they leave

-- each instant is at least a step behind the one before, the first one not before `next`
abbrev Apart : (step next : ℕ) → List ℕ → Type 0
Apart step next [] = Unit {0}
Apart step next (x ∷ later) = (next ≤ x) × Apart step (x + step) later

apart-lower : (step low high : ℕ) (xs : List ℕ) → low ≤ high → Apart step high xs → Apart step low xs
apart-lower step low high [] le apart = tt
apart-lower step low high (x ∷ xs) le apart = (omega (arith, le, apart.0), apart.1)

spaced-apart : (step next first n : ℕ) (rest : List ℕ) → next ≤ first → Apart step (first + step * n) rest → Apart step next (spaced first step n ++ rest)
unfolding spaced
spaced-apart step next first zero rest le apart = apart-lower step next (first + step * 0) rest (omega (arith, le)) apart
spaced-apart step next first (suc n) rest le apart =
    let far : first + step * suc n ≡ first + step + step * n = omega arith in
    (le, spaced-apart step (first + step) (first + step) n rest (omega arith) (subst (λ k. Apart step k rest) far apart))

arrives-apart : (slot least : ℕ) (arrivals : List Arrival) → Rising least (map (λ a. a.slot_no) arrivals) →
    Apart (byte_subticks slot) (PACKET_BYTES * least * byte_subticks slot) (arrives slot arrivals)
unfolding arrives arrives_in
arrives-apart slot least [] rise = tt
arrives-apart slot least (arrival ∷ arrivals) rise =
    let step = byte_subticks slot in
    let first = PACKET_BYTES * arrival.slot_no * step in
    let from : PACKET_BYTES * least * step ≤ first = mul-le (PACKET_BYTES * least) step (PACKET_BYTES * arrival.slot_no) step (omega (arith, rise.0)) (omega arith) in
    let next : first + step * PACKET_BYTES ≡ PACKET_BYTES * (arrival.slot_no + 1) * step = omega arith in
    spaced-apart step (PACKET_BYTES * least * step) first PACKET_BYTES (arrives slot arrivals) from
    (subst (λ n. Apart step n (arrives slot arrivals)) (sym next) (arrives-apart slot (arrival.slot_no + 1) arrivals rise.1))

slow-later : (s step x : ℕ) (later : List ℕ) → s < step → s < SUBTICKS_PER_SECOND → Apart step (x + step) later → busy_by s x (x + s) later ≡ None
slow-later s step x [] slow short apart = by-end s x (x + s) (omega (arith, short))
slow-later s step x (y ∷ later) slow short apart =
    by-anew s x (x + s) y later (omega (arith, short)) (omega (arith, slow, apart.0)) ∙ slow-later s step y later slow short apart.1

slow : (s step : ℕ) (comes : List ℕ) → s < step → s < SUBTICKS_PER_SECOND → Apart step 0 comes → busy_by s 0 0 comes ≡ None
slow s step [] slower short apart = by-end s 0 0 (omega arith)
slow s step (zero ∷ later) slower short apart = by-on s 0 0 0 later (omega arith) (omega arith) ∙ slow-later s step 0 later slower short apart.1
slow s step (suc x ∷ later) slower short apart = by-anew s 0 0 (suc x) later (omega arith) (omega arith) ∙ slow-later s step (suc x) later slower short apart.1

-- ---- the buffer of some packets

slots-of : (packets : List ℕ) → map (λ (a : Arrival). a.slot_no) (map packet_in packets) ≡ packets
slots-of [] = refl
slots-of (x ∷ packets) = ap (λ xs. x ∷ xs) (slots-of packets)

-- packets in slots that rise
pub rise-of : (packets : List ℕ) → IsStrictlyIncreasing packets → IsStrictlyIncreasing (map (λ (a : Arrival). a.slot_no) (map packet_in packets))
rise-of packets rise = subst (λ (xs : List ℕ). IsStrictlyIncreasing xs) (sym (slots-of packets)) rise

module _ (slot s : ℕ) (arrivals : List Arrival) (rise : IsStrictlyIncreasing (map (λ (a : Arrival). a.slot_no) arrivals)) where
  none : PACKET_BYTES * 0 * byte_subticks slot ≡ 0
  none = omega arith

  to-buffer : (t : ℕ) → Busy s 0 0 (arrives slot arrivals) t → 0 < came t (arrives slot arrivals) - came t (departures s 0 (arrives slot arrivals))
  to-buffer t (inl here) = absurd (omega (arith, here.1))
  to-buffer t (inr then) = then.1

  back : (other : ℕ) → IsBusyAt (buffer_with slot s arrivals) other → Second (Busy s 0 0 (arrives slot arrivals)) other
  back other busy = (busy.from, busy.second, λ t low high. inr (omega arith, busy.busy t low high))

  by_found : (f : Option ℕ) → IsFirstSecond (Busy s 0 0 (arrives slot arrivals)) f → IsFirstBusy (buffer_with slot s arrivals) f
  by_found (Some at) first = (
    record { from = first.0.0; second = first.0.1; busy = λ t low high. to-buffer t (first.0.2 t low high) },
    λ other busy. first.1 other (back other busy),
  )
  by_found None never = λ at busy. never at (back at busy)

  -- what the walk finds is the first instant at which the buffer hasn't been empty for a second
  pub first-busy : (found : Option ℕ) → busy_by s 0 0 (arrives slot arrivals) ≡ found → IsFirstBusy (buffer_with slot s arrivals) found
  first-busy found is = by_found found (subst (λ (f : Option ℕ). IsFirstSecond (Busy s 0 0 (arrives slot arrivals)) f) is
      (first-second s 0 0 (arrives slot arrivals) (omega arith)
      (subst (λ (n : ℕ). Spaced 0 n (arrives slot arrivals)) none (arrives-rise slot 0 arrivals (Rising-from (map (λ (a : Arrival). a.slot_no) arrivals) rise)))))

  -- where each byte leaves before the next one comes there is none
  pub never-busy : s < byte_subticks slot → s < SUBTICKS_PER_SECOND → IsFirstBusy (buffer_with slot s arrivals) None
  never-busy slower short = first-busy None (slow s (byte_subticks slot) (arrives slot arrivals) slower short
      (subst (λ (n : ℕ). Apart (byte_subticks slot) n (arrives slot arrivals)) none
      (arrives-apart slot 0 arrivals (Rising-from (map (λ (a : Arrival). a.slot_no) arrivals) rise))))

-- ---- packet by packet

-- the bytes of those that are left begin with the next one's
pub arrives-next : (slot : ℕ) (arrivals : List Arrival) (k : ℕ) (d : Arrival) → k < length arrivals →
    arrives slot (drop k arrivals) ≡ spaced (PACKET_BYTES * (get_or arrivals k d).slot_no * byte_subticks slot) (byte_subticks slot) PACKET_BYTES ++ arrives slot (drop (k + 1) arrivals)
unfolding arrives arrives_in
arrives-next slot arrivals k d within = at_drop_more (arrives slot) arrivals k d within

-- the walk over those that are left, at the next one
pub walk-next : (s from until slot : ℕ) (arrivals : List Arrival) (k : ℕ) (d : Arrival) (first step : ℕ) → k < length arrivals → step ≡ byte_subticks slot →
    first ≡ PACKET_BYTES * (get_or arrivals k d).slot_no * step →
    busy_by s from until (arrives slot (drop k arrivals)) ≡ busy_by s from until (spaced first step PACKET_BYTES ++ arrives slot (drop (k + 1) arrivals))
walk-next s from until slot arrivals k d first step within step_is first_is =
    let rest = arrives slot (drop (k + 1) arrivals) in
    ap (busy_by s from until)
    (arrives-next slot arrivals k d within
    ∙ ap (λ (b : ℕ). spaced (PACKET_BYTES * (get_or arrivals k d).slot_no * b) b PACKET_BYTES ++ rest) (sym step_is)
    ∙ ap (λ (f : ℕ). spaced f step PACKET_BYTES ++ rest) (sym first_is))

pub walk-end : (s from until slot : ℕ) (arrivals : List Arrival) (k : ℕ) → length arrivals ≤ k → until < from + SUBTICKS_PER_SECOND →
    busy_by s from until (arrives slot (drop k arrivals)) ≡ None
unfolding arrives
walk-end s from until slot arrivals k behind short = ap (busy_by s from until) (at_drop_all (arrives slot) arrivals k behind) ∙ by-end s from until short

-- the same where packets come in these slots
in-slot : (packets : List ℕ) (k d : ℕ) → k < length packets → map packet_in (drop k packets) ≡ packet_in (get_or packets k d) ∷ map packet_in (drop (k + 1) packets)
in-slot packets k d within = at_drop_more (λ (xs : List ℕ). map packet_in xs) packets k d within

pub slots-next : (s from until slot : ℕ) (packets : List ℕ) (k d first step : ℕ) → k < length packets → step ≡ byte_subticks slot →
    first ≡ PACKET_BYTES * get_or packets k d * step →
    busy_by s from until (arrives slot (map packet_in (drop k packets)))
    ≡ busy_by s from until (spaced first step PACKET_BYTES ++ arrives slot (map packet_in (drop (k + 1) packets)))
slots-next s from until slot packets k d first step within step_is first_is =
    ap (λ (xs : List Arrival). busy_by s from until (arrives slot xs)) (in-slot packets k d within)
    ∙ walk-next s from until slot (packet_in (get_or packets k d) ∷ map packet_in (drop (k + 1) packets)) 0 (packet_in 0) first step (omega arith) step_is first_is

pub slots-end : (s from until slot : ℕ) (packets : List ℕ) (k : ℕ) → length packets ≤ k → until < from + SUBTICKS_PER_SECOND →
    busy_by s from until (arrives slot (map packet_in (drop k packets))) ≡ None
unfolding arrives
slots-end s from until slot packets k behind short =
    ap (busy_by s from until) (at_drop_all (λ (xs : List ℕ). arrives slot (map packet_in xs)) packets k behind) ∙ by-end s from until short
