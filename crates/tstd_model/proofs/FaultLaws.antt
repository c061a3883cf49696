-- The earliest of what the walks find is the decoder's first fault.
use Rattle.std.proofs.Common.{◌≡◌, ℕ, zero, suc, ◌-◌, ◌*◌, ◌<◌, ◌≤◌, ◌⊎◌, List, [], ◌∷◌, length, map, filter, get_or, min, refl, sym, ◌∙◌, ap, subst, arith, inl, inr, Option, Some, None, slice_get}
use Rattle.std.proofs.lemmas.Bool.{cases_lt}
use Rattle.std.proofs.lemmas.Option.{same_Some, slice_get_within, slice_get-get_or}
use Rattle.std.specs.List.Sorted.{IsStrictlyIncreasing, IsNonDecreasing}
use Rattle.stream_constants.specs.declared.clock.TheConstants.{SUBTICKS_PER_TICK}
use Rattle.stream_constants.specs.declared.decoder.TheConstants.{MB_SUBTICKS, SYSTEM_SUBTICKS, TB_BYTES}
use Rattle.tstd_model.specs.Instants.{came, departures, departures_into}
use Rattle.tstd_model.specs.PacketBytes.{Arrival, is_payload, parts, arrives, kept}
use Rattle.tstd_model.specs.Decoder.{
  BufferKind,
  Video,
  Audio,
  System,
  Removal,
  DecoderBuffer,
  IsOverfull,
  tb_subticks,
  leave_tb,
  payload_passes,
  data_passes,
  removed,
  eb_bytes,
  eb_rooms,
  moves,
  transport_buffer,
  is_removed,
  completes,
}
use Rattle.tstd_model.specs.Faults.{TstdFault, Overflow, Late, Old, Overflows, FindsLess, HeldPastLimit, hold_subticks, IsFault, instant_of, FaultGoesBefore, IsEarliestFault, IsFirstOrNone}
use Rattle.tstd_model.specs.Private.Scans.{RemovedByte}
use Rattle.tstd_model.specs.Private.Server.{Spaced}
use Rattle.tstd_model.specs.Private.Walks.{main_buffer, first_excess, earlier, excess_found, late_found, old_found, NotAfter, Before, BeforeByte, IsEarliest}
use Rattle.tstd_model.proofs.Counts.{Spaced-rises}
use Rattle.tstd_model.proofs.Server.{departures-spaced}
use Rattle.tstd_model.proofs.OverLaws.{IsFirstExcess, first_over-is}
use Rattle.tstd_model.proofs.LateLaws.{IsShort, IsFirstLate, first_late-is}
use Rattle.tstd_model.proofs.OldLaws.{IsFirstHeld, first_old-is}
use Rattle.tstd_model.proofs.RisingLaws.{Rising, Rising-from, Spaced-from_order, arrives-rise, kept-rises, departures_into-rises, with_headers-rises, removed-rises, came-moves}

-- ---- the instants of a decoder's buffers don't fall
module _ (slot : ℕ) (arrivals : List Arrival) (removals : List Removal) (slots_rise : Rising 0 (map (λ a. a.slot_no) arrivals)) (dues_rise : Spaced 0 0 (map (λ r. r.due) removals)) where
  all_arrive : Spaced 0 0 (arrives slot arrivals)
  all_arrive = subst (λ n. Spaced 0 n (arrives slot arrivals)) (omega arith) (arrives-rise slot 0 arrivals slots_rise)

  all_leave_tb : (kind : BufferKind) → Spaced 0 0 (leave_tb slot kind arrivals)
  unfolding leave_tb
  all_leave_tb kind = Spaced-rises (tb_subticks kind) 0 0 (departures (tb_subticks kind) 0 (arrives slot arrivals)) (omega arith) (departures-spaced (tb_subticks kind) 0 (arrives slot arrivals))

  all_payload : (kind : BufferKind) → Spaced 0 0 (payload_passes slot kind arrivals)
  unfolding payload_passes
  all_payload kind = kept-rises is_payload 0 (parts arrivals) (leave_tb slot kind arrivals) (all_leave_tb kind)

  all_moves : (vbv : ℕ) → Spaced 0 0 (moves slot vbv arrivals removals)
  unfolding moves
  all_moves vbv =
      Spaced-rises MB_SUBTICKS 0 0 (departures_into (eb_rooms vbv removals) MB_SUBTICKS 0 (data_passes slot (Video vbv) arrivals)) (omega arith)
      (departures_into-rises MB_SUBTICKS 0 (eb_rooms vbv removals) (data_passes slot (Video vbv) arrivals))

  all_removed : Spaced 0 0 (removed removals)
  all_removed = subst (λ n. Spaced 0 n (removed removals)) (omega arith) (removed-rises 0 removals dues_rise)

  all_complete : (kind : BufferKind) → Spaced 0 0 (completes slot kind arrivals removals)
  all_complete (Video vbv) = all_moves vbv
  all_complete Audio = all_payload Audio
  all_complete System = tt

  abbrev IsFoundExcess : DecoderBuffer → Type 0
  IsFoundExcess buffer = IsFirstExcess buffer.size buffer.ins buffer.outs (first_excess buffer)

  tb_excess : (kind : BufferKind) → IsFoundExcess (transport_buffer slot kind arrivals)
  tb_excess kind = first_over-is TB_BYTES 0 0 (arrives slot arrivals) (leave_tb slot kind arrivals) all_arrive (all_leave_tb kind)

  main_excess : (kind : BufferKind) → IsFoundExcess (main_buffer slot kind arrivals removals)
  main_excess (Video vbv) =
      let buffer = main_buffer slot (Video vbv) arrivals removals in
      first_over-is buffer.size 0 0 buffer.ins buffer.outs (all_payload (Video vbv)) (with_headers-rises 0 (parts arrivals) (moves slot vbv arrivals removals) (all_moves vbv))
  main_excess Audio =
      let buffer = main_buffer slot Audio arrivals removals in
      first_over-is buffer.size 0 0 buffer.ins buffer.outs (all_payload Audio) all_removed
  main_excess System =
      let buffer = main_buffer slot System arrivals removals in
      first_over-is buffer.size 0 0 buffer.ins buffer.outs (all_payload System)
      (Spaced-rises SYSTEM_SUBTICKS 0 0 (departures SYSTEM_SUBTICKS 0 (payload_passes slot System arrivals)) (omega arith) (departures-spaced SYSTEM_SUBTICKS 0 (payload_passes slot System arrivals)))

-- ---- the least instant at which something is so
abbrev IsLeast : (ℕ → Type 0) → Option ℕ → Type 0
IsLeast P None = (x : ℕ) → P x → ⊥
IsLeast P (Some at) = P at × ((x : ℕ) → P x → at ≤ x)

least-not_after : (P : ℕ → Type 0) (found : Option ℕ) (at x : ℕ) → IsLeast P found → NotAfter at found → P x → at ≤ x
least-not_after P None at x least le here = absurd (least x here)
least-not_after P (Some first) at x least le here = omega (arith, least.1 x here)

least-before : (P : ℕ → Type 0) (found : Option ℕ) (at x : ℕ) → IsLeast P found → Before at found → P x → at < x
least-before P None at x least lt here = absurd (least x here)
least-before P (Some first) at x least lt here = omega (arith, least.1 x here)

least-there : (P : ℕ → Type 0) (found : Option ℕ) (at : ℕ) → IsLeast P found → found ≡ Some at → P at × ((x : ℕ) → P x → at ≤ x)
least-there P found at least is = subst (IsLeast P) is least

-- the least of two
least-earlier : (P Q R : ℕ → Type 0) (found other : Option ℕ) → IsLeast P found → IsLeast Q other → ((x : ℕ) → P x → R x) → ((x : ℕ) → Q x → R x) → ((x : ℕ) → R x → P x ⊎ Q x)
    → IsLeast R (earlier found other)
least-earlier P Q R None None least least' one two both = λ x here. elim (both x here) as (λ _. ⊥) [ inl p ↦ least x p | inr q ↦ least' x q ]
least-earlier P Q R None (Some at) least least' one two both =
    (two at least'.0, λ x here. elim (both x here) as (λ _. at ≤ x) [ inl p ↦ absurd (least x p) | inr q ↦ least'.1 x q ])
least-earlier P Q R (Some at) None least least' one two both =
    (one at least.0, λ x here. elim (both x here) as (λ _. at ≤ x) [ inl p ↦ least.1 x p | inr q ↦ absurd (least' x q) ])
least-earlier P Q R (Some at) (Some at') least least' one two both = (
  elim (cases_lt at at') as (λ _. R (min at at')) [
    | inl lt ↦ subst R (omega arith) (one at least.0)
    | inr ge ↦ subst R (omega arith) (two at' least'.0)
  ],
  λ x here. elim (both x here) as (λ _. min at at' ≤ x) [ inl p ↦ omega (arith, least.1 x p) | inr q ↦ omega (arith, least'.1 x q) ],
)

-- ---- a buffer over its size
excess_least : (buffer : DecoderBuffer) → IsFirstExcess buffer.size buffer.ins buffer.outs (first_excess buffer) → IsLeast (IsOverfull buffer) (first_excess buffer)
excess_least buffer is = excess_least_of buffer.size buffer.ins buffer.outs (first_excess buffer) is
  where
    excess_least_of : (size : ℕ) (ins outs : List ℕ) (found : Option ℕ) → IsFirstExcess size ins outs found → IsLeast (λ x. size < came x ins - came x outs) found
    excess_least_of size ins outs None is = λ x over. omega (arith, is x)
    excess_least_of size ins outs (Some at) is =
        (omega (arith, is.0), λ x over. elim (cases_lt x at) as (λ _. at ≤ x) [ inl before ↦ absurd (omega (arith, is.1 x before)) | inr from ↦ from ])

one_of_two : (first second buffer : DecoderBuffer) (place x : ℕ) → slice_get (first ∷ second ∷ []) place ≡ Some buffer → IsOverfull buffer x → IsOverfull first x ⊎ IsOverfull second x
one_of_two first second buffer zero x there over = inl (subst (λ b. IsOverfull b x) (sym (same_Some first buffer there)) over)
one_of_two first second buffer (suc zero) x there over = inr (subst (λ b. IsOverfull b x) (sym (same_Some second buffer there)) over)
one_of_two first second buffer (suc (suc place)) x there over = absurd (let e : None ≡ Some buffer = there in cc)

one_of_three : (first second third buffer : DecoderBuffer) (place x : ℕ) → slice_get (first ∷ second ∷ third ∷ []) place ≡ Some buffer → IsOverfull buffer x → (IsOverfull third x → ⊥)
    → IsOverfull first x ⊎ IsOverfull second x
one_of_three first second third buffer zero x there over never = inl (subst (λ b. IsOverfull b x) (sym (same_Some first buffer there)) over)
one_of_three first second third buffer (suc zero) x there over never = inr (subst (λ b. IsOverfull b x) (sym (same_Some second buffer there)) over)
one_of_three first second third buffer (suc (suc zero)) x there over never = absurd (never (subst (λ b. IsOverfull b x) (sym (same_Some third buffer there)) over))
one_of_three first second third buffer (suc (suc (suc place))) x there over never = absurd (let e : None ≡ Some buffer = there in cc)

-- EB is never over its size, since what moves into it has room there
pub eb_never_over : (slot vbv : ℕ) (arrivals : List Arrival) (removals : List Removal) (x : ℕ) → eb_bytes vbv < came x (moves slot vbv arrivals removals) - came x (removed removals) → ⊥
unfolding moves eb_rooms
eb_never_over slot vbv arrivals removals x over = omega (arith, came-moves x (eb_bytes vbv) MB_SUBTICKS 0 (removed removals) (data_passes slot (Video vbv) arrivals))

overflow_where : (slot : ℕ) (kind : BufferKind) (arrivals : List Arrival) (removals : List Removal) (x : ℕ) → Overflows slot kind arrivals removals x
    → IsOverfull (transport_buffer slot kind arrivals) x ⊎ IsOverfull (main_buffer slot kind arrivals removals) x
overflow_where slot (Video vbv) arrivals removals x over = one_of_three _ _ _ over.buffer over.place x over.one_of over.over (eb_never_over slot vbv arrivals removals x)
overflow_where slot Audio arrivals removals x over = one_of_two _ _ over.buffer over.place x over.one_of over.over
overflow_where slot System arrivals removals x over = one_of_two _ _ over.buffer over.place x over.one_of over.over

overflow_tb : (slot : ℕ) (kind : BufferKind) (arrivals : List Arrival) (removals : List Removal) (x : ℕ) → IsOverfull (transport_buffer slot kind arrivals) x → Overflows slot kind arrivals removals x
overflow_tb slot (Video vbv) arrivals removals x over = record { place = 0; buffer = transport_buffer slot (Video vbv) arrivals; one_of = refl; over = over }
overflow_tb slot Audio arrivals removals x over = record { place = 0; buffer = transport_buffer slot Audio arrivals; one_of = refl; over = over }
overflow_tb slot System arrivals removals x over = record { place = 0; buffer = transport_buffer slot System arrivals; one_of = refl; over = over }

overflow_main : (slot : ℕ) (kind : BufferKind) (arrivals : List Arrival) (removals : List Removal) (x : ℕ)
    → IsOverfull (main_buffer slot kind arrivals removals) x → Overflows slot kind arrivals removals x
overflow_main slot (Video vbv) arrivals removals x over = record { place = 1; buffer = main_buffer slot (Video vbv) arrivals removals; one_of = refl; over = over }
overflow_main slot Audio arrivals removals x over = record { place = 1; buffer = main_buffer slot Audio arrivals removals; one_of = refl; over = over }
overflow_main slot System arrivals removals x over = record { place = 1; buffer = main_buffer slot System arrivals removals; one_of = refl; over = over }

-- ---- a byte held past the limit
old_least : (slot : ℕ) (kind : BufferKind) (arrivals : List Arrival) (removals : List Removal) (found : Option ℕ)
    → IsFirstHeld hold_subticks (filter (is_removed kind) (parts arrivals)) (kept (is_removed kind) (parts arrivals) (arrives slot arrivals)) (removed removals) found
    → IsLeast (HeldPastLimit slot kind arrivals removals) found
old_least slot kind arrivals removals None is = λ x held.
    is held.byte held.arrival (record { is_data = held.is_data; arrives = held.arrives; stays = held.stays })
old_least slot kind arrivals removals (Some at) is = (
  record { byte = is.0.0; arrival = is.0.1; is_data = is.0.2.is_data; arrives = is.0.2.arrives; past = is.0.3; stays = is.0.2.stays },
  λ x held. omega (arith, held.past, is.1 held.byte held.arrival (record { is_data = held.is_data; arrives = held.arrives; stays = held.stays })),
)

-- ---- a removal that finds less
short_from_less : (slot : ℕ) (kind : BufferKind) (arrivals : List Arrival) (removals : List Removal) (number : ℕ) → FindsLess slot kind arrivals removals number
    → IsShort (completes slot kind arrivals removals) removals number
short_from_less slot kind arrivals removals number less = record { removal = less.removal; one_of = less.one_of; fewer = less.fewer }

less_from_short : (slot : ℕ) (kind : BufferKind) (arrivals : List Arrival) (removals : List Removal) (number : ℕ) → IsShort (completes slot kind arrivals removals) removals number
    → FindsLess slot kind arrivals removals number
less_from_short slot kind arrivals removals number short = record { removal = short.removal; one_of = short.one_of; fewer = short.fewer }

time_of : (removals : List Removal) (number : ℕ) (removal : Removal) → slice_get removals number ≡ Some removal → instant_of removals (Late number) ≡ SUBTICKS_PER_TICK * removal.due
time_of removals number removal there =
    let default : Removal = record { due = 0; bytes = 0 } in
    let within = slice_get_within removals number removal there in
    ap (λ r. SUBTICKS_PER_TICK * r.due) (same_Some (get_or removals number default) removal (sym (slice_get-get_or removals number default within) ∙ there))

times_rise : (before : ℕ) (removals : List Removal) (number other : ℕ) → Spaced 0 before (map (λ r. r.due) removals) → number ≤ other → other < length removals
    → instant_of removals (Late number) ≤ instant_of removals (Late other)
times_rise before [] number other rise le within = absurd (omega arith)
times_rise before (head ∷ removals) zero zero rise le within = omega arith
times_rise before (head ∷ removals) zero (suc other) rise le within = from_first head.due removals other rise.1 (omega arith)
  where
    from_first : (low : ℕ) (removals : List Removal) (other : ℕ) → Spaced 0 low (map (λ r. r.due) removals) → other < length removals → SUBTICKS_PER_TICK * low ≤ instant_of removals (Late other)
    from_first low [] other rise within = absurd (omega arith)
    from_first low (head ∷ removals) zero rise within = omega (arith, rise.0)
    from_first low (head ∷ removals) (suc other) rise within = omega (arith, rise.0, from_first head.due removals other rise.1 (omega arith))
times_rise before (head ∷ removals) (suc number) zero rise le within = absurd (omega arith)
times_rise before (head ∷ removals) (suc number) (suc other) rise le within = times_rise head.due removals number other rise.1 (omega arith) (omega arith)

before_short : (removals : List Removal) (completes : List ℕ) (found : Option RemovedByte) (at number : ℕ) → Spaced 0 0 (map (λ r. r.due) removals) → IsFirstLate completes removals found
    → BeforeByte at found → IsShort completes removals number → at < instant_of removals (Late number)
before_short removals completes None at number rise is before short = absurd (is number short)
before_short removals completes (Some byte) at number rise is before short =
    omega (
      arith,
      is.1.2,
      time_of removals byte.removal is.1.0 is.1.1,
      times_rise 0 removals byte.removal number rise (is.2 number short) (slice_get_within removals number short.removal short.one_of),
    )

-- ---- the earliest of what is found
in_order : (m n : ℕ) (P : Type 0) → m ≤ n → P → (m < n) ⊎ ((m ≡ n) × P)
in_order m n P le holds = elim (cases_lt m n) as (λ _. (m < n) ⊎ ((m ≡ n) × P)) [ inl lt ↦ inl lt | inr ge ↦ inr (omega arith, holds) ]

module _ (slot : ℕ) (kind : BufferKind) (arrivals : List Arrival) (removals : List Removal) (dues_rise : Spaced 0 0 (map (λ r. r.due) removals))
    (late : Option RemovedByte) (over old : Option ℕ) (is_late : IsFirstLate (completes slot kind arrivals removals) removals late)
    (is_over : IsLeast (Overflows slot kind arrivals removals) over) (is_old : IsLeast (HeldPastLimit slot kind arrivals removals) old) where
  abbrev Follows : TstdFault → TstdFault → Type 0
  Follows fault other = (instant_of removals fault < instant_of removals other) ⊎ ((instant_of removals fault ≡ instant_of removals other) × FaultGoesBefore fault other)

  after_late : (byte : RemovedByte) → IsFirstLate (completes slot kind arrivals removals) removals (Some byte) → NotAfter byte.at over → NotAfter byte.at old
      → (other : TstdFault) → IsFault slot kind arrivals removals other → Follows (Late byte.removal) other
  after_late byte is not_over not_old (Late number) less =
      let short = short_from_less slot kind arrivals removals number less in
      let before : byte.removal ≤ number = is.2 number short in
      in_order _ _ _ (times_rise 0 removals byte.removal number dues_rise before (slice_get_within removals number less.removal less.one_of)) before
  after_late byte is not_over not_old (Overflow x) excess =
      in_order (instant_of removals (Late byte.removal)) x (Unit {0})
      (omega (arith, is.1.2, time_of removals byte.removal is.1.0 is.1.1, least-not_after (Overflows slot kind arrivals removals) over byte.at x is_over not_over excess)) tt
  after_late byte is not_over not_old (Old x) held =
      in_order (instant_of removals (Late byte.removal)) x (Unit {0})
      (omega (arith, is.1.2, time_of removals byte.removal is.1.0 is.1.1, least-not_after (HeldPastLimit slot kind arrivals removals) old byte.at x is_old not_old held)) tt

  after_over : (at : ℕ) → ((x : ℕ) → Overflows slot kind arrivals removals x → at ≤ x) → BeforeByte at late → NotAfter at old
      → (other : TstdFault) → IsFault slot kind arrivals removals other → Follows (Overflow at) other
  after_over at least not_late not_old (Late number) less =
      inl (before_short removals (completes slot kind arrivals removals) late at number dues_rise is_late not_late (short_from_less slot kind arrivals removals number less))
  after_over at least not_late not_old (Overflow x) excess = in_order at x (Unit {0}) (least x excess) tt
  after_over at least not_late not_old (Old x) held = in_order at x (Unit {0}) (least-not_after (HeldPastLimit slot kind arrivals removals) old at x is_old not_old held) tt

  after_old : (at : ℕ) → ((x : ℕ) → HeldPastLimit slot kind arrivals removals x → at ≤ x) → BeforeByte at late → Before at over
      → (other : TstdFault) → IsFault slot kind arrivals removals other → Follows (Old at) other
  after_old at least not_late not_over (Late number) less =
      inl (before_short removals (completes slot kind arrivals removals) late at number dues_rise is_late not_late (short_from_less slot kind arrivals removals number less))
  after_old at least not_late not_over (Overflow x) excess = inl (least-before (Overflows slot kind arrivals removals) over at x is_over not_over excess)
  after_old at least not_late not_over (Old x) held = in_order at x (Unit {0}) (least x held) tt

  earliest-is : (fault : Option TstdFault) → IsEarliest late over old fault → IsFirstOrNone slot kind arrivals removals fault
  earliest-is None none = none_at_all
    where
      none_at_all : (fault : TstdFault) → IsFault slot kind arrivals removals fault → ⊥
      none_at_all (Late number) less =
          subst (IsFirstLate (completes slot kind arrivals removals) removals) none.0 is_late number (short_from_less slot kind arrivals removals number less)
      none_at_all (Overflow x) excess = subst (IsLeast (Overflows slot kind arrivals removals)) none.1 is_over x excess
      none_at_all (Old x) held = subst (IsLeast (HeldPastLimit slot kind arrivals removals)) none.2 is_old x held
  earliest-is (Some (Late number)) first =
      let is = subst (IsFirstLate (completes slot kind arrivals removals) removals) first.1 is_late in
      subst (λ n. IsEarliestFault slot kind arrivals removals (Late n)) first.2
      (record { there = less_from_short slot kind arrivals removals first.0.removal is.0; first = after_late first.0 is first.3 first.4 })
  earliest-is (Some (Overflow at)) first =
      let is = least-there (Overflows slot kind arrivals removals) over at is_over first.0 in
      record { there = is.0; first = after_over at is.1 first.1 first.2 }
  earliest-is (Some (Old at)) first =
      let is = least-there (HeldPastLimit slot kind arrivals removals) old at is_old first.0 in
      record { there = is.0; first = after_old at is.1 first.1 first.2 }

-- the earliest of what the walks find is the first fault
pub first_fault-rises : (slot : ℕ) (kind : BufferKind) (arrivals : List Arrival) (removals : List Removal) (fault : Option TstdFault)
    → Rising 0 (map (λ a. a.slot_no) arrivals) → Spaced 0 0 (map (λ r. r.due) removals)
    → IsEarliest (late_found slot kind arrivals removals) (excess_found slot kind arrivals removals) (old_found slot kind arrivals removals) fault
    → IsFirstOrNone slot kind arrivals removals fault
first_fault-rises slot kind arrivals removals fault slots_rise dues_rise earliest =
    let tb = transport_buffer slot kind arrivals in
    let main = main_buffer slot kind arrivals removals in
    earliest-is slot kind arrivals removals dues_rise (late_found slot kind arrivals removals) (excess_found slot kind arrivals removals) (old_found slot kind arrivals removals)
    (first_late-is 0 0 (completes slot kind arrivals removals) removals (all_complete slot arrivals removals slots_rise dues_rise kind) dues_rise)
    (least-earlier (IsOverfull tb) (IsOverfull main) (Overflows slot kind arrivals removals) (first_excess tb) (first_excess main)
    (excess_least tb (tb_excess slot arrivals removals slots_rise dues_rise kind))
    (excess_least main (main_excess slot arrivals removals slots_rise dues_rise kind))
    (λ x. overflow_tb slot kind arrivals removals x) (λ x. overflow_main slot kind arrivals removals x) (λ x. overflow_where slot kind arrivals removals x))
    (old_least slot kind arrivals removals (old_found slot kind arrivals removals)
    (first_old-is hold_subticks 0 (filter (is_removed kind) (parts arrivals)) (kept (is_removed kind) (parts arrivals) (arrives slot arrivals)) (removed removals)
    (kept-rises (is_removed kind) 0 (parts arrivals) (arrives slot arrivals) (all_arrive slot arrivals removals slots_rise dues_rise))))
    fault earliest

pub first_fault-is : (slot : ℕ) (kind : BufferKind) (arrivals : List Arrival) (removals : List Removal) (fault : Option TstdFault)
    → IsStrictlyIncreasing (map (λ a. a.slot_no) arrivals) → IsNonDecreasing (map (λ r. r.due) removals)
    → IsEarliest (late_found slot kind arrivals removals) (excess_found slot kind arrivals removals) (old_found slot kind arrivals removals) fault
    → IsFirstOrNone slot kind arrivals removals fault
first_fault-is slot kind arrivals removals fault slots dues earliest =
    first_fault-rises slot kind arrivals removals fault (Rising-from (map (λ a. a.slot_no) arrivals) slots) (Spaced-from_order (map (λ r. r.due) removals) dues) earliest
