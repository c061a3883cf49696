-- The room of a window, by the rooms from the start up to its ends.
use Rattle.std.proofs.Common.{◌≡◌, ℕ, ◌+◌, ◌-◌, ◌*◌, ◌/◌, ◌%◌, ◌<◌, ◌≤◌, ◌^◌, true, false, cond, nat_le, List, [], ◌∷◌, length, sum_by, is_none, refl, ap, inl, inr, mul-le-mul_right, div-add-mod', arith, ℤ, to_z, of_z, w64, pos, neg_ℤ, ◌≤ℤ◌, ◌+ℤ◌}
use Rattle.std.specs.Int.{div_ceil}
use Rattle.std.specs.List.{range_with_len}
use Rattle.std.proofs.lemmas.Bool.{cases_lt, le-leb, lt-leb, and_left, and_right, and_from}
use Rattle.std.proofs.lemmas.Grind.{div_ceil_times}
use Rattle.std.proofs.lemmas.Int.{ints}
use Rattle.std.proofs.lemmas.List.FromFn.{length-range_with_len}
use Rattle.std.proofs.lemmas.List.Sums.{sum_by-cons, count_by-le-length}
use Rattle.std.proofs.lemmas.Nat.{le-div, mod_below}
use Rattle.stream_constants.specs.declared.decoder.TheConstants.{HOLD_TICKS}
use Rattle.version_table.specs.declared.limits.TheConstants.{TIME_SLOTS_MOST}
use Rattle.version_table.specs.declared.table.AudioPacket.{AudioPacket}
use Rattle.version_table.specs.declared.table.Table.{Table}
use Rattle.version_table.specs.Table.{IsValidTable, audio_packets_of}
use Rattle.slot_rule.specs.Timetable.{reserved}
use Rattle.dual_bounds.specs.declared.constants.TheConstants.{MARGIN_TICKS}
use Rattle.dual_bounds.specs.Room.{audio_due, free_below, free_slots, is_within, room, serves}
use Rattle.dual_bounds.proofs.AudioDue.{audio_due-le}
use Rattle.dual_bounds.proofs.FreeSlots.{free_slots-is}
use Rattle.dual_bounds.proofs.Ranges.{count_below-rises}
use Rattle.impossible_proof.specs.Private.Scan.{IsSmall}

-- ---- times in a window
pub in_window : (from due time : ℕ) → from ≤ time → time ≤ due → is_within from due time ≡ true
in_window from due time low high = and_from (nat_le from time) (nat_le time due) (le-leb from time low) (le-leb time due high)

pub before_window : (from due time : ℕ) → time < from → is_within from due time ≡ false
before_window from due time low = and_left (nat_le from time) (nat_le time due) (lt-leb from time low)

pub behind_window : (from due time : ℕ) → due < time → is_within from due time ≡ false
behind_window from due time high = and_right (nat_le from time) (nat_le time due) (lt-leb time due high)

-- what is due in a window, and up to its beginning, is what is due up to its end, and at its beginning
one_part : (from due time amount : ℕ) → from ≤ due
    → cond (is_within from due time) amount 0 + cond (is_within 0 from time) amount 0 ≡ cond (is_within 0 due time) amount 0 + cond (is_within from from time) amount 0
one_part from due time amount order =
    elim (cases_lt time from) as (λ _. cond (is_within from due time) amount 0 + cond (is_within 0 from time) amount 0 ≡ cond (is_within 0 due time) amount 0 + cond
    (is_within from from time) amount 0) [
      | inl early ↦ rw (
        before_window from due time early,
        in_window 0 from time (omega arith) (omega arith),
        in_window 0 due time (omega arith) (omega arith),
        before_window from from time early,
      ) (omega arith)
      | inr later ↦ elim (cases_lt from time) as (λ _. cond (is_within from due time) amount 0 + cond (is_within 0 from time) amount 0 ≡ cond (is_within 0 due time) amount 0 + cond
          (is_within from from time) amount 0) [
            | inr same ↦ rw (
              in_window from due time later (omega arith),
              in_window 0 from time (omega arith) same,
              in_window 0 due time (omega arith) (omega arith),
              in_window from from time later same,
            ) refl
            | inl behind ↦ elim (cases_lt due time) as (λ _. cond (is_within from due time) amount 0 + cond (is_within 0 from time) amount 0 ≡ cond (is_within 0 due time) amount 0 + cond
                (is_within from from time) amount 0) [
                  | inr within ↦ rw (
                    in_window from due time later within,
                    behind_window 0 from time behind,
                    in_window 0 due time (omega arith) within,
                    behind_window from from time behind,
                  ) refl
                  | inl past ↦ rw (
                    behind_window from due time past,
                    behind_window 0 from time behind,
                    behind_window 0 due time past,
                    behind_window from from time behind,
                  ) refl
                ]
          ]
    ]

pub parts : {X : Type 0} (time amount : X → ℕ) (from due : ℕ) → from ≤ due → (xs : List X)
    → sum_by (λ x. cond (is_within from due (time x)) (amount x) 0) xs + sum_by (λ x. cond (is_within 0 from (time x)) (amount x) 0) xs
    ≡ sum_by (λ x. cond (is_within 0 due (time x)) (amount x) 0) xs + sum_by (λ x. cond (is_within from from (time x)) (amount x) 0) xs
parts time amount from due order [] = refl
parts time amount from due order (x ∷ xs) =
    omega (
      arith,
      sum_by-cons (λ x. cond (is_within from due (time x)) (amount x) 0) x xs,
      sum_by-cons (λ x. cond (is_within 0 from (time x)) (amount x) 0) x xs,
      sum_by-cons (λ x. cond (is_within 0 due (time x)) (amount x) 0) x xs,
      sum_by-cons (λ x. cond (is_within from from (time x)) (amount x) 0) x xs,
      one_part from due (time x) (amount x) order,
      parts time amount from due order xs,
    )

-- ---- audio packets
audio_parts : (table : Table) (from due : ℕ) → from ≤ due → audio_due table from due + audio_due table 0 from ≡ audio_due table 0 due + audio_due table from from
unfolding audio_due
audio_parts table from due order = parts (λ (packet : AudioPacket). packet.due) (λ packet. 1) from due order (audio_packets_of table)

-- ---- free slots
ceil_le : (x s q : ℕ) → 1 ≤ s → x ≤ q * s → div_ceil x s ≤ q
ceil_le x s q some upto =
    elim (cases_lt q (div_ceil x s)) as (λ _. div_ceil x s ≤ q) [
      | inr most ↦ most
      | inl above ↦ (let more : (q + 1) * s ≤ div_ceil x s * s = mul-le-mul_right s (omega arith) in
          let size : (q + 1) * s ≡ q * s + s = omega arith in
          let times = div_ceil_times x s (omega arith) in
          let below : div_ceil x s * s < x + s = times.1 in
          absurd (omega arith))
    ]

div_le : (x s q : ℕ) → 1 ≤ s → x ≤ q * s → x / s ≤ q
div_le x s q some upto =
    elim (cases_lt q (x / s)) as (λ _. x / s ≤ q) [
      | inr most ↦ most
      | inl above ↦ (let more : (q + 1) * s ≤ x / s * s = mul-le-mul_right s (omega arith) in
          let size : (q + 1) * s ≡ q * s + s = omega arith in
          let whole : x / s * s + x % s ≡ x = div-add-mod' x s in
          absurd (omega arith))
    ]

div_rises : (x y s : ℕ) → 1 ≤ s → x ≤ y → x / s ≤ y / s
div_rises x y s some order =
    let whole : x / s * s + x % s ≡ x = div-add-mod' x s in
    le-div (x / s) y s some (omega arith)

free_below-rises : (table : Table) (n m : ℕ) → n ≤ m → free_below table n ≤ free_below table m
unfolding free_below
free_below-rises table n m order =
    let size : n + (m - n) ≡ m = omega arith in
    let more = count_below-rises (λ k. is_none (reserved table.slot (length table.programs) k)) n (m - n) in
    omega (arith, more, ap (free_below table) size)

free_below_none : (table : Table) → free_below table 0 ≡ 0
unfolding free_below
free_below_none table = refl

-- the first slot of a window isn't behind the slot that ends by its beginning
begins_early : (time s : ℕ) → 1 ≤ s → s ≤ 40000 → div_ceil (time - HOLD_TICKS) s ≤ (time - MARGIN_TICKS) / s
begins_early time s some most =
    let y = time - MARGIN_TICKS in
    let whole : y / s * s + y % s ≡ y = div-add-mod' y s in
    let less : y % s < s = mod_below y s some in
    ceil_le (time - HOLD_TICKS) s (y / s) some (omega arith)

free_parts : (table : Table) → IsValidTable table → (from due : ℕ) → from ≤ due
    → free_slots table from due + free_slots table 0 from ≡ free_slots table 0 due + free_slots table from from
free_parts table valid from due order =
    let slot = table.slot in
    let some : 1 ≤ slot = omega (arith, valid.slot_least) in
    let most : slot ≤ 40000 = omega (arith, valid.slot_most) in
    let start : div_ceil (0 - HOLD_TICKS) slot ≤ 0 = ceil_le (0 - HOLD_TICKS) slot 0 some (omega arith) in
    let none : div_ceil (0 - HOLD_TICKS) slot ≡ 0 = omega arith in
    let first : free_below table (div_ceil (from - HOLD_TICKS) slot) ≤ free_below table ((from - MARGIN_TICKS) / slot) =
    free_below-rises table (div_ceil (from - HOLD_TICKS) slot) ((from - MARGIN_TICKS) / slot) (begins_early from slot some most) in
    let last : free_below table ((from - MARGIN_TICKS) / slot) ≤ free_below table ((due - MARGIN_TICKS) / slot) =
    free_below-rises table ((from - MARGIN_TICKS) / slot) ((due - MARGIN_TICKS) / slot) (div_rises (from - MARGIN_TICKS) (due - MARGIN_TICKS) slot some (omega arith)) in
    omega (
      arith,
      free_slots-is table from due some,
      free_slots-is table 0 from some,
      free_slots-is table 0 due some,
      free_slots-is table from from some,
      ap (free_below table) none,
      free_below_none table,
    )

-- the room of a window and that up to its beginning are that up to its end and that of its beginning alone
pub room_parts : (table : Table) → IsValidTable table → (from due : ℕ) → from ≤ due
    → (room table from due +ℤ room table 0 from) ≡ (room table 0 due +ℤ room table from from)
unfolding room
room_parts table valid from due order = omega (arith, ints, free_parts table valid from due order, audio_parts table from due order)

-- ---- rooms are numbers of few bits
free_slots_few : (table : Table) → IsValidTable table → (from due : ℕ) → due ≤ TIME_SLOTS_MOST * table.slot → free_slots table from due ≤ TIME_SLOTS_MOST
unfolding free_slots
free_slots_few table valid from due upto =
    omega (
      arith,
      count_by-le-length (serves table from due) (range_with_len 0 (due / table.slot)),
      length-range_with_len 0 (due / table.slot),
      div_le due table.slot TIME_SLOTS_MOST (omega (arith, valid.slot_least)) upto,
    )

-- less than the half of what is small
abbrev pub IsNarrow : ℤ → Type 0
IsNarrow n = (neg_ℤ (pos (2 ^ 38)) ≤ℤ n) × (n ≤ℤ pos (2 ^ 38))

pub room_narrow : (table : Table) → IsValidTable table → (from due : ℕ) → due ≤ TIME_SLOTS_MOST * table.slot → IsNarrow (room table from due)
unfolding room
room_narrow table valid from due upto =
    let free = free_slots_few table valid from due upto in
    let audio = audio_due-le table from due in
    (omega (arith, ints, valid.audio_packets), omega (arith, ints, valid.audio_packets))

pub room_small : (table : Table) → IsValidTable table → (from due : ℕ) → due ≤ TIME_SLOTS_MOST * table.slot → IsSmall (room table from due)
unfolding room
room_small table valid from due upto =
    let free = free_slots_few table valid from due upto in
    let audio = audio_due-le table from due in
    (omega (arith, ints, valid.audio_packets), omega (arith, ints, valid.audio_packets))

-- as the code holds them
pub small_as_held : (held n : ℤ) → held ≡ n → IsSmall n → IsSmall (to_z w64 (of_z w64 held))
small_as_held held n is small =
    let low = small.0 in
    let high = small.1 in
    (omega (arith, ints), omega (arith, ints))
