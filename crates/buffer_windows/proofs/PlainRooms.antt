-- The room of a window of time, taken as a window that counts no buffer: in bytes no more than its packets have.
use Rattle.std.proofs.Common.{◌≡◌, ℕ, zero, suc, ◌+◌, ◌-◌, ◌*◌, ◌/◌, ◌%◌, ◌^◌, ◌<◌, ◌≤◌, Bool, true, false, cond, not, nat_le, nat_lt, ◌==◌, ◌&&◌, ◌||◌, max, All, List, [], ◌∷◌, length, map, take, drop, filter, fold, count_by, sum_by, is_none, refl, sym, ap, ◌∙◌, inl, inr, lt-ltb, eq-eqb, add-zero, lt_of_lt_of_le, div-le_self, length-take, length-drop, div-add-mod', div-mul-le_self, mod-lt, mul-le-mul_right, suc-mul, arith}
use Rattle.std.specs.List.{enumerate_from, flat_map, list_any, range_with_len}
use Rattle.std.specs.Int.{div_ceil}
use Rattle.std.proofs.lemmas.Bool.{cases_Bool, cases_lt, and_parts, and_from, and_right, cond-false, or_parts, or_left, or_right, le-leb, leb-true, lt-leb, le-ltb, ltb-true, not-true, ne_eqb, false≢true, false_from_ne_true}
use Rattle.std.proofs.lemmas.Nat.{le-div}
use Rattle.std.proofs.lemmas.List.Elements.{All-cons, All-head, All-tail, All-take, All-weaker}
use Rattle.std.proofs.lemmas.List.Sums.{sum_by-cons, sum_by-append, sum_by_push, sum_by-take-drop, count_by-le-length}
use Rattle.stream_constants.specs.declared.decoder.TheConstants.{AUDIO_BYTES, EB_UNIT_BYTES, HOLD_TICKS}
use Rattle.version_table.specs.declared.table.AudioPacket.{AudioPacket}
use Rattle.version_table.specs.declared.table.ProgramRow.{ProgramRow}
use Rattle.version_table.specs.declared.table.Table.{Table}
use Rattle.version_table.specs.Table.{IsValidAudio, IsValidPacket, IsValidProgram, IsValidTable}
use Rattle.slot_rule.specs.Timetable.{reserved}
use Rattle.dual_bounds.specs.declared.constants.TheConstants.{MARGIN_TICKS}
use Rattle.dual_bounds.specs.declared.windows.Window.{Window}
use Rattle.dual_bounds.specs.Room.{audio_due, is_within, serves, free_slots as free_slots_of_time}
use Rattle.dual_bounds.proofs.Ranges.{count_below, count_below-more, count_below-within, range_more}
use Rattle.buffer_windows.specs.Room.{audio_slots, buffer_bytes, counted_eb_bytes as eb_bytes, fit_before, free_window_slots as free_slots, is_counted, last_due, mb_bytes, slots_taken}
use Rattle.buffer_windows.specs.Windows.{latest, stop, without_buffers}
use Rattle.buffer_windows.proofs.Rows.{is_free}

-- ---- the first slot
-- it begins no earlier than a second before the window, and the slot before it does
pub ceil_upto : (x y : ℕ) → 0 < y → x ≤ div_ceil x y * y
ceil_upto x y some =
    let whole : x / y * y + x % y ≡ x = div-add-mod' x y in
    let left : x % y < y = mod-lt x some in
    elim (cases_lt 0 (x % y)) as (λ _. x ≤ div_ceil x y * y) [
      | inl more ↦
          (let up : div_ceil x y ≡ suc (x / y) = omega arith in
          let product : div_ceil x y * y ≡ suc (x / y) * y = ap (λ n. n * y) up in
          omega (arith, product, suc-mul (x / y) y))
      | inr none ↦
          (let even : div_ceil x y ≡ x / y = omega arith in
          let product : div_ceil x y * y ≡ x / y * y = ap (λ n. n * y) even in
          omega (arith, product))
    ]

pub ceil_below : (x y : ℕ) → 0 < y → 0 < div_ceil x y → (div_ceil x y - 1) * y < x
ceil_below x y some more =
    let whole : x / y * y + x % y ≡ x = div-add-mod' x y in
    elim (cases_lt 0 (x % y)) as (λ _. (div_ceil x y - 1) * y < x) [
      | inl over ↦
          (let down : div_ceil x y - 1 ≡ x / y = omega arith in
          let product : (div_ceil x y - 1) * y ≡ x / y * y = ap (λ n. n * y) down in
          omega (arith, product))
      | inr none ↦
          (let down : suc (div_ceil x y - 1) ≡ x / y = omega arith in
          let product : suc (div_ceil x y - 1) * y ≡ x / y * y = ap (λ n. n * y) down in
          omega (arith, product, suc-mul (div_ceil x y - 1) y))
    ]

-- ---- free slots
one_at_most : (p q : Bool) → (p ≡ true → q ≡ true) → cond p 1 0 ≤ cond q 1 0
one_at_most false q gives = omega arith
one_at_most true q gives = omega (arith, ap {B = ℕ} (λ b. cond b 1 0) (gives refl))

count_from : (p q : ℕ → Bool) (m k : ℕ) → ((n : ℕ) → m ≤ n → n < m + k → p n ≡ true → q n ≡ true)
    → count_by p (range_with_len m k) + count_below q m ≤ count_below q (m + k)
count_from p q m zero gives = omega (arith, ap (count_below q) (add-zero m))
count_from p q m (suc k) gives =
    let next : (m + 1) + k ≡ m + suc k = omega arith in
    let one : suc m ≡ m + 1 = omega arith in
    omega (
      arith,
      sum_by-cons (λ n. cond (p n) 1 0) m (range_with_len (m + 1) k),
      count_below-more q m,
      ap (count_below q) one,
      ap (count_below q) next,
      one_at_most (p m) (q m) (gives m (omega arith) (omega arith)),
      count_from p q (m + 1) k (λ n low high passes. gives n (omega arith) (omega arith) passes),
    )

serves_below : (table : Table) → 0 < table.slot → (from due n : ℕ) → serves table from due n ≡ true → n < due / table.slot
unfolding serves
serves_below table some from due n serve =
    let is_open = is_none (reserved table.slot (length table.programs) n) in
    let begins = nat_le from (n * table.slot + HOLD_TICKS) in
    let in_time = nat_le ((n + 1) * table.slot + MARGIN_TICKS) due in
    let ends : (n + 1) * table.slot + MARGIN_TICKS ≤ due = leb-true ((n + 1) * table.slot + MARGIN_TICKS) due (and_parts (is_open && begins) in_time serve).1 in
    let below : n + 1 ≤ due / table.slot = le-div (n + 1) due table.slot some (omega arith) in
    omega arith

inside_serves : (table : Table) (window : Window) (n : ℕ) → 0 < table.slot → (without_buffers table.slot window).first ≤ n → n < stop table.slot window.due → is_free table n ≡ true
    → serves table window.from window.due n ≡ true
unfolding serves
inside_serves table window n some low high free =
    let m = div_ceil (window.from - HOLD_TICKS) table.slot in
    let start : window.from - HOLD_TICKS ≤ div_ceil (window.from - HOLD_TICKS) table.slot * table.slot = ceil_upto (window.from - HOLD_TICKS) table.slot some in
    let later : div_ceil (window.from - HOLD_TICKS) table.slot * table.slot ≤ n * table.slot = mul-le-mul_right table.slot low in
    let ends : (n + 1) * table.slot ≤ (window.due - MARGIN_TICKS) / table.slot * table.slot = mul-le-mul_right table.slot (omega arith) in
    let whole : (window.due - MARGIN_TICKS) / table.slot * table.slot ≤ window.due - MARGIN_TICKS = div-mul-le_self (window.due - MARGIN_TICKS) table.slot in
    let lasts : (n + 1) * table.slot ≡ n * table.slot + table.slot = (let turn : n + 1 ≡ suc n = omega arith in ap (λ k. k * table.slot) turn ∙ suc-mul n table.slot) in
    let begins = nat_le window.from (n * table.slot + HOLD_TICKS) in
    let in_time = nat_le ((n + 1) * table.slot + MARGIN_TICKS) window.due in
    and_from (is_free table n && begins) in_time
    (and_from (is_free table n) begins free (le-leb window.from (n * table.slot + HOLD_TICKS) (omega arith)))
    (le-leb ((n + 1) * table.slot + MARGIN_TICKS) window.due (omega arith))

pub free_le : (table : Table) (window : Window) → 0 < table.slot → free_slots table (without_buffers table.slot window) ≤ free_slots_of_time table window.from window.due
unfolding free_slots free_slots_of_time
free_le table window some =
    let bw = without_buffers table.slot window in
    let wide = (without_buffers table.slot window).tail - (without_buffers table.slot window).first in
    omega (
      arith,
      count_from (is_free table) (serves table window.from window.due) bw.first ((without_buffers table.slot window).tail - (without_buffers table.slot window).first)
          (λ n low high free. inside_serves table window n some low (omega arith) free),
      count_below-within (serves table window.from window.due) (window.due / table.slot) (serves_below table some window.from window.due)
          ((without_buffers table.slot window).first + ((without_buffers table.slot window).tail - (without_buffers table.slot window).first)),
    )

-- ---- audio
-- a later due time has no fewer slots
pub stops_rise : (slot early late : ℕ) → 0 < slot → early ≤ late → stop slot early ≤ stop slot late
stops_rise slot early late some le =
    let whole : (early - MARGIN_TICKS) / slot * slot ≤ early - MARGIN_TICKS = div-mul-le_self (early - MARGIN_TICKS) slot in
    le-div ((early - MARGIN_TICKS) / slot) (late - MARGIN_TICKS) slot some (omega arith)

-- a packet that is due in the window is counted, and can't go before its first slot
within_counted : (slot : ℕ) (window : Window) (packet : AudioPacket) → 0 < slot → slot ≤ HOLD_TICKS → is_within window.from window.due packet.due ≡ true
    → is_counted slot (without_buffers slot window) packet ≡ true
within_counted slot window packet some short within =
    let bw = without_buffers slot window in
    let ends = and_parts (nat_le window.from packet.due) (nat_le packet.due window.due) within in
    let low : window.from ≤ packet.due = leb-true window.from packet.due ends.0 in
    let high : packet.due ≤ window.due = leb-true packet.due window.due ends.1 in
    let tail : stop slot packet.due ≤ bw.tail = omega (arith, stops_rise slot packet.due window.due some high) in
    and_from (nat_le packet.due bw.due && nat_le (stop slot packet.due) bw.tail) ((bw.first == 0) || nat_lt (bw.first * slot) packet.due)
    (and_from (nat_le packet.due bw.due) (nat_le (stop slot packet.due) bw.tail) ends.1 (le-leb (stop slot packet.due) bw.tail tail))
    (elim (cases_lt 0 bw.first) as (λ _. ((bw.first == 0) || nat_lt (bw.first * slot) packet.due) ≡ true) [
      | inl later ↦ or_right (bw.first == 0) (nat_lt (bw.first * slot) packet.due) (lt-ltb (bw.first * slot) packet.due (begun slot window.from packet.due some short later low))
      | inr start ↦ or_left (bw.first == 0) (nat_lt (bw.first * slot) packet.due) (eq-eqb bw.first 0 (omega arith))
    ])
  where
    begun : (slot from due : ℕ) → 0 < slot → slot ≤ HOLD_TICKS → 0 < div_ceil (from - HOLD_TICKS) slot → from ≤ due → div_ceil (from - HOLD_TICKS) slot * slot < due
    begun slot from due some short later low =
        let before : (div_ceil (from - HOLD_TICKS) slot - 1) * slot < from - HOLD_TICKS = ceil_below (from - HOLD_TICKS) slot some later in
        let turn : div_ceil (from - HOLD_TICKS) slot ≡ suc (div_ceil (from - HOLD_TICKS) slot - 1) = omega arith in
        let product : div_ceil (from - HOLD_TICKS) slot * slot ≡ suc (div_ceil (from - HOLD_TICKS) slot - 1) * slot = ap (λ n. n * slot) turn in
        omega (arith, product, suc-mul (div_ceil (from - HOLD_TICKS) slot - 1) slot)

-- what is due in the window is gone later than anything that goes before its first slot
pub fresh_from : (slot : ℕ) (window : Window) (time : ℕ) → 0 < slot → 0 < (without_buffers slot window).first → window.from ≤ time → latest slot (without_buffers slot window) < time
fresh_from slot window time some later low =
    let before : (div_ceil (window.from - HOLD_TICKS) slot - 1) * slot < window.from - HOLD_TICKS = ceil_below (window.from - HOLD_TICKS) slot some later in
    omega arith

-- the greatest of the numbers up to n that passes is at least as many as pass
last_passing : (p : ℕ → Bool) (n : ℕ) → (k : ℕ) × (k ≤ n) × (count_by p (range_with_len 1 n) ≤ k) × (0 < k → p k ≡ true)
last_passing p zero = (0, omega arith, omega arith, λ some. absurd (omega arith))
last_passing p (suc n) =
    let before = last_passing p n in
    let more : count_by p (range_with_len 1 (suc n)) ≡ count_by p (range_with_len 1 n) + cond (p (1 + n)) 1 0 =
    ap (count_by p) (range_more 1 n) ∙ sum_by_push (λ k. cond (p k) 1 0) (range_with_len 1 n) (1 + n) in
    elim (cases_Bool (p (1 + n))) as (λ _. (k : ℕ) × (k ≤ suc n) × (count_by p (range_with_len 1 (suc n)) ≤ k) × (0 < k → p k ≡ true)) [
      | inl yes_is ↦ (1 + n, omega arith, omega (arith, more, ap {B = ℕ} (λ b. cond b 1 0) yes_is, before.1, before.2), λ some. yes_is)
      | inr no_is ↦ (before.0, omega (arith, before.1), omega (arith, more, ap {B = ℕ} (λ b. cond b 1 0) no_is, before.2), before.3)
    ]

-- none of the packets that can go before the first slot is due in the window
none_within : (slot : ℕ) (window : Window) (packets : List AudioPacket) → 0 < slot → 0 < (without_buffers slot window).first → All (λ packet. packet.due ≤ packet.gone) packets
    → list_any (λ packet. nat_lt (latest slot (without_buffers slot window)) packet.gone) packets ≡ false
    → count_by (λ packet. is_within window.from window.due packet.due) packets ≡ 0
none_within slot window [] some later dues none = refl
none_within slot window (packet ∷ packets) some later dues none =
    let parts = or_parts (nat_lt (latest slot (without_buffers slot window)) packet.gone) (list_any (λ p. nat_lt (latest slot (without_buffers slot window)) p.gone) packets) none in
    let due : packet.due ≤ packet.gone = All-head (λ (p : AudioPacket). p.due ≤ p.gone) packet packets dues in
    let out : is_within window.from window.due packet.due ≡ false =
    false_from_ne_true (is_within window.from window.due packet.due)
    (λ e. (let low : window.from ≤ packet.due = leb-true window.from packet.due (and_parts (nat_le window.from packet.due) (nat_le packet.due window.due) e).0 in
    let after : latest slot (without_buffers slot window) < packet.gone = lt_of_lt_of_le (fresh_from slot window packet.due some later low) due in
    false≢true (sym parts.0 ∙ lt-ltb (latest slot (without_buffers slot window)) packet.gone after))) in
    omega (
      arith,
      sum_by-cons (λ (p : AudioPacket). cond (is_within window.from window.due p.due) 1 0) packet packets,
      ap {B = ℕ} (λ b. cond b 1 0) out,
      none_within slot window packets some later (All-tail (λ (p : AudioPacket). p.due ≤ p.gone) packet packets dues) parts.1,
    )

-- what is due in the window is among what is counted
within_kept : (slot : ℕ) (window : Window) (packets : List AudioPacket) → 0 < slot → slot ≤ HOLD_TICKS
    → count_by (λ packet. is_within window.from window.due packet.due) packets
    ≤ count_by (λ packet. is_within window.from window.due packet.due) (filter (is_counted slot (without_buffers slot window)) packets)
within_kept slot window [] some short = omega arith
within_kept slot window (packet ∷ packets) some short =
    let rest = within_kept slot window packets some short in
    let test : AudioPacket → Bool = λ p. is_within window.from window.due p.due in
    let counted = is_counted slot (without_buffers slot window) in
    elim (cases_Bool (is_counted slot (without_buffers slot window) packet))
    as (λ _. count_by (λ p. is_within window.from window.due p.due) (packet ∷ packets)
    ≤ count_by (λ p. is_within window.from window.due p.due) (filter (is_counted slot (without_buffers slot window)) (packet ∷ packets))) [
      | inl yes_is ↦ rw yes_is
          (omega (
            arith,
            rest,
            sum_by-cons (λ (p : AudioPacket). cond (is_within window.from window.due p.due) 1 0) packet packets,
            sum_by-cons (λ (p : AudioPacket). cond (is_within window.from window.due p.due) 1 0) packet (filter (is_counted slot (without_buffers slot window)) packets),
          ))
      | inr no_is ↦
          (let out : is_within window.from window.due packet.due ≡ false =
          false_from_ne_true (is_within window.from window.due packet.due) (λ e. false≢true (sym no_is ∙ within_counted slot window packet some short e)) in
          rw no_is
          (omega (
            arith,
            rest,
            sum_by-cons (λ (p : AudioPacket). cond (is_within window.from window.due p.due) 1 0) packet packets,
            ap {B = ℕ} (λ b. cond b 1 0) out,
          )))
    ]

All-filter : (P : AudioPacket → Type 0) (test : AudioPacket → Bool) (packets : List AudioPacket) → All P packets → All P (filter test packets)
All-filter P test [] each = each
All-filter P test (packet ∷ packets) each = elim (cases_Bool (test packet)) as (λ _. All P (filter test (packet ∷ packets))) [
  | inl yes_is ↦ rw yes_is (All-cons P packet (filter test packets) (All-head P packet packets each) (All-filter P test packets (All-tail P packet packets each)))
  | inr no_is ↦ rw no_is (All-filter P test packets (All-tail P packet packets each))
]

-- an audio stream takes a slot for each packet that is due in the window, at least
stream_le : (slot : ℕ) (window : Window) (packets : List AudioPacket) → 0 < slot → slot ≤ HOLD_TICKS → IsValidAudio slot packets
    → count_by (λ packet. is_within window.from window.due packet.due) packets ≤ slots_taken slot (without_buffers slot window) packets
stream_le slot window packets some short valid =
    let bw = without_buffers slot window in
    let counted = filter (is_counted slot (without_buffers slot window)) packets in
    let test : AudioPacket → Bool = λ p. is_within window.from window.due p.due in
    let last = last_passing (λ n. fit_before slot (without_buffers slot window) (take n (filter (is_counted slot (without_buffers slot window)) packets))) (length counted) in
    let dues : All (λ packet. packet.due ≤ packet.gone) (filter (is_counted slot (without_buffers slot window)) packets) =
    All-filter (λ packet. packet.due ≤ packet.gone) (is_counted slot bw) packets (All-weaker (IsValidPacket slot) (λ packet. packet.due ≤ packet.gone) (λ packet h. h.due) packets valid.each) in
    let split : count_by (λ (p : AudioPacket). is_within window.from window.due p.due) (take last.0 (filter (is_counted slot (without_buffers slot window)) packets))
    + count_by (λ (p : AudioPacket). is_within window.from window.due p.due) (drop last.0 (filter (is_counted slot (without_buffers slot window)) packets))
    ≡ count_by (λ (p : AudioPacket). is_within window.from window.due p.due) (filter (is_counted slot (without_buffers slot window)) packets) =
    sum_by-take-drop (λ (p : AudioPacket). cond (is_within window.from window.due p.due) 1 0) counted last.0 in
    let behind : count_by (λ (p : AudioPacket). is_within window.from window.due p.due) (drop last.0 (filter (is_counted slot (without_buffers slot window)) packets)) ≤ length counted - last.0 =
    omega (arith, count_by-le-length (λ (p : AudioPacket). is_within window.from window.due p.due) (drop last.0 counted), length-drop last.0 counted) in
    let before : count_by (λ (p : AudioPacket). is_within window.from window.due p.due) (take last.0 (filter (is_counted slot (without_buffers slot window)) packets)) ≤ 0 =
    elim (cases_lt 0 last.0) as (λ _. count_by (λ (p : AudioPacket). is_within window.from window.due p.due) (take last.0 (filter (is_counted slot (without_buffers slot window)) packets)) ≤ 0) [
      | inl more ↦
          (let front = take last.0 counted in
          let late = list_any (λ (p : AudioPacket). nat_lt (latest slot bw) p.gone) front in
          let few = nat_le (sum_by (λ (p : AudioPacket). p.bytes) front) AUDIO_BYTES in
          let parts = and_parts (nat_lt 0 bw.first && not late) few (last.3 more) in
          let two = and_parts (nat_lt 0 bw.first) (not late) parts.0 in
          omega (
            arith,
            none_within slot window front some (ltb-true 0 bw.first two.0) (All-take (λ (packet : AudioPacket). packet.due ≤ packet.gone) last.0 counted dues) (not-true late two.1),
          ))
      | inr none ↦ omega (arith, count_by-le-length (λ (p : AudioPacket). is_within window.from window.due p.due) (take last.0 counted), length_of_take last.0 counted none)
    ] in
    omega (arith, within_kept slot window packets some short, split, behind, before, last.2, last.1)
  where
    length_of_take : (n : ℕ) (list : List AudioPacket) → n ≤ 0 → length (take n list) ≤ 0
    length_of_take n list none = rw length-take (omega arith)

streams_le : (slot : ℕ) (window : Window) (audios : List (List AudioPacket)) → 0 < slot → slot ≤ HOLD_TICKS → All (IsValidAudio slot) audios
    → count_by (λ packet. is_within window.from window.due packet.due) (flat_map (λ packets. packets) audios) ≤ sum_by (slots_taken slot (without_buffers slot window)) audios
streams_le slot window [] some short valid = omega arith
streams_le slot window (packets ∷ audios) some short valid =
    omega (
      arith,
      sum_by-append (λ (p : AudioPacket). cond (is_within window.from window.due p.due) 1 0) packets (flat_map (λ (more : List AudioPacket). more) audios),
      sum_by-cons (slots_taken slot (without_buffers slot window)) packets audios,
      stream_le slot window packets some short (All-head (IsValidAudio slot) packets audios valid),
      streams_le slot window audios some short (All-tail (IsValidAudio slot) packets audios valid),
    )

programs_le : (slot : ℕ) (window : Window) (programs : List ProgramRow) → 0 < slot → slot ≤ HOLD_TICKS → All (IsValidProgram slot) programs
    → count_by (λ packet. is_within window.from window.due packet.due) (flat_map (λ program. flat_map (λ packets. packets) program.audios) programs)
    ≤ sum_by (slots_taken slot (without_buffers slot window)) (flat_map (λ program. program.audios) programs)
programs_le slot window [] some short valid = omega arith
programs_le slot window (row ∷ programs) some short valid =
    omega (
      arith,
      sum_by-append (λ (p : AudioPacket). cond (is_within window.from window.due p.due) 1 0) (flat_map (λ (packets : List AudioPacket). packets) row.audios)
          (flat_map (λ (r : ProgramRow). flat_map (λ (packets : List AudioPacket). packets) r.audios) programs),
      sum_by-append (slots_taken slot (without_buffers slot window)) row.audios (flat_map (λ (r : ProgramRow). r.audios) programs),
      streams_le slot window row.audios some short (All-head (IsValidProgram slot) row programs valid).audios,
      programs_le slot window programs some short (All-tail (IsValidProgram slot) row programs valid),
    )

pub audio_le : (table : Table) (window : Window) → IsValidTable table → audio_due table window.from window.due ≤ audio_slots table (without_buffers table.slot window)
unfolding audio_due audio_slots
audio_le table window valid = programs_le table.slot window table.programs (omega (arith, valid.slot_least)) (omega (arith, valid.slot_most)) valid.programs

-- ---- buffers
fold_max-within : (from most : ℕ) (numbers : List ℕ) → from ≤ most → fold max from (filter (λ n. nat_le n most) numbers) ≤ most
fold_max-within from most [] le = le
fold_max-within from most (n ∷ numbers) le = elim (cases_lt most n) as (λ _. fold max from (filter (λ n. nat_le n most) (n ∷ numbers)) ≤ most) [
  | inl above ↦ rw (lt-leb n most above) (fold_max-within from most numbers le)
  | inr below ↦ rw (le-leb n most below) (fold_max-within (max from n) most numbers (omega arith))
]

no_eb : (first : ℕ) (program : ℕ) (most : ℕ) → cond (nat_lt 0 first && ((0 / 2 ^ program) % 2 == 1)) most 0 ≡ 0
no_eb first program most =
    let none : ((0 / 2 ^ program) % 2 == 1) ≡ false = ne_eqb ((0 / 2 ^ program) % 2) 1 (λ e. absurd (omega (arith, div-le_self 0 (2 ^ program)))) in
    cond-false (nat_lt 0 first && ((0 / 2 ^ program) % 2 == 1)) most 0 (and_right (nat_lt 0 first) ((0 / 2 ^ program) % 2 == 1) none)

no_mb : (slot : ℕ) (window : Window) (row : ProgramRow) → 0 < slot → mb_bytes slot (without_buffers slot window) row ≡ 0
no_mb slot window row some =
    let due = last_due (without_buffers slot window) row in
    let upto : last_due (without_buffers slot window) row ≤ window.due = fold_max-within 0 window.due (map (λ unit. unit.due) row.units) (omega arith) in
    let whole : (last_due (without_buffers slot window) row - MARGIN_TICKS) / slot * slot ≤ last_due (without_buffers slot window) row - MARGIN_TICKS = div-mul-le_self (due - MARGIN_TICKS) slot in
    let stops : stop slot (last_due (without_buffers slot window) row) ≤ stop slot window.due =
    le-div ((last_due (without_buffers slot window) row - MARGIN_TICKS) / slot) (window.due - MARGIN_TICKS) slot some (omega arith) in
    rw (le-ltb (without_buffers slot window).tail (stop slot (last_due (without_buffers slot window) row)) (omega arith)) refl

no_buffers : (slot : ℕ) (window : Window) (program : ℕ) (programs : List ProgramRow) → 0 < slot
    → sum_by (λ (number, row). eb_bytes (without_buffers slot window) number row + mb_bytes slot (without_buffers slot window) row) (enumerate_from program programs) ≡ 0
no_buffers slot window program [] some = refl
no_buffers slot window program (row ∷ programs) some =
    omega (
      arith,
      sum_by-cons (λ (x : ℕ × ProgramRow). eb_bytes (without_buffers slot window) x.0 x.1 + mb_bytes slot (without_buffers slot window) x.1) (program, row) (enumerate_from (program + 1) programs),
      no_eb (without_buffers slot window).first program (EB_UNIT_BYTES * row.vbv),
      no_mb slot window row some,
      no_buffers slot window (program + 1) programs some,
    )

pub buffers_none : (table : Table) (window : Window) → 0 < table.slot → buffer_bytes table (without_buffers table.slot window) ≡ 0
unfolding buffer_bytes
buffers_none table window some = no_buffers table.slot window 0 table.programs some
