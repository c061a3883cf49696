-- How many packets of an audio stream can go before a window's first slot: no more than its longest front that fits there.
use Rattle.std.proofs.Common.{◌≡◌, ℕ, zero, suc, ◌+◌, ◌*◌, ◌<◌, ◌≤◌, Bool, true, false, cond, not, nat_le, nat_lt, ne_eqb, ◌==◌, ◌&&◌, ◌||◌, All, List, [], ◌∷◌, ◌++◌, length, take, drop, filter, sum_by, count_by, refl, sym, ap, ◌∙◌, inl, inr, lt-ltb, arith}
use Rattle.std.specs.List.{list_any, range_with_len}
use Rattle.std.proofs.lemmas.Bool.{cases_Bool, and_parts, and_from, or_from, le-leb, ltb-true, false≢true, not_from_false}
use Rattle.std.proofs.lemmas.List.{length-append, take-append-drop, take-append-le}
use Rattle.std.proofs.lemmas.List.Elements.{All-head, All-tail, All-take, filter-append}
use Rattle.std.proofs.lemmas.List.Sums.{sum_by-cons, sum_by-take-le, length-filter}
use Rattle.stream_constants.specs.declared.decoder.TheConstants.{AUDIO_BYTES}
use Rattle.version_table.specs.declared.table.AudioPacket.{AudioPacket}
use Rattle.buffer_windows.specs.declared.windows.BufferWindow.{BufferWindow}
use Rattle.buffer_windows.specs.Room.{fit_before, is_counted, longest_before}
use Rattle.buffer_windows.specs.Windows.{latest, stop}
use Rattle.buffer_windows.proofs.Rows.{count_more}

-- the packet is gone later than anything that goes before the window's first slot
abbrev pub is_late : (slot : ℕ) → BufferWindow → AudioPacket → Bool
is_late slot window packet = nat_lt (latest slot window) packet.gone

abbrev bytes_of : AudioPacket → ℕ
bytes_of packet = packet.bytes

-- the packet's bytes, where it is gone later than a time
abbrev pub bytes_after : (time : ℕ) → AudioPacket → ℕ
bytes_after time packet = cond (nat_lt time packet.gone) packet.bytes 0

-- ---- sums over what passes a test
pub none_any : {X : Type 0} (test : X → Bool) (xs : List X) → count_by test xs ≡ 0 → list_any test xs ≡ false
none_any test [] none = refl
none_any test (x ∷ xs) none = elim (cases_Bool (test x)) as (λ _. list_any test (x ∷ xs) ≡ false) [
  | inl yes_is ↦ absurd (omega (arith, sum_by-cons (λ y. cond (test y) 1 0) x xs, ap {B = ℕ} (λ b. cond b 1 0) yes_is))
  | inr no_is ↦ rw no_is (none_any test xs (omega (arith, sum_by-cons (λ y. cond (test y) 1 0) x xs)))
]

filter-sum-le : {X : Type 0} (test : X → Bool) (f : X → ℕ) (xs : List X) → sum_by f (filter test xs) ≤ sum_by f xs
filter-sum-le test f [] = omega arith
filter-sum-le test f (x ∷ xs) = elim (cases_Bool (test x)) as (λ _. sum_by f (filter test (x ∷ xs)) ≤ sum_by f (x ∷ xs)) [
  | inl yes_is ↦ rw yes_is (omega (arith, sum_by-cons f x (filter test xs), sum_by-cons f x xs, filter-sum-le test f xs))
  | inr no_is ↦ rw no_is (omega (arith, sum_by-cons f x xs, filter-sum-le test f xs))
]

-- a counted packet is gone after the first slot begins
counted_after : (slot : ℕ) (window : BufferWindow) (packet : AudioPacket) → 0 < window.first → packet.due ≤ packet.gone → is_counted slot window packet ≡ true
    → window.first * slot < packet.gone
counted_after slot window packet some due counted =
    let parts = and_parts (nat_le packet.due window.due && nat_le (stop slot packet.due) window.tail) ((window.first == 0) || nat_lt (window.first * slot) packet.due) counted in
    elim (cases_Bool (nat_lt (window.first * slot) packet.due)) as (λ _. window.first * slot < packet.gone) [
      | inl after ↦ omega (arith, ltb-true (window.first * slot) packet.due after)
      | inr before ↦ absurd (neither (window.first) (nat_lt (window.first * slot) packet.due) some parts.1 before)
    ]
  where
    neither : (first : ℕ) (after : Bool) → 0 < first → ((first == 0) || after) ≡ true → after ≡ false → ⊥
    neither first after some either no_is = false≢true (sym (or_from (first == 0) after (ne_eqb first 0 (λ e. absurd (omega arith))) no_is) ∙ either)

counted_bytes : (slot : ℕ) (window : BufferWindow) (packets : List AudioPacket) → 0 < window.first → All (λ packet. packet.due ≤ packet.gone) packets
    → sum_by bytes_of (filter (is_counted slot window) packets) ≤ sum_by (bytes_after (window.first * slot)) packets
counted_bytes slot window [] some dues = omega arith
counted_bytes slot window (packet ∷ packets) some dues =
    let D : AudioPacket → Type 0 = λ packet. packet.due ≤ packet.gone in
    let rest : sum_by bytes_of (filter (is_counted slot window) packets) ≤ sum_by (bytes_after (window.first * slot)) packets = counted_bytes slot window packets some
    (All-tail (λ (packet : AudioPacket). packet.due ≤ packet.gone) packet packets dues) in
    elim (cases_Bool (is_counted slot window packet)) as (λ _. sum_by bytes_of (filter (is_counted slot window) (packet ∷ packets)) ≤ sum_by (bytes_after (window.first * slot)) (packet ∷ packets)) [
      | inl counted ↦
          (let after : window.first * slot < packet.gone = counted_after slot window packet some (All-head (λ (packet : AudioPacket). packet.due ≤ packet.gone) packet packets dues) counted in
          let own : bytes_after (window.first * slot) packet ≡ packet.bytes = rw (lt-ltb (window.first * slot) packet.gone after) refl in
          rw counted
          (omega (
            arith,
            sum_by-cons bytes_of packet (filter (is_counted slot window) packets),
            sum_by-cons (bytes_after (window.first * slot)) packet packets,
            own,
            rest,
          )))
      | inr other ↦ rw other (omega (arith, sum_by-cons (bytes_after (window.first * slot)) packet packets, rest))
    ]

-- ---- fronts
-- what fits before the first slot: each of its fronts does
pub fits_there : (slot : ℕ) (window : BufferWindow) (packets : List AudioPacket) (n : ℕ) → 0 < window.first → count_by (is_late slot window) packets ≡ 0
    → sum_by bytes_of packets ≤ AUDIO_BYTES → fit_before slot window (take n packets) ≡ true
fits_there slot window packets n some none few =
    let early : count_by (is_late slot window) (take n packets) ≡ 0 =
    omega (arith, none, sum_by-take-le (λ (p : AudioPacket). cond (is_late slot window p) 1 0) packets n) in
    let bytes : sum_by bytes_of (take n packets) ≤ AUDIO_BYTES = omega (arith, few, sum_by-take-le bytes_of packets n) in
    and_from (nat_lt 0 window.first && not (list_any (is_late slot window) (take n packets))) (nat_le (sum_by bytes_of (take n packets)) AUDIO_BYTES)
    (and_from (nat_lt 0 window.first) (not (list_any (is_late slot window) (take n packets))) (lt-ltb 0 window.first some)
    (not_from_false (list_any (is_late slot window) (take n packets)) (none_any (is_late slot window) (take n packets) early)))
    (le-leb (sum_by bytes_of (take n packets)) AUDIO_BYTES bytes)

-- numbers that all pass
count_all : (p : ℕ → Bool) (from n : ℕ) → ((k : ℕ) → from ≤ k → k < from + n → p k ≡ true) → count_by p (range_with_len from n) ≡ n
count_all p from zero pass = refl
count_all p from (suc n) pass =
    let here : cond (p from) 1 0 ≡ 1 = ap {B = ℕ} (λ b. cond b 1 0) (pass from (omega arith) (omega arith)) in
    omega (
      arith,
      sum_by-cons (λ k. cond (p k) 1 0) from (range_with_len (from + 1) n),
      here,
      count_all p (from + 1) n (λ k low high. pass k (omega arith) (omega arith)),
    )

-- where the first packets of an audio stream fit before the first slot, as many of them are counted as the longest front has, at most
pub front_fits : (slot : ℕ) (window : BufferWindow) (packets : List AudioPacket) (k : ℕ) → 0 < window.first → All (λ packet. packet.due ≤ packet.gone) packets
    → count_by (is_late slot window) (take k packets) ≡ 0 → sum_by (bytes_after (window.first * slot)) (take k packets) ≤ AUDIO_BYTES
    → count_by (is_counted slot window) (take k packets) ≤ longest_before slot window (filter (is_counted slot window) packets)
front_fits slot window packets k some dues none few =
    let front = filter (is_counted slot window) (take k packets) in
    let rest = filter (is_counted slot window) (drop k packets) in
    let counted = filter (is_counted slot window) packets in
    let split : filter (is_counted slot window) packets ≡ filter (is_counted slot window) (take k packets) ++ filter (is_counted slot window) (drop k packets) =
    ap (filter (is_counted slot window)) (sym (take-append-drop k packets)) ∙ filter-append (is_counted slot window) (take k packets) (drop k packets) in
    let size : length counted ≡ length front + length rest = ap length split ∙ length-append front rest in
    let none' : count_by (is_late slot window) front ≡ 0 =
    omega (arith, none, filter-sum-le (is_counted slot window) (λ (p : AudioPacket). cond (is_late slot window p) 1 0) (take k packets)) in
    let few' : sum_by bytes_of front ≤ AUDIO_BYTES =
    omega (arith, few, counted_bytes slot window (take k packets) some (All-take (λ (packet : AudioPacket). packet.due ≤ packet.gone) k packets dues)) in
    let each : (n : ℕ) → 1 ≤ n → n < 1 + length (filter (is_counted slot window) (take k packets)) → fit_before slot window (take n (filter (is_counted slot window) packets)) ≡ true =
    λ n low high. ap (λ (list : List AudioPacket). fit_before slot window (take n list)) split
    ∙ ap (fit_before slot window) (take-append-le n (filter (is_counted slot window) (take k packets)) (filter (is_counted slot window) (drop k packets)) (omega arith))
    ∙ fits_there slot window (filter (is_counted slot window) (take k packets)) n some none' few' in
    omega (
      arith,
      length-filter (is_counted slot window) (take k packets),
      count_all (λ n. fit_before slot window (take n (filter (is_counted slot window) packets))) 1 (length (filter (is_counted slot window) (take k packets))) each,
      count_more (λ n. fit_before slot window (take n (filter (is_counted slot window) packets))) 1 (length (filter (is_counted slot window) (take k packets)))
          (length (filter (is_counted slot window) (drop k packets))),
      ap (λ n. count_by (λ n. fit_before slot window (take n (filter (is_counted slot window) packets))) (range_with_len 1 n)) size,
    )
