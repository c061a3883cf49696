-- The packets of an audio stream that a window counts, and how many of them can go before its first slot.
use Rattle.std.proofs.Common.{◌≡◌, ℕ, ◌+◌, ◌-◌, ◌*◌, ◌/◌, ◌<◌, ◌≤◌, Bool, true, false, cond, not, nat_le, nat_lt, ◌==◌, ◌&&◌, ◌||◌, ◌⊎◌, min, List, [], ◌∷◌, length, take, drop, filter, get_or, sum_by, count_by, refl, sym, ap, ◌∙◌, inl, inr, lt-ltb, arith}
use Rattle.std.specs.List.{flat_map, list_any, range_with_len}
use Rattle.std.proofs.lemmas.Bool.{cases_Bool, cases_lt, and_from, and_left, and_right, eq-eqb, le-leb, lt-leb, le-ltb, or_left, or_right, ne_eqb}
use Rattle.std.proofs.lemmas.Nat.{div_below, le-div}
use Rattle.std.proofs.lemmas.List.{drop_more, length-append}
use Rattle.std.proofs.lemmas.List.Concat.{length-flat_map}
use Rattle.std.proofs.lemmas.List.Sums.{sum_by-append, sum_by-cons, sum_by-take-le}
use Rattle.stream_constants.specs.declared.decoder.TheConstants.{AUDIO_BYTES}
use Rattle.version_table.specs.declared.table.AudioPacket.{AudioPacket}
use Rattle.version_table.specs.declared.table.ProgramRow.{ProgramRow}
use Rattle.version_table.specs.declared.table.Table.{Table}
use Rattle.version_table.specs.Table.{audio_packets_of}
use Rattle.dual_bounds.specs.declared.constants.TheConstants.{MARGIN_TICKS}
use Rattle.dual_bounds.specs.Packets.{SplitsBy}
use Rattle.buffer_windows.specs.declared.windows.BufferWindow.{BufferWindow}
use Rattle.buffer_windows.specs.Room.{audio_slots, fit_before, is_counted, longest_before, slots_taken}
use Rattle.buffer_windows.specs.Windows.{stop}
use Rattle.buffer_windows.proofs.AudioBefore.{fits_there, is_late}
use Rattle.buffer_windows.proofs.Fronts.{count_front, filter_places, take_less}

-- ---- which packets are counted
-- the last due time of them
pub last-is : (slot tail end due : ℕ) → 1 ≤ slot
    → (nat_le due end && nat_le (stop slot due) tail) ≡ nat_le due (min end ((tail + 1) * slot + MARGIN_TICKS - 1))
last-is slot tail end due some =
    let behind = (tail + 1) * slot in
    let last = min end ((tail + 1) * slot + MARGIN_TICKS - 1) in
    let more : 1 ≤ (tail + 1) * slot = one_slot tail slot some in
    elim (cases_lt last due) as (λ _. (nat_le due end && nat_le (stop slot due) tail) ≡ nat_le due (min end ((tail + 1) * slot + MARGIN_TICKS - 1))) [
      | inl past ↦ rw (lt-leb due last past) (elim (cases_lt end due) as (λ _. (nat_le due end && nat_le (stop slot due) tail) ≡ false) [
        | inl late ↦ and_left (nat_le due end) (nat_le (stop slot due) tail) (lt-leb due end late)
        | inr early ↦
            (let stops : tail + 1 ≤ (due - MARGIN_TICKS) / slot = le-div (tail + 1) (due - MARGIN_TICKS) slot some (omega arith) in
            and_right (nat_le due end) (nat_le (stop slot due) tail) (lt-leb (stop slot due) tail (omega arith)))
      ])
      | inr within ↦
          (let stops : (due - MARGIN_TICKS) / slot < tail + 1 = div_below (due - MARGIN_TICKS) slot (tail + 1) some (omega arith) in
          rw (le-leb due last (omega arith)) (and_from (nat_le due end) (nat_le (stop slot due) tail) (le-leb due end (omega arith)) (le-leb (stop slot due) tail (omega arith))))
    ]
  where
    one_slot : (t s : ℕ) → 1 ≤ s → 1 ≤ (t + 1) * s
    one_slot t s some = omega (arith, mul_more t s)
      where
        mul_more : (t s : ℕ) → (t + 1) * s ≡ t * s + s
        mul_more t s = omega arith

-- they stand together
pub counted-is : (slot : ℕ) (window : BufferWindow) (packets : List AudioPacket) (from until last : ℕ) → (window.first ≡ 0 → from ≡ 0)
    → (0 < window.first → SplitsBy (window.first * slot) packets from) → SplitsBy last packets until
    → ((due : ℕ) → (nat_le due window.due && nat_le (stop slot due) window.tail) ≡ nat_le due last)
    → filter (is_counted slot window) packets ≡ take (until - min from until) (drop (min from until) packets)
counted-is slot window packets from until last start behind ends tests =
    let in_time : ℕ → Bool = λ due. nat_le due window.due && nat_le (stop slot due) window.tail in
    let later : ℕ → Bool = λ due. (window.first == 0) || nat_lt (window.first * slot) due in
    filter_places (is_counted slot window) packets (min from until) (until - min from until)
    (λ k d within low high.
    and_from (in_time (get_or packets k d).due) (later (get_or packets k d).due)
    (tests (get_or packets k d).due ∙ le-leb (get_or packets k d).due last (ends.by k d (omega arith)))
    (elim (cases_lt 0 window.first) as (λ _. ((window.first == 0) || nat_lt (window.first * slot) (get_or packets k d).due) ≡ true) [
      | inl some ↦ or_right (window.first == 0) (nat_lt (window.first * slot) (get_or packets k d).due)
          (lt-ltb (window.first * slot) (get_or packets k d).due ((behind some).later k d (omega arith) within))
      | inr none ↦ or_left (window.first == 0) (nat_lt (window.first * slot) (get_or packets k d).due) (eq-eqb window.first 0 (omega arith))
    ]))
    (λ k d within low. elim (cases_lt 0 window.first) as (λ _. is_counted slot window (get_or packets k d) ≡ false) [
      | inl some ↦ and_right (in_time (get_or packets k d).due) (later (get_or packets k d).due)
          (neither (window.first == 0) (nat_lt (window.first * slot) (get_or packets k d).due) (ne_eqb window.first 0 (λ e. absurd (omega arith)))
          (le-ltb (window.first * slot) (get_or packets k d).due ((behind some).by k d (omega arith))))
      | inr none ↦ absurd (omega (arith, start (omega arith)))
    ])
    (λ k d within high. and_left (in_time (get_or packets k d).due) (later (get_or packets k d).due)
    (tests (get_or packets k d).due ∙ lt-leb (get_or packets k d).due last (ends.later k d (omega arith) within)))
  where
    neither : (a b : Bool) → a ≡ false → b ≡ false → (a || b) ≡ false
    neither a b left right = rw (left, right) refl

-- ---- the longest front that can go before the first slot
-- a front fits as long as no packet is late and its bytes are few; one packet more doesn't
pub longest-is : (slot : ℕ) (window : BufferWindow) (packets : List AudioPacket) (k : ℕ) → 0 < window.first → k ≤ length packets
    → count_by (is_late slot window) (take k packets) ≡ 0 → sum_by (λ (p : AudioPacket). p.bytes) (take k packets) ≤ AUDIO_BYTES
    → (k < length packets → (1 ≤ count_by (is_late slot window) (take (k + 1) packets)) ⊎ (AUDIO_BYTES < sum_by (λ (p : AudioPacket). p.bytes) (take (k + 1) packets)))
    → longest_before slot window packets ≡ k
longest-is slot window packets k some within none few ends =
    let size : k + (length packets - k) ≡ length packets = omega arith in
    let fits : ℕ → Bool = λ n. fit_before slot window (take n packets) in
    ap (λ n. count_by (λ n. fit_before slot window (take n packets)) (range_with_len 1 n)) (sym size)
    ∙ count_front (λ n. fit_before slot window (take n packets)) 1 k (length packets - k)
    (λ n low high. ap (fit_before slot window) (sym (take_less packets n k (omega arith))) ∙ fits_there slot window (take k packets) n some none few)
    (λ n low high. elim (ends (omega arith)) as (λ _. fit_before slot window (take n packets) ≡ false) [
      | inl late ↦
          (let more : 1 ≤ count_by (is_late slot window) (take n packets) =
          omega (
            arith,
            late,
            sum_by-take-le (λ (p : AudioPacket). cond (is_late slot window p) 1 0) (take n packets) (k + 1),
            ap (count_by (is_late slot window)) (take_less packets (k + 1) n (omega arith)),
          ) in
          and_left (nat_lt 0 window.first && not (list_any (is_late slot window) (take n packets))) (nat_le (sum_by (λ (p : AudioPacket). p.bytes) (take n packets)) AUDIO_BYTES)
          (and_right (nat_lt 0 window.first) (not (list_any (is_late slot window) (take n packets)))
          (some_late (list_any (is_late slot window) (take n packets)) (some_any (is_late slot window) (take n packets) more))))
      | inr over ↦
          (let more : AUDIO_BYTES < sum_by (λ (p : AudioPacket). p.bytes) (take n packets) =
          omega (
            arith,
            over,
            sum_by-take-le (λ (p : AudioPacket). p.bytes) (take n packets) (k + 1),
            ap (sum_by (λ (p : AudioPacket). p.bytes)) (take_less packets (k + 1) n (omega arith)),
          ) in
          and_right (nat_lt 0 window.first && not (list_any (is_late slot window) (take n packets))) (nat_le (sum_by (λ (p : AudioPacket). p.bytes) (take n packets)) AUDIO_BYTES)
          (lt-leb (sum_by (λ (p : AudioPacket). p.bytes) (take n packets)) AUDIO_BYTES more))
    ])
  where
    some_late : (b : Bool) → b ≡ true → not b ≡ false
    some_late b yes_is = rw yes_is refl

    some_any : {X : Type 0} (test : X → Bool) (xs : List X) → 1 ≤ count_by test xs → list_any test xs ≡ true
    some_any test [] more = absurd (omega arith)
    some_any test (x ∷ xs) more = elim (cases_Bool (test x)) as (λ _. list_any test (x ∷ xs) ≡ true) [
      | inl yes_is ↦ rw yes_is refl
      | inr no_is ↦ rw no_is (some_any test xs (omega (arith, more, sum_by-cons (λ y. cond (test y) 1 0) x xs, ap {B = ℕ} (λ b. cond b 1 0) no_is)))
    ]

-- where the window begins with the first slot, none does
pub longest-start : (slot : ℕ) (window : BufferWindow) (packets : List AudioPacket) → window.first ≡ 0 → longest_before slot window packets ≡ 0
longest-start slot window packets start =
    let size : 0 + length packets ≡ length packets = omega arith in
    ap (λ n. count_by (λ n. fit_before slot window (take n packets)) (range_with_len 1 n)) (sym size)
    ∙ count_front (λ n. fit_before slot window (take n packets)) 1 0 (length packets) (λ n low high. absurd (omega arith))
    (λ n low high. and_left (nat_lt 0 window.first && not (list_any (is_late slot window) (take n packets))) (nat_le (sum_by (λ (p : AudioPacket). p.bytes) (take n packets)) AUDIO_BYTES)
    (and_left (nat_lt 0 window.first) (not (list_any (is_late slot window) (take n packets))) (le-ltb 0 window.first (omega arith))))

-- ---- the slots that a stream takes
pub taken-le : (slot : ℕ) (window : BufferWindow) (packets : List AudioPacket) → slots_taken slot window packets ≤ length packets
taken-le slot window packets = omega (arith, count-filter (is_counted slot window) packets)
  where
    count-filter : {X : Type 0} (test : X → Bool) (xs : List X) → length (filter test xs) ≤ length xs
    count-filter test [] = omega arith
    count-filter test (x ∷ xs) = elim (cases_Bool (test x)) as (λ _. length (filter test (x ∷ xs)) ≤ length (x ∷ xs)) [
      | inl yes_is ↦ rw yes_is (omega (arith, count-filter test xs))
      | inr no_is ↦ rw no_is (omega (arith, count-filter test xs))
    ]

-- all streams take no more slots than they have packets
pub all_taken-le : (slot : ℕ) (window : BufferWindow) (audios : List (List AudioPacket))
    → sum_by (slots_taken slot window) audios ≤ length (flat_map (λ packets. packets) audios)
all_taken-le slot window audios = rw (length-flat_map (λ (packets : List AudioPacket). packets) audios) (each audios)
  where
    each : (audios : List (List AudioPacket)) → sum_by (slots_taken slot window) audios ≤ sum_by (λ (packets : List AudioPacket). length packets) audios
    each [] = omega arith
    each (packets ∷ audios) =
        omega (
          arith,
          sum_by-cons (slots_taken slot window) packets audios,
          sum_by-cons (λ (packets : List AudioPacket). length packets) packets audios,
          taken-le slot window packets,
          each audios,
        )

-- the streams of the programs from one on
abbrev pub streams_from : List ProgramRow → ℕ → List (List AudioPacket)
streams_from programs i = flat_map (λ program. program.audios) (drop i programs)

pub streams-more : (slot : ℕ) (window : BufferWindow) (programs : List ProgramRow) (i : ℕ) (program : ProgramRow) → i < length programs → program ≡ get_or programs i program
    → sum_by (slots_taken slot window) (streams_from programs i)
    ≡ sum_by (slots_taken slot window) program.audios + sum_by (slots_taken slot window) (streams_from programs (i + 1))
streams-more slot window programs i program within is =
    ap (λ (rest : List ProgramRow). sum_by (slots_taken slot window) (flat_map (λ p. p.audios) rest)) (drop_more programs i program within)
    ∙ sum_by-append (slots_taken slot window) (get_or programs i program).audios (streams_from programs (i + 1))
    ∙ ap (λ (p : ProgramRow). sum_by (slots_taken slot window) p.audios + sum_by (slots_taken slot window) (streams_from programs (i + 1))) (sym is)

-- the slots of all streams are no more than their packets
pub audio_slots-le : (table : Table) (window : BufferWindow) → audio_slots table window ≤ length (audio_packets_of table)
unfolding audio_slots
audio_slots-le table window = each table.programs
  where
    each : (programs : List ProgramRow) → sum_by (slots_taken table.slot window) (flat_map (λ program. program.audios) programs)
        ≤ length (flat_map (λ program. flat_map (λ packets. packets) program.audios) programs)
    each [] = omega arith
    each (program ∷ programs) =
        omega (
          arith,
          sum_by-append (slots_taken table.slot window) program.audios (flat_map (λ p. p.audios) programs),
          length-append (flat_map (λ packets. packets) program.audios) (flat_map (λ p. flat_map (λ packets. packets) p.audios) programs),
          all_taken-le table.slot window program.audios,
          each programs,
        )

pub audio_slots-is : (table : Table) (window : BufferWindow) → audio_slots table window ≡ sum_by (slots_taken table.slot window) (streams_from table.programs 0)
unfolding audio_slots
audio_slots-is table window = refl
