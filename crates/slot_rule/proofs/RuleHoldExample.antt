-- A worked example: a packet may go no sooner than a second before it is gone.
use Rattle.std.proofs.Common.{
  ◌≡◌,
  ℕ,
  zero,
  suc,
  ◌+◌,
  ◌-◌,
  ◌*◌,
  ◌<◌,
  ◌≤◌,
  List,
  [],
  ◌∷◌,
  ◌++◌,
  All,
  length,
  count_by,
  slice_get,
  get_or,
  Option,
  Some,
  None,
  refl,
  sym,
  ap,
  subst,
  ◌∙◌,
  inl,
  inr,
  add-zero,
  le_of_eq,
  map,
  cond,
  zero-le,
  ◌/◌,
  lit≤,
  arith,
}
use Rattle.std.proofs.lemmas.Bool.{cases_lt, cases_eq}
use Rattle.std.proofs.lemmas.List.{length_push, same_from_push}
use Rattle.std.proofs.lemmas.List.Elements.{All-nil, All-push, All-map, All-head, All-tail}
use Rattle.std.proofs.lemmas.List.Sums.{sum_by-le}
use Rattle.std.proofs.lemmas.Option.{same_Some, none-some, slice_get_within}
use Rattle.version_table.specs.declared.table.Table.{Table}
use Rattle.stream_constants.specs.declared.clock.TheConstants.{SUBTICKS_PER_TICK}
use Rattle.stream_constants.specs.declared.decoder.TheConstants.{MB_SUBTICKS}
use Rattle.stream_constants.specs.declared.packets.TheConstants.{PACKET_BYTES}
use Rattle.slot_rule.specs.declared.sent.Sent.{Sent}
use Rattle.slot_rule.specs.declared.sent.Sent.TheVariants.{Pat, Pmt, Pcr}
use Rattle.slot_rule.specs.declared.slot_list.SlotList.{SlotList}
use Rattle.slot_rule.specs.Timetable.{reserved}
use Rattle.slot_rule.specs.Queues.{QueueKind, Video, QueuedPacket, Queue, queues_of}
use Rattle.slot_rule.specs.Buffers.{Row, Reserved, Carries, Empty, is_of, tb_work, mb_work, outstanding, outstanding_in, packets_in, payload_in, queue_tb_subticks, slot_subticks}
use Rattle.slot_rule.specs.Schedule.{IsHead, Goes, NothingGoes, IsRow, FollowRule, Overdue, NoMiss, IsSchedule, IsScheduled, end_with_margin, mb_or_tb_work}
use Rattle.slot_rule.specs.Private.IdleSlots.{idle_slots}
use Rattle.slot_rule.specs.SlotList.{slots_of, sent_of, IsSlotList}
use Rattle.slot_rule.proofs.IdleRows.{idle_row}
use Rattle.slot_rule.proofs.RuleExamples.{one_unit, the_list}
use Rattle.slot_rule.proofs.RuleRows.{NoneMisses, FollowRule-nil, FollowRule-push, NoMiss-nil, NoMiss-push}
use Rattle.slot_rule.proofs.RuleSchedules.{slots_of-same}
use Rattle.slot_rule.proofs.RuleSent.{count-carried}
use Rattle.slot_rule.proofs.RuleUnits.{piece_of}
use Rattle.slot_rule.proofs.RuleWork.{waiting-none, packets_in-le, mb_work-push}

-- slots of a thousandth of a second, and one packet that is due after two seconds
abbrev long_table : Table
long_table = record { slot = 27000; nodes = 1; evaluations = 0; programs = one_unit 54000000 184 ∷ [] }

numbers_are : queues_of long_table (0 ∷ []) ≡ record { kind = Video 0 112; packets = piece_of 0 54000000 0 184 ∷ [] } ∷ []
numbers_are = refl

-- what stands in a slot where no packet goes
abbrev quiet_row : ℕ → Row
quiet_row n = idle_row 27000 1 n

-- the rows of the first slots, in which no packet goes
abbrev quiet : ℕ → List Row
quiet zero = []
quiet (suc n) = quiet n ++ quiet_row n ∷ []

length-quiet : (n : ℕ) → length (quiet n) ≡ n
length-quiet zero = refl
length-quiet (suc n) = length_push (quiet n) (quiet_row n) ∙ (let e : length (quiet n) + 1 ≡ suc n = omega (arith, length-quiet n) in e)

-- a row that carries no packet
abbrev IsQuiet : Row → Type 0
IsQuiet (Reserved sent) = Unit {0}
IsQuiet (Carries stream packet) = ⊥
IsQuiet Empty = Unit {0}

quiet_row-is : (o : Option Sent) → IsQuiet (elim o [
  | Some sent ↦ Reserved sent
  | None ↦ Empty
])
quiet_row-is (Some sent) = tt
quiet_row-is None = tt

quiet-each : (n : ℕ) → All IsQuiet (quiet n)
quiet-each zero = All-nil IsQuiet
quiet-each (suc n) = All-push IsQuiet (quiet n) (quiet_row n) (quiet-each n) (quiet_row-is (reserved 27000 1 n))

-- the only packet is the head until it goes
head_is : (rows : List Row) (stream : ℕ) (kind : QueueKind) (packet : QueuedPacket) → IsHead (queues_of long_table (0 ∷ [])) rows stream kind packet
    → (stream ≡ 0) × (kind ≡ Video 0 112) × (packet ≡ piece_of 0 54000000 0 184) × (count_by (is_of 0) rows ≡ 0)
head_is rows zero kind packet (packets, got, head) =
    let same : ◌≡◌ {A = Queue} (record { kind = Video 0 112; packets = piece_of 0 54000000 0 184 ∷ [] }) (record { kind = kind; packets = packets }) = same_Some _ _ got in
    let list : piece_of 0 54000000 0 184 ∷ [] ≡ packets = ap (λ (s : Queue). s.packets) same in
    let head' : slice_get (piece_of 0 54000000 0 184 ∷ []) (count_by (is_of 0) rows)
    ≡ Some packet = subst (λ (ps : List QueuedPacket). slice_get ps (count_by (is_of 0) rows) ≡ Some packet) (sym list) head in
    let none : count_by (is_of 0) rows ≡ 0 = (let within : count_by (is_of 0) rows < 1 = slice_get_within (piece_of 0 54000000 0 184 ∷ []) (count_by (is_of 0) rows) packet head' in omega arith) in
    (refl, sym (ap (λ (s : Queue). s.kind) same), sym (same_Some (piece_of 0 54000000 0 184) packet (subst (λ n. slice_get (piece_of 0 54000000 0 184 ∷ []) n ≡ Some packet) none head')), none)
head_is rows (suc stream) kind packet (packets, got, head) = absurd (none-some _ got)

-- ---- no packet may go before slot 1,000, and slots 1,000 to 1,002 are reserved
reserved_1000 : reserved 27000 1 1000 ≡ Some Pat
reserved_1000 = refl

reserved_1001 : reserved 27000 1 1001 ≡ Some (Pmt 0)
reserved_1001 = refl

reserved_1002 : reserved 27000 1 1002 ≡ Some (Pcr 0)
reserved_1002 = refl

reserved_or_early : (n : ℕ) → n < 1003 → reserved 27000 1 n ≡ None → n < 1000
reserved_or_early n below free =
    elim (cases_lt n 1000) as (λ _. n < 1000) [
      | inl early ↦ early
      | inr late ↦
          (elim (cases_eq n 1000) as (λ _. n < 1000) [
            | inl e ↦ absurd (none-some Pat (sym (subst (λ m. reserved 27000 1 m ≡ None) e free) ∙ reserved_1000))
            | inr other ↦
                (elim (cases_eq n 1001) as (λ _. n < 1000) [
                  | inl e ↦ absurd (none-some (Pmt 0) (sym (subst (λ m. reserved 27000 1 m ≡ None) e free) ∙ reserved_1001))
                  | inr other' ↦
                      (let e : n ≡ 1002 = omega arith in
                      absurd (none-some (Pcr 0) (sym (subst (λ m. reserved 27000 1 m ≡ None) e free) ∙ reserved_1002)))
                ])
          ])
    ]

nothing_early : (n : ℕ) → n < 1000 → NothingGoes 27000 (queues_of long_table (0 ∷ [])) (quiet n)
nothing_early n early stream kind packet head permitted =
    let gone : packet.gone ≡ 54000000 = ap (λ (p : QueuedPacket). p.gone) (head_is (quiet n) stream kind packet head).2 in
    omega (arith, permitted.hold, gone, length-quiet n)

quiet_next : (n : ℕ) → n < 1003 → (o : Option Sent) → reserved 27000 1 n ≡ o → IsRow 27000 1 (queues_of long_table (0 ∷ [])) (quiet n) (elim o [
  | Some sent ↦ Reserved sent
  | None ↦ Empty
])
quiet_next n below (Some sent) e = subst (λ m. reserved 27000 1 m ≡ Some sent) (sym (length-quiet n)) e
quiet_next n below None e = (subst (λ m. reserved 27000 1 m ≡ None) (sym (length-quiet n)) e, nothing_early n (reserved_or_early n below e))

quiet_follows : (n : ℕ) → n ≤ 1003 → FollowRule long_table (0 ∷ []) (quiet n)
quiet_follows zero fits = FollowRule-nil long_table (0 ∷ [])
quiet_follows (suc n) fits = FollowRule-push long_table (0 ∷ []) (quiet n) (quiet_row n) (quiet_follows n (omega arith)) (quiet_next n fits (reserved 27000 1 n) refl)

-- ---- nothing misses, since the packet is due long after these slots
none_overdue : (rows : List Row) → length rows ≤ 1004 → (stream : ℕ) (packet : QueuedPacket) → Overdue 27000 (queues_of long_table (0 ∷ [])) rows stream packet → ⊥
none_overdue rows short stream packet over =
    let due : packet.due ≡ 54000000 = ap (λ (p : QueuedPacket). p.due) (head_is rows stream over.kind packet over.head).2 in
    omega (arith, over.late, due)

quiet_misses : (n : ℕ) → n ≤ 1003 → NoneMisses 27000 (queues_of long_table (0 ∷ [])) (quiet n) (quiet_row n)
quiet_misses n fits stream packet (inl late) =
    let last : quiet_row n ≡ Carries stream packet = (same_from_push (quiet n) late.before (quiet_row n) (Carries stream packet) late.went).1 in
    subst IsQuiet last (quiet_row-is (reserved 27000 1 n))
quiet_misses n fits stream packet (inr over) =
    none_overdue (quiet n ++ quiet_row n ∷ []) (omega (arith, length_push (quiet n) (quiet_row n), length-quiet n)) stream packet over.1

quiet_in_time : (n : ℕ) → n ≤ 1003 → NoMiss 27000 (queues_of long_table (0 ∷ [])) (quiet n)
quiet_in_time zero fits = NoMiss-nil 27000 (queues_of long_table (0 ∷ []))
quiet_in_time (suc n) fits = NoMiss-push 27000 (queues_of long_table (0 ∷ [])) (quiet n) (quiet_row n) (quiet_in_time n (omega arith)) (quiet_misses n (omega arith))

-- ---- the packet goes in slot 1,003
transport_none : (rows : List Row) → tb_work 27000 0 (Video 0 112) rows ≡ 0
transport_none rows =
    let f : Row → ℕ = λ row. PACKET_BYTES * queue_tb_subticks (Video 0 112) * packets_in 0 (Video 0 112) row in
    waiting-none (slot_subticks 27000) (map f rows) (All-map (λ work. work ≤ slot_subticks 27000) f rows
    (λ k d within. (let one = packets_in-le 0 (Video 0 112) (get_or rows k d) in omega (arith, one))))

quiet_payload : (row : Row) → IsQuiet row → payload_in 0 row ≡ 0
quiet_payload (Reserved sent) still = refl
quiet_payload Empty still = refl
quiet_payload (Carries stream packet) still = absurd still

quiet_outstanding : (time : ℕ) (row : Row) → IsQuiet row → outstanding_in 0 time row ≤ 0
quiet_outstanding time (Reserved sent) still = le_of_eq refl
quiet_outstanding time Empty still = le_of_eq refl
quiet_outstanding time (Carries stream packet) still = absurd still

quiet_count : (row : Row) → IsQuiet row → cond (is_of 0 row) 1 0 ≤ 0
quiet_count (Reserved sent) still = le_of_eq refl
quiet_count Empty still = le_of_eq refl
quiet_count (Carries stream packet) still = absurd still

multiplex_none : (n : ℕ) → mb_work 27000 0 (quiet n) ≡ 0
multiplex_none n =
    let f : Row → ℕ = λ row. MB_SUBTICKS * payload_in 0 row in
    waiting-none (slot_subticks 27000) (map f (quiet n)) (All-map (λ work. work ≤ slot_subticks 27000) f (quiet n)
    (λ k d within. (let no_payload = quiet_payload (get_or (quiet n) k d) (quiet-each n k d within) in omega (arith, no_payload))))

outstanding_none : (n time : ℕ) → outstanding 0 time (quiet n) ≡ 0
outstanding_none n time =
    let total : outstanding 0 time (quiet n) ≤ length (quiet n)
    * 0 = sum_by-le (outstanding_in 0 time) 0 (quiet n)
    (λ k d within. quiet_outstanding time (get_or (quiet n) k d) (quiet-each n k d within)) in
    omega arith

count_none : (n : ℕ) → count_by (is_of 0) (quiet n) ≡ 0
count_none n =
    let total : count_by (is_of 0) (quiet n) ≤ length (quiet n)
    * 0 = sum_by-le (λ row. cond (is_of 0 row) 1 0) 0 (quiet n) (λ k d within. quiet_count (get_or (quiet n) k d) (quiet-each n k d within)) in
    omega arith

-- the rows in which the packet stands last
abbrev with_packet : ℕ → List Row
with_packet n = quiet n ++ Carries 0 (piece_of 0 54000000 0 184) ∷ []

packet_goes : (n : ℕ) → n ≡ 1003 → Goes 27000 (queues_of long_table (0 ∷ [])) (quiet n) 0 (piece_of 0 54000000 0 184)
packet_goes n at = record {
  kind = Video 0 112;
  head = (piece_of 0 54000000 0 184 ∷ [], refl, ap (λ m. slice_get (piece_of 0 54000000 0 184 ∷ []) m) (count_none n));
  permitted = record {
    tb = rw (transport_none (quiet n)) zero-le;
    mb = rw (multiplex_none n) zero-le;
    eb_or_b = rw (outstanding_none n (length (quiet n) * 27000)) (omega arith);
    hold = omega (arith, length-quiet n);
  };
  first = λ other kind packet head permitted. inl (head_is (quiet n) other kind packet head).0;
}

packet_next : (n : ℕ) → n ≡ 1003 → IsRow 27000 1 (queues_of long_table (0 ∷ [])) (quiet n) (Carries 0 (piece_of 0 54000000 0 184))
packet_next n at = (ap (λ m. reserved 27000 1 m) (length-quiet n ∙ at) ∙ refl, packet_goes n at)

packet_work : (n : ℕ) → mb_work 27000 0 (with_packet n) ≡ 0
packet_work n = mb_work-push 27000 0 (quiet n) (Carries 0 (piece_of 0 54000000 0 184)) ∙ ap (λ work. (work + MB_SUBTICKS * 184) - slot_subticks 27000) (multiplex_none n) ∙ refl

packet_misses : (n : ℕ) → n ≡ 1003 → NoneMisses 27000 (queues_of long_table (0 ∷ [])) (quiet n) (Carries 0 (piece_of 0 54000000 0 184))
packet_misses n at stream packet (inl late) =
    let head = head_is late.before stream late.kind packet late.head in
    let due : packet.due ≡ 54000000 = ap (λ (p : QueuedPacket). p.due) head.2 in
    let late' : SUBTICKS_PER_TICK * packet.due < end_with_margin 27000 (with_packet n) + mb_work 27000 0 (with_packet n) =
    subst (λ (kind : QueueKind). SUBTICKS_PER_TICK * packet.due < end_with_margin 27000 (with_packet n) + mb_or_tb_work 27000 0 kind (with_packet n)) head.1
    (subst (λ (s : ℕ). SUBTICKS_PER_TICK * packet.due < end_with_margin 27000 (with_packet n) + mb_or_tb_work 27000 s late.kind (with_packet n)) head.0 late.late) in
    omega (arith, late', packet_work n, length_push (quiet n) (Carries 0 (piece_of 0 54000000 0 184)), length-quiet n)
packet_misses n at stream packet (inr over) =
    none_overdue (with_packet n) (omega (arith, length_push (quiet n) (Carries 0 (piece_of 0 54000000 0 184)), length-quiet n)) stream packet over.1

long_schedule : (n : ℕ) → n ≡ 1003 → IsSchedule long_table (0 ∷ []) (with_packet n)
long_schedule n at = record {
  follows = FollowRule-push long_table (0 ∷ []) (quiet n) (Carries 0 (piece_of 0 54000000 0 184)) (quiet_follows n (omega arith)) (packet_next n at);
  in_time = NoMiss-push 27000 (queues_of long_table (0 ∷ [])) (quiet n) (Carries 0 (piece_of 0 54000000 0 184)) (quiet_in_time n (omega arith)) (packet_misses n at);
  sent = λ stream kind packet head.
      (let count : count_by (is_of 0) (with_packet n) ≡ count_by (is_of 0) (quiet n) + 1 = count-carried 0 0 (piece_of 0 54000000 0 184) (quiet n) refl in
      omega (arith, count, (head_is (with_packet n) stream kind packet head).3));
}

slots_after : (slot : ℕ) (packet : QueuedPacket) (rows : List Row) → All IsQuiet rows → slots_of 0 slot (rows ++ Carries 0 packet ∷ []) ≡ (slot + length rows) ∷ []
slots_after slot packet [] still = ap (λ n. n ∷ []) (sym (add-zero slot))
slots_after slot packet (row ∷ rows) still =
    let next : (slot + 1) + length rows ≡ slot + suc (length rows) = omega arith in
    not_of row (All-head IsQuiet row rows still) ∙ slots_after (slot + 1) packet rows (All-tail IsQuiet row rows still) ∙ ap (λ n. n ∷ []) next
  where
    not_of : (r : Row) → IsQuiet r → slots_of 0 slot (r ∷ (rows ++ Carries 0 packet ∷ [])) ≡ slots_of 0 (slot + 1) (rows ++ Carries 0 packet ∷ [])
    not_of (Reserved sent) quiet' = refl
    not_of Empty quiet' = refl
    not_of (Carries stream p) quiet' = absurd quiet'

-- the packet goes in slot 1,003, whichever rows are the schedule
pub long_slots : (rows : List Row) → IsSchedule long_table (0 ∷ []) rows → slots_of 0 0 rows ≡ 1003 ∷ []
long_slots rows schedule = at 1003 refl
  where
    at : (n : ℕ) → n ≡ 1003 → slots_of 0 0 rows ≡ 1003 ∷ []
    at n e =
        slots_of-same long_table (0 ∷ []) 0 rows (with_packet n) schedule (long_schedule n e) ∙ slots_after 0 (piece_of 0 54000000 0 184) (quiet n) (quiet-each n)
        ∙ ap (λ m. m ∷ []) (let same : 0 + length (quiet n) ≡ 1003 = omega (arith, length-quiet n) in same)

pub long_scheduled : IsScheduled long_table (0 ∷ [])
long_scheduled = at 1003 refl
  where
    at : (n : ℕ) → n ≡ 1003 → IsScheduled long_table (0 ∷ [])
    at n e = (with_packet n, long_schedule n e)

-- and there are 26 periods of 40 slots
pub long_slot_count : (list : SlotList) → IsSlotList long_table (0 ∷ []) list → list.slots ≡ 1040
long_slot_count list is = at 1003 36 refl refl
  where
    at : (n idle : ℕ) → n ≡ 1003 → idle ≡ 36 → list.slots ≡ 1040
    at n idle e i =
        let rows = map (sent_of (queues_of long_table (0 ∷ []))) (with_packet n) in
        ap (λ (l : SlotList). l.slots) (the_list long_table (0 ∷ []) (quiet n) (Carries 0 (piece_of 0 54000000 0 184)) n (record { slots = 1040; rows = rows ++ idle_slots 27000 1 (n + 1) idle }) list
        (lit≤ tt) (length-quiet n) (long_schedule n e) (inr tt) (record { whole = sym (ap (λ m. (m / 40 + 1) * 40) e); idle = idle; ends = omega arith; rows_are = refl }) is)
