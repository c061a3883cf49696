-- The packets of a stream that stand in the rows, and their bytes that are still in the decoder.
use Rattle.std.proofs.Common.{
  ◌≡◌,
  ℕ,
  zero,
  suc,
  ◌+◌,
  ◌-◌,
  ◌<◌,
  ◌≤◌,
  false,
  cond,
  eqb,
  ltb,
  eq-eqb,
  ne_eqb,
  List,
  [],
  ◌∷◌,
  ◌++◌,
  length,
  get_or,
  take,
  drop,
  count_by,
  sum_by,
  slice_get,
  Some,
  nat_lt,
  ◌==◌,
  if◌then◌else◌,
  refl,
  sym,
  ap,
  subst,
  ◌∙◌,
  inl,
  inr,
  append-nil,
  add-zero,
  zero-add,
  zero-le,
  le_trans,
  lt_of_lt_of_le,
  length-take,
  ap₂,
  lt-ltb,
  le-ltb,
  arith,
  All,
  length-drop,
  mul-le-mul_right,
  ◌*◌,
}
use Rattle.std.specs.List.{flat_map}
use Rattle.std.specs.List.Sorted.{IsNonDecreasingBy}
use Rattle.std.proofs.lemmas.Bool.{cases_eq, cases_Bool, cond-true, cond-false}
use Rattle.std.proofs.lemmas.Option.{same_Some, slice_get_within, get_or_from_slice_get}
use Rattle.std.proofs.lemmas.List.{take_more, get_or-take, length-take-le, get_or_default, drop-append-le}
use Rattle.std.proofs.lemmas.List.Concat.{flat_map-append}
use Rattle.std.proofs.lemmas.List.Sums.{sum_by-append, sum_by-cons, sum_by_push, sum_by-drop_more, sum_by-le}
use Rattle.std.proofs.lemmas.List.Elements.{All-drop, All-take}
use Rattle.version_table.specs.declared.table.Table.{Table}
use Rattle.slot_rule.specs.declared.sent.Sent.{Sent}
use Rattle.slot_rule.specs.Queues.{QueueKind, QueuedPacket, Queue, queues_of}
use Rattle.slot_rule.specs.Buffers.{Row, Reserved, Carries, Empty, is_of, outstanding_in, outstanding}
use Rattle.slot_rule.specs.Schedule.{IsHead, FollowRule}
use Rattle.slot_rule.proofs.RuleFronts.{by_push}
use Rattle.slot_rule.proofs.RuleRows.{IsNext, FollowRule-front, FollowRule-last}

-- the packet of the stream in the row, if there is one
abbrev pub packet_of : ℕ → Row → List QueuedPacket
packet_of stream (Carries s packet) = if s == stream then packet ∷ [] else []
packet_of stream (Reserved sent) = []
packet_of stream Empty = []

-- the packets of the stream in the rows, in order
abbrev pub packets_sent : ℕ → List Row → List QueuedPacket
packets_sent stream rows = flat_map (packet_of stream) rows

pub packet_of-carried : (stream s : ℕ) (packet : QueuedPacket) → s ≡ stream → packet_of stream (Carries s packet) ≡ packet ∷ []
packet_of-carried stream s packet e = cond-true (eqb s stream) (packet ∷ []) [] (eq-eqb s stream e)

pub packet_of-other : (stream s : ℕ) (packet : QueuedPacket) → (s ≡ stream → ⊥) → packet_of stream (Carries s packet) ≡ []
packet_of-other stream s packet apart = cond-false (eqb s stream) (packet ∷ []) [] (ne_eqb s stream apart)

pub packets_sent-push : (stream : ℕ) (rows : List Row) (row : Row) → packets_sent stream (rows ++ row ∷ []) ≡ packets_sent stream rows ++ packet_of stream row
packets_sent-push stream rows row = flat_map-append (packet_of stream) rows (row ∷ []) ∙ ap (λ more. packets_sent stream rows ++ more) (append-nil (packet_of stream row))

-- ---- how many packets of the stream were sent
pub count-push : (stream : ℕ) (rows : List Row) (row : Row) → count_by (is_of stream) (rows ++ row ∷ []) ≡ count_by (is_of stream) rows + cond (is_of stream row) 1 0
count-push stream rows row = sum_by_push (λ r. cond (is_of stream r) 1 0) rows row

pub count-carried : (stream s : ℕ) (packet : QueuedPacket) (rows : List Row) → s ≡ stream
    → count_by (is_of stream) (rows ++ Carries s packet ∷ []) ≡ count_by (is_of stream) rows + 1
count-carried stream s packet rows e = count-push stream rows (Carries s packet) ∙ ap (λ n. count_by (is_of stream) rows + n) (cond-true (eqb s stream) 1 0 (eq-eqb s stream e))

pub count-reserved : (stream : ℕ) (sent : Sent) (rows : List Row) → count_by (is_of stream) (rows ++ Reserved sent ∷ []) ≡ count_by (is_of stream) rows
count-reserved stream sent rows = count-push stream rows (Reserved sent) ∙ add-zero _

pub count-empty : (stream : ℕ) (rows : List Row) → count_by (is_of stream) (rows ++ Empty ∷ []) ≡ count_by (is_of stream) rows
count-empty stream rows = count-push stream rows Empty ∙ add-zero _

-- ---- by the rule, the packets of a stream in the rows are the first of its list
-- what the rows tell of a stream with these packets
abbrev pub SentFirst : ℕ → List QueuedPacket → List Row → Type 0
SentFirst stream packets rows =
    (count_by (is_of stream) rows ≤ length packets) × (packets_sent stream rows ≡ take (count_by (is_of stream) rows) packets)

SentFirst-carried : (stream : ℕ) (packets : List QueuedPacket) (rows : List Row) (packet : QueuedPacket)
    → SentFirst stream packets rows → slice_get packets (count_by (is_of stream) rows) ≡ Some packet → SentFirst stream packets (rows ++ Carries stream packet ∷ [])
SentFirst-carried stream packets rows packet (fits, same) got =
    let within : count_by (is_of stream) rows < length packets = slice_get_within packets (count_by (is_of stream) rows) packet got in (
      rw (count-carried stream stream packet rows refl) (omega arith),
      rw (
        packets_sent-push stream rows (Carries stream packet),
        packet_of-carried stream stream packet refl,
        count-carried stream stream packet rows refl,
        same,
      )
          (sym (take_more packets (count_by (is_of stream) rows) packet within
          ∙ ap (λ p. take (count_by (is_of stream) rows) packets ++ p ∷ [])
          (get_or_from_slice_get packets (count_by (is_of stream) rows) packet packet got))),
    )

SentFirst-same : (stream : ℕ) (packets : List QueuedPacket) (rows : List Row) (row : Row)
    → is_of stream row ≡ false → packet_of stream row ≡ [] → SentFirst stream packets rows → SentFirst stream packets (rows ++ row ∷ [])
SentFirst-same stream packets rows row other none (fits, same) =
    let count : count_by (is_of stream) (rows ++ row ∷ []) ≡ count_by (is_of stream) rows = count-push stream rows row ∙ ap (λ b. count_by (is_of stream) rows + cond b 1 0) other ∙ add-zero _ in
    (rw count fits, rw (packets_sent-push stream rows row, none, count, same) (append-nil _))

SentFirst-row : (table : Table) (choice : List ℕ) (stream : ℕ) (kind : QueueKind) (packets : List QueuedPacket) (rows : List Row) (row : Row)
    → slice_get (queues_of table choice) stream ≡ Some (record { kind = kind; packets = packets })
    → IsNext table choice rows row → SentFirst stream packets rows → SentFirst stream packets (rows ++ row ∷ [])
SentFirst-row table choice stream kind packets rows (Reserved sent) got next first = SentFirst-same stream packets rows (Reserved sent) refl refl first
SentFirst-row table choice stream kind packets rows Empty got next first = SentFirst-same stream packets rows Empty refl refl first
SentFirst-row table choice stream kind packets rows (Carries s packet) got next first =
    elim (cases_eq s stream) as (λ _. SentFirst stream packets (rows ++ Carries s packet ∷ [])) [
      | inl e ↦
          (let head : IsHead (queues_of table choice) rows stream next.1.kind packet = subst (λ (n : ℕ). IsHead (queues_of table choice) rows n next.1.kind packet) e next.1.head in
          let same : ◌≡◌ {A = Queue} (record { kind = next.1.kind; packets = head.0 }) (record { kind = kind; packets = packets }) = same_Some _ _ (sym head.1 ∙ got) in
          let first' : SentFirst stream packets (rows ++ Carries stream packet ∷ []) = SentFirst-carried stream packets rows packet first
          (subst (λ (list : List QueuedPacket). slice_get list (count_by (is_of stream) rows) ≡ Some packet) (ap (λ (s : Queue). s.packets) same) head.2) in
          subst (λ (n : ℕ). SentFirst stream packets (rows ++ Carries n packet ∷ [])) (sym e) first')
      | inr apart ↦ SentFirst-same stream packets rows (Carries s packet) (ne_eqb s stream apart) (packet_of-other stream s packet apart) first
    ]

-- the packets of a stream that stand in the rows are the first of its list, in order
pub FollowRule-sent : (table : Table) (choice : List ℕ) (stream : ℕ) (kind : QueueKind) (packets : List QueuedPacket)
    → slice_get (queues_of table choice) stream ≡ Some (record { kind = kind; packets = packets })
    → (rows : List Row) → FollowRule table choice rows → SentFirst stream packets rows
FollowRule-sent table choice stream kind packets got =
    by_push (λ rows. FollowRule table choice rows → SentFirst stream packets rows) (λ follows. (zero-le, refl))
    (λ rows row first follows. SentFirst-row table choice stream kind packets rows row got (FollowRule-last table choice rows row follows)
    (first (FollowRule-front table choice rows (row ∷ []) follows)))

-- ---- the bytes that are still in the decoder
-- the payload of a packet that is gone later than a time
abbrev pub payload_after : ℕ → QueuedPacket → ℕ
payload_after time packet = if nat_lt time packet.gone then packet.payload else 0

abbrev pub payload_of : QueuedPacket → ℕ
payload_of packet = packet.payload

outstanding_in-is : (stream time : ℕ) (row : Row) → outstanding_in stream time row ≡ sum_by (payload_after time) (packet_of stream row)
outstanding_in-is stream time (Reserved sent) = refl
outstanding_in-is stream time Empty = refl
outstanding_in-is stream time (Carries s packet) =
    elim (cases_Bool (eqb s stream)) as (λ _. outstanding_in stream time (Carries s packet) ≡ sum_by (payload_after time) (packet_of stream (Carries s packet))) [
      | inl e ↦ rw e (sym (zero-add (payload_after time packet)))
      | inr e ↦ rw e refl
    ]

pub outstanding-sent : (stream time : ℕ) (rows : List Row) → outstanding stream time rows ≡ sum_by (payload_after time) (packets_sent stream rows)
outstanding-sent stream time [] = refl
outstanding-sent stream time (row ∷ rows) =
    sum_by-cons (outstanding_in stream time) row rows ∙ ap₂ ◌+◌ (outstanding_in-is stream time row) (outstanding-sent stream time rows)
    ∙ sym (sum_by-append (payload_after time) (packet_of stream row) (packets_sent stream rows))

-- the packets before place j are gone at the time, and the others are not
abbrev pub GoneBefore : (time j : ℕ) → List QueuedPacket → Type 0
GoneBefore time j packets =
    ((i : ℕ) (d : QueuedPacket) → i < j → i < length packets → (get_or packets i d).gone ≤ time)
    × ((i : ℕ) (d : QueuedPacket) → j ≤ i → i < length packets → time < (get_or packets i d).gone)

payload_after-late : (time : ℕ) (packet : QueuedPacket) → time < packet.gone → payload_after time packet ≡ packet.payload
payload_after-late time packet late = cond-true (ltb time packet.gone) packet.payload 0 (lt-ltb time packet.gone late)

payload_after-gone : (time : ℕ) (packet : QueuedPacket) → packet.gone ≤ time → payload_after time packet ≡ 0
payload_after-gone time packet gone = cond-false (ltb time packet.gone) packet.payload 0 (le-ltb time packet.gone gone)

sum_by-payload_after : (time j : ℕ) (packets : List QueuedPacket) → GoneBefore time j packets → sum_by (payload_after time) packets ≡ sum_by payload_of (drop j packets)
sum_by-payload_after time zero [] (gone, late) = refl
sum_by-payload_after time (suc j) [] (gone, late) = refl
sum_by-payload_after time zero (packet ∷ packets) (gone, late) =
    sum_by-cons (payload_after time) packet packets
    ∙ ap₂ ◌+◌ (payload_after-late time packet (late 0 packet zero-le (omega arith)))
    (sum_by-payload_after time zero packets ((λ i d none within. absurd (omega arith)), (λ i d from within. late (suc i) d zero-le (omega arith))))
    ∙ sym (sum_by-cons payload_of packet packets)
sum_by-payload_after time (suc j) (packet ∷ packets) (gone, late) =
    sum_by-cons (payload_after time) packet packets
    ∙ ap₂ ◌+◌ (payload_after-gone time packet (gone 0 packet (omega arith) (omega arith)))
    (sum_by-payload_after time j packets ((λ i d before within. gone (suc i) d (omega arith) (omega arith)), (λ i d from within. late (suc i) d (omega arith) (omega arith))))
    ∙ zero-add _

-- where gone times don't fall, the last that is gone and the first that is not tell of all
pub GoneBefore-from_ends : (time j k : ℕ) (packets : List QueuedPacket) (d : QueuedPacket) → IsNonDecreasingBy (λ packet. packet.gone) packets → j ≤ k → k ≤ length packets
    → (0 < j → (get_or packets (j - 1) d).gone ≤ time) → (j < k → time < (get_or packets j d).gone) → GoneBefore time j (take k packets)
GoneBefore-from_ends time j k packets d rises below fits gone late =
    let size : length (take k packets) ≡ k = length-take-le k packets fits in (
      (λ i e before within.
          let last : get_or packets (j - 1) e ≡ get_or packets (j - 1) d = get_or_default packets (j - 1) e d (omega arith) in
          let small : i < k = omega arith in
          rw (get_or-take k packets i e) (le_trans (rises i (j - 1) e (omega arith) (omega arith)) (rw last (gone (omega arith))))),
      (λ i e from within.
          let next : get_or packets j e ≡ get_or packets j d = get_or_default packets j e d (omega arith) in
          let small : i < k = omega arith in
          rw (get_or-take k packets i e) (lt_of_lt_of_le (rw next (late (omega arith))) (rises j i e from (omega arith)))),
    )

-- the payload bytes of packets j up to k: those that were sent and are not gone
abbrev pub held : (j k : ℕ) → List QueuedPacket → ℕ
held j k packets = sum_by payload_of (drop j (take k packets))

-- one more packet is sent
pub held-push : (j k : ℕ) (packets : List QueuedPacket) (d : QueuedPacket) → j ≤ k → k < length packets → held j (k + 1) packets ≡ held j k packets + (get_or packets k d).payload
held-push j k packets d below within =
    let size : j ≤ length (take k packets) = rw length-take (omega arith) in
    rw (take_more packets k d within, drop-append-le j (take k packets) (get_or packets k d ∷ [])) (sum_by_push payload_of (drop j (take k packets)) (get_or packets k d))

-- one more packet is gone
pub held-pop : (j k : ℕ) (packets : List QueuedPacket) (d : QueuedPacket) → j < k → k ≤ length packets → held j k packets ≡ (get_or packets j d).payload + held (j + 1) k packets
held-pop j k packets d below fits =
    let size : length (take k packets) ≡ k = length-take-le k packets fits in
    rw (← get_or-take k packets j d below) (sum_by-drop_more payload_of (take k packets) j d (omega arith))

-- the outstanding bytes at a time are those of the packets from the first that is not gone up to the last that was sent
pub outstanding-is : (table : Table) (choice : List ℕ) (stream : ℕ) (kind : QueueKind) (packets : List QueuedPacket)
    → slice_get (queues_of table choice) stream ≡ Some (record { kind = kind; packets = packets }) → IsNonDecreasingBy (λ packet. packet.gone) packets
    → (rows : List Row) → FollowRule table choice rows
    → (time j k : ℕ) (d : QueuedPacket) → k ≡ count_by (is_of stream) rows → j ≤ k
    → (0 < j → (get_or packets (j - 1) d).gone ≤ time) → (j < k → time < (get_or packets j d).gone)
    → outstanding stream time rows ≡ held j k packets
outstanding-is table choice stream kind packets got rises rows follows time j k d count below gone late =
    let first : SentFirst stream packets rows = FollowRule-sent table choice stream kind packets got rows follows in
    let same : packets_sent stream rows ≡ take k packets = first.1 ∙ ap (λ n. take n packets) (sym count) in
    outstanding-sent stream time rows ∙ ap (λ list. sum_by (payload_after time) list) same
    ∙ sum_by-payload_after time j (take k packets) (GoneBefore-from_ends time j k packets d rises below (omega arith) gone late)

pub held-le : (j k most : ℕ) (packets : List QueuedPacket) → All (λ packet. packet.payload ≤ most) packets → held j k packets ≤ k * most
held-le j k most packets each =
    let P : QueuedPacket → Type 0 = λ packet. packet.payload ≤ most in
    let size : length (drop j (take k packets)) ≤ k = rw (length-drop, length-take) (omega arith) in
    le_trans (sum_by-le payload_of most (drop j (take k packets)) (All-drop P j (take k packets) (All-take P k packets each))) (mul-le-mul_right most size)
