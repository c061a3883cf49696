-- What each packet keeps that stands in a row of a schedule, by the number of its slot, and how many slots packets have.
use Rattle.std.proofs.Common.{◌≡◌, ℕ, zero, suc, ◌+◌, ◌*◌, ◌<◌, ◌≤◌, Bool, cond, eqb, nat_le, List, [], ◌∷◌, ◌++◌, length, take, drop, count_by, sum_by, None, is_none, refl, sym, ap, subst, ◌∙◌, inl, inr, add-zero, append_assoc, arith}
use Rattle.std.specs.List.{range_with_len}
use Rattle.std.proofs.lemmas.Bool.{cases_Bool, cases_lt, cases_eq, le-leb, lt-leb}
use Rattle.std.proofs.lemmas.List.{length_push}
use Rattle.std.proofs.lemmas.List.Sums.{sum_by-cons}
use Rattle.stream_constants.specs.declared.clock.TheConstants.{SUBTICKS_PER_TICK}
use Rattle.stream_constants.specs.declared.decoder.TheConstants.{HOLD_TICKS}
use Rattle.stream_constants.specs.declared.packets.TheConstants.{PAYLOAD_BYTES}
use Rattle.version_table.specs.declared.table.Table.{Table}
use Rattle.version_table.specs.Table.{IsValidTable}
use Rattle.version_table.specs.Choice.{Fits}
use Rattle.slot_rule.specs.declared.queued_packet.QueuedPacket.{QueuedPacket}
use Rattle.slot_rule.specs.declared.row.Row.{Row}
use Rattle.slot_rule.specs.declared.row.Row.TheVariants.{Reserved, Carries, Empty}
use Rattle.slot_rule.specs.Queues.{queues_of}
use Rattle.slot_rule.specs.Schedule.{IsSchedule, end_with_margin, mb_or_tb_work}
use Rattle.slot_rule.specs.Timetable.{reserved}
use Rattle.slot_rule.proofs.RuleFronts.{AtEach}
use Rattle.slot_rule.proofs.RuleQueues.{IsLimited, IsHead-limited}
use Rattle.slot_rule.proofs.RuleRows.{IsNext, NoneMisses}
use Rattle.slot_rule.proofs.RuleSent.{packet_of, packet_of-carried, packet_of-other, packets_sent}
use Rattle.std.proofs.lemmas.List.Sums.{sum_by-append}
use Rattle.dual_bounds.specs.declared.constants.TheConstants.{MARGIN_TICKS}

-- a packet stands in the slot of this number as the rule has it
pub record StandsIn (table : Table) (n : ℕ) (packet : QueuedPacket) : Type 0 where
  pub free : reserved table.slot (length table.programs) n ≡ None
  pub hold : packet.gone ≤ n * table.slot + HOLD_TICKS
  pub in_time : (n + 1) * table.slot + MARGIN_TICKS ≤ packet.due
  pub limited : IsLimited table.slot packet

-- the packet in the row, if there is one, stands so
abbrev pub Stands : Table → ℕ → Row → Type 0
Stands table n (Carries stream packet) = StandsIn table n packet
Stands table n (Reserved sent) = Unit {0}
Stands table n Empty = Unit {0}

-- P holds of each row, the first of which is that of the slot of this number
abbrev pub EachFrom : (ℕ → Row → Type 0) → ℕ → List Row → Type 0
EachFrom P n [] = Unit {0}
EachFrom P n (row ∷ rows) = P n row × EachFrom P (n + 1) rows

-- ---- a row of a schedule
row_stands : (table : Table) (choice : List ℕ) → IsValidTable table → Fits table choice → (rows : List Row) (row : Row)
    → IsNext table choice rows row → NoneMisses table.slot (queues_of table choice) rows row → Stands table (length rows) row
row_stands table choice valid fits rows (Reserved sent) next none = tt
row_stands table choice valid fits rows Empty next none = tt
row_stands table choice valid fits rows (Carries stream packet) next none =
    let kind = next.1.kind in
    let whole = rows ++ Carries stream packet ∷ [] in
    let limited : IsLimited table.slot packet = IsHead-limited table choice rows stream kind packet valid fits next.1.head in
    let size : length whole ≡ length rows + 1 = length_push rows (Carries stream packet) in
    let late = end_with_margin table.slot whole + mb_or_tb_work table.slot stream kind whole in
    elim (cases_lt (SUBTICKS_PER_TICK * packet.due) late) as (λ _. StandsIn table (length rows) packet) [
      | inl misses ↦ absurd (none stream packet (inl (record { before = rows; went = refl; kind = kind; head = next.1.head; late = misses })))
      | inr early ↦
          (let slots : length whole * table.slot ≡ (length rows + 1) * table.slot = ap (λ n. n * table.slot) size in
          record { free = next.0; hold = next.1.permitted.hold; in_time = omega arith; limited = limited })
    ]

each_from : (P : ℕ → Row → Type 0) (whole : List Row) → AtEach (λ before row. P (length before) row) whole
    → (rest front : List Row) → whole ≡ front ++ rest → EachFrom P (length front) rest
each_from P whole each [] front e = tt
each_from P whole each (row ∷ rest) front e =
    let next : EachFrom P (length (front ++ row ∷ [])) rest = each_from P whole each rest (front ++ row ∷ []) (e ∙ sym (append_assoc front (row ∷ []) rest)) in
    (each front row rest e, subst (λ n. EachFrom P n rest) (length_push front row) next)

-- each packet of a schedule stands so
pub schedule_stands : (table : Table) (choice : List ℕ) (rows : List Row) → IsValidTable table → Fits table choice → IsSchedule table choice rows → EachFrom (Stands table) 0 rows
schedule_stands table choice rows valid fits schedule =
    each_from (Stands table) rows
    (λ before row after e. row_stands table choice valid fits before row (schedule.follows before row after e) (λ stream packet. schedule.in_time before row after stream packet e)) rows [] refl

-- ---- the first rows, and the others
pub EachFrom-take : (P : ℕ → Row → Type 0) (n k : ℕ) (rows : List Row) → EachFrom P n rows → EachFrom P n (take k rows)
EachFrom-take P n zero [] each = tt
EachFrom-take P n zero (row ∷ rows) each = tt
EachFrom-take P n (suc k) [] each = tt
EachFrom-take P n (suc k) (row ∷ rows) each = (each.0, EachFrom-take P (n + 1) k rows each.1)

pub EachFrom-drop : (P : ℕ → Row → Type 0) (n k : ℕ) (rows : List Row) → EachFrom P n rows → EachFrom P (n + k) (drop k rows)
EachFrom-drop P n zero rows each = subst (λ m. EachFrom P m rows) (sym (add-zero n)) each
EachFrom-drop P n (suc k) [] each = tt
EachFrom-drop P n (suc k) (row ∷ rows) each =
    let next : (n + 1) + k ≡ n + suc k = omega arith in subst (λ m. EachFrom P m (drop k rows)) next (EachFrom-drop P (n + 1) k rows each.1)

-- ---- packets take free slots
-- the slot of this number is free
abbrev pub is_free : Table → ℕ → Bool
is_free table n = is_none (reserved table.slot (length table.programs) n)

-- a whole payload for the packet in the row, if there is one
abbrev pub slot_bytes : Row → ℕ
slot_bytes (Carries stream packet) = PAYLOAD_BYTES
slot_bytes (Reserved sent) = 0
slot_bytes Empty = 0

slot_bytes-free : (table : Table) (n : ℕ) (row : Row) → Stands table n row → slot_bytes row ≤ PAYLOAD_BYTES * cond (is_free table n) 1 0
slot_bytes-free table n (Reserved sent) stands = omega arith
slot_bytes-free table n Empty stands = omega arith
slot_bytes-free table n (Carries stream packet) stands =
    let one : cond (is_free table n) 1 0 ≡ 1 = ap {B = ℕ} (λ (b : Bool). cond b 1 0) (ap is_none stands.free) in omega (arith, one)

-- so many slots from the one of this number on
pub count_more : (p : ℕ → Bool) (n k more : ℕ) → count_by p (range_with_len n k) ≤ count_by p (range_with_len n (k + more))
count_more p n zero more = omega arith
count_more p n (suc k) more =
    let next : suc k + more ≡ suc (k + more) = omega arith in
    omega (
      arith,
      sum_by-cons (λ m. cond (p m) 1 0) n (range_with_len (n + 1) k),
      ap (λ m. count_by p (range_with_len n m)) next,
      sum_by-cons (λ m. cond (p m) 1 0) n (range_with_len (n + 1) (k + more)),
      count_more p (n + 1) k more,
    )

pub slots_fit : (table : Table) (n : ℕ) (rows : List Row) → EachFrom (Stands table) n rows
    → sum_by slot_bytes rows ≤ PAYLOAD_BYTES * count_by (is_free table) (range_with_len n (length rows))
slots_fit table n [] each = omega arith
slots_fit table n (row ∷ rows) each =
    omega (
      arith,
      sum_by-cons slot_bytes row rows,
      sum_by-cons (λ m. cond (is_free table m) 1 0) n (range_with_len (n + 1) (length rows)),
      slot_bytes-free table n row each.0,
      slots_fit table (n + 1) rows each.1,
    )

-- ---- packets of some queues
-- the same where the packet is of a queue from this number on
abbrev pub slot_bytes_from : (first : ℕ) → Row → ℕ
slot_bytes_from first (Carries stream packet) = cond (nat_le first stream) PAYLOAD_BYTES 0
slot_bytes_from first (Reserved sent) = 0
slot_bytes_from first Empty = 0

-- what is counted of a packet is no more than a whole payload, where its own payload is no more
abbrev pub IsWithinSlot : (QueuedPacket → ℕ) → Type 0
IsWithinSlot weight = (packet : QueuedPacket) → packet.payload ≤ PAYLOAD_BYTES → weight packet ≤ PAYLOAD_BYTES

row_parts : (table : Table) (n : ℕ) (weight : QueuedPacket → ℕ) (first : ℕ) (row : Row) → IsWithinSlot weight → Stands table n row
    → sum_by weight (packet_of first row) + slot_bytes_from (first + 1) row ≤ slot_bytes_from first row
row_parts table n weight first (Reserved sent) most stands = omega arith
row_parts table n weight first Empty most stands = omega arith
row_parts table n weight first (Carries stream packet) most stands =
    elim (cases_eq stream first) as (λ _. sum_by weight (packet_of first (Carries stream packet)) + slot_bytes_from (first + 1) (Carries stream packet) ≤ slot_bytes_from first
    (Carries stream packet)) [
      | inl same ↦
          (let own : weight packet ≤ PAYLOAD_BYTES = most packet stands.limited.payload in
          rw (packet_of-carried first stream packet same, lt-leb (first + 1) stream (omega arith), le-leb first stream (omega arith)) (omega (arith, own)))
      | inr apart ↦ rw (packet_of-other first stream packet apart)
          (elim (cases_lt stream first) as (λ _. 0 + slot_bytes_from (first + 1) (Carries stream packet) ≤ slot_bytes_from first (Carries stream packet)) [
            | inl below ↦ rw (lt-leb (first + 1) stream (omega arith)) (omega arith)
            | inr above ↦ rw (le-leb (first + 1) stream (omega arith), le-leb first stream (omega arith)) (omega arith)
          ])
    ]

-- what is counted of one queue's packets takes slots that those of the later queues don't
pub queue_parts : (table : Table) (n : ℕ) (weight : QueuedPacket → ℕ) (first : ℕ) (rows : List Row) → IsWithinSlot weight → EachFrom (Stands table) n rows
    → sum_by weight (packets_sent first rows) + sum_by (slot_bytes_from (first + 1)) rows ≤ sum_by (slot_bytes_from first) rows
queue_parts table n weight first [] most each = omega arith
queue_parts table n weight first (row ∷ rows) most each =
    omega (
      arith,
      sum_by-append weight (packet_of first row) (packets_sent first rows),
      sum_by-cons (slot_bytes_from (first + 1)) row rows,
      sum_by-cons (slot_bytes_from first) row rows,
      row_parts table n weight first row most each.0,
      queue_parts table (n + 1) weight first rows most each.1,
    )

slot_bytes_from-le : (first : ℕ) (row : Row) → slot_bytes_from first row ≤ slot_bytes row
slot_bytes_from-le first (Reserved sent) = omega arith
slot_bytes_from-le first Empty = omega arith
slot_bytes_from-le first (Carries stream packet) = elim (cases_lt stream first) as (λ _. slot_bytes_from first (Carries stream packet) ≤ PAYLOAD_BYTES) [
  | inl below ↦ rw (lt-leb first stream below) (omega arith)
  | inr above ↦ rw (le-leb first stream above) (omega arith)
]

pub slots_of_queues : (first : ℕ) (rows : List Row) → sum_by (slot_bytes_from first) rows ≤ sum_by slot_bytes rows
slots_of_queues first [] = omega arith
slots_of_queues first (row ∷ rows) =
    omega (arith, sum_by-cons (slot_bytes_from first) row rows, sum_by-cons slot_bytes row rows, slot_bytes_from-le first row, slots_of_queues first rows)

-- ---- what is counted of a stream's packets in some rows, by the slots in which they stand
row_le : (table : Table) (f g : QueuedPacket → ℕ) (stream n : ℕ) (row : Row) → ((packet : QueuedPacket) → StandsIn table n packet → f packet ≤ g packet) → Stands table n row
    → sum_by f (packet_of stream row) ≤ sum_by g (packet_of stream row)
row_le table f g stream n (Reserved sent) le stands = omega arith
row_le table f g stream n Empty le stands = omega arith
row_le table f g stream n (Carries s packet) le stands =
    elim (cases_Bool (eqb s stream)) as (λ _. sum_by f (packet_of stream (Carries s packet)) ≤ sum_by g (packet_of stream (Carries s packet))) [
      | inl e ↦ rw e (omega (arith, le packet stands))
      | inr e ↦ rw e (omega arith)
    ]

pub sums_le : (table : Table) (f g : QueuedPacket → ℕ) (stream n : ℕ) (rows : List Row)
    → ((k : ℕ) (packet : QueuedPacket) → n ≤ k → k < n + length rows → StandsIn table k packet → f packet ≤ g packet)
    → EachFrom (Stands table) n rows → sum_by f (packets_sent stream rows) ≤ sum_by g (packets_sent stream rows)
sums_le table f g stream n [] le each = omega arith
sums_le table f g stream n (row ∷ rows) le each =
    omega (
      arith,
      sum_by-append f (packet_of stream row) (packets_sent stream rows),
      sum_by-append g (packet_of stream row) (packets_sent stream rows),
      row_le table f g stream n row (λ packet stands. le n packet (omega arith) (omega arith) stands) each.0,
      sums_le table f g stream (n + 1) rows (λ k packet low high stands. le k packet (omega arith) (omega arith) stands) each.1,
    )

pub sum_of_none : (packets : List QueuedPacket) → sum_by (λ (packet : QueuedPacket). 0) packets ≡ 0
sum_of_none [] = refl
sum_of_none (packet ∷ packets) = omega (arith, sum_by-cons (λ (p : QueuedPacket). 0) packet packets, sum_of_none packets)
