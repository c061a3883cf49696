-- The packets of a scheduled choice that are due in a window stand in slots that serve it.
use Rattle.std.proofs.Common.{
  ◌≡◌,
  ℕ,
  suc,
  ◌+◌,
  ◌*◌,
  ◌/◌,
  ◌<◌,
  ◌≤◌,
  Bool,
  true,
  false,
  cond,
  nat_le,
  ◌&&◌,
  List,
  [],
  ◌∷◌,
  ◌++◌,
  length,
  count_by,
  sum_by,
  slice_get,
  Some,
  None,
  is_none,
  refl,
  sym,
  ap,
  ◌∙◌,
  inl,
  inr,
  arith,
}
use Rattle.std.proofs.lemmas.Bool.{cases_lt, cases_eq, and_parts, and_from, leb-true, le-leb, lt-leb, false≢true}
use Rattle.std.proofs.lemmas.Nat.{le-div}
use Rattle.std.proofs.lemmas.List.{length_push, take_all}
use Rattle.std.proofs.lemmas.List.Sums.{sum_by-cons, sum_by-append, sum_by_push}
use Rattle.std.proofs.lemmas.Option.{slice_get_cases}
use Rattle.stream_constants.specs.declared.clock.TheConstants.{SUBTICKS_PER_TICK}
use Rattle.stream_constants.specs.declared.decoder.TheConstants.{HOLD_TICKS}
use Rattle.version_table.specs.declared.table.Table.{Table}
use Rattle.version_table.specs.Table.{IsValidTable}
use Rattle.version_table.specs.Choice.{Fits}
use Rattle.slot_rule.specs.declared.queued_packet.QueuedPacket.{QueuedPacket}
use Rattle.slot_rule.specs.declared.row.Row.{Row}
use Rattle.slot_rule.specs.declared.row.Row.TheVariants.{Reserved, Carries, Empty}
use Rattle.slot_rule.specs.Buffers.{is_of}
use Rattle.slot_rule.specs.Queues.{Queue, queues_of}
use Rattle.slot_rule.specs.Schedule.{AllSent, FollowRule, IsSchedule, NoMiss, end_with_margin, mb_or_tb_work}
use Rattle.slot_rule.specs.Timetable.{reserved}
use Rattle.slot_rule.proofs.RuleFronts.{AtEach-front, by_push}
use Rattle.slot_rule.proofs.RuleQueues.{IsLimited, IsHead-limited}
use Rattle.slot_rule.proofs.RuleRows.{IsNext, NoneMisses, FollowRule-front, FollowRule-last, NoMiss-last}
use Rattle.slot_rule.proofs.RuleSent.{FollowRule-sent, packet_of, packet_of-carried, packet_of-other, packets_sent}
use Rattle.dual_bounds.specs.declared.constants.TheConstants.{MARGIN_TICKS}
use Rattle.dual_bounds.specs.Room.{is_within, serves, free_slots}
use Rattle.dual_bounds.proofs.Ranges.{count_below, count_below-more, count_below-within}

-- the row carries a packet that is due in the window
abbrev pub carries_due : (from due : ℕ) → Row → Bool
carries_due from due (Carries stream packet) = is_within from due packet.due
carries_due from due (Reserved sent) = false
carries_due from due Empty = false

-- ---- a row that carries one stands in a slot that serves the window
serves_there : (table : Table) (from due n gone packet_due : ℕ) → reserved table.slot (length table.programs) n ≡ None
    → gone ≤ n * table.slot + HOLD_TICKS → packet_due ≤ gone → is_within from due packet_due ≡ true
    → (n + 1) * table.slot + MARGIN_TICKS ≤ packet_due → serves table from due n ≡ true
unfolding serves
serves_there table from due n gone packet_due free hold leaves within early =
    let ends = and_parts (nat_le from packet_due) (nat_le packet_due due) within in
    let low : from ≤ packet_due = leb-true from packet_due ends.0 in
    let high : packet_due ≤ due = leb-true packet_due due ends.1 in
    let is_free = is_none (reserved table.slot (length table.programs) n) in
    let begins = nat_le from (n * table.slot + HOLD_TICKS) in
    let in_time = nat_le ((n + 1) * table.slot + MARGIN_TICKS) due in
    and_from (is_free && begins) in_time
    (and_from is_free begins (ap is_none free) (le-leb from (n * table.slot + HOLD_TICKS) (omega arith)))
    (le-leb ((n + 1) * table.slot + MARGIN_TICKS) due (omega arith))

row_serves : (table : Table) (choice : List ℕ) → IsValidTable table → Fits table choice → (from due : ℕ) (rows : List Row) (row : Row)
    → IsNext table choice rows row → NoneMisses table.slot (queues_of table choice) rows row → carries_due from due row ≡ true → serves table from due (length rows) ≡ true
row_serves table choice valid fits from due rows (Reserved sent) next none within = absurd (false≢true within)
row_serves table choice valid fits from due rows Empty next none within = absurd (false≢true within)
row_serves table choice valid fits from due rows (Carries stream packet) next none within =
    let queues = queues_of table choice in
    let kind = next.1.kind in
    let whole = rows ++ Carries stream packet ∷ [] in
    let limited : IsLimited table.slot packet = IsHead-limited table choice rows stream kind packet valid fits next.1.head in
    let size : length whole ≡ length rows + 1 = length_push rows (Carries stream packet) in
    let late = end_with_margin table.slot whole + mb_or_tb_work table.slot stream kind whole in
    elim (cases_lt (SUBTICKS_PER_TICK * packet.due) late) as (λ _. serves table from due (length rows) ≡ true) [
      | inl misses ↦ absurd (none stream packet (inl (record { before = rows; went = refl; kind = kind; head = next.1.head; late = misses })))
      | inr early ↦
          (let slots : length whole * table.slot ≡ (length rows + 1) * table.slot = ap (λ n. n * table.slot) size in
          serves_there table from due (length rows) packet.gone packet.due next.0 next.1.permitted.hold limited.due within (omega arith))
    ]

pub NoMiss-front : (slot : ℕ) (queues : List Queue) (rows more : List Row) → NoMiss slot queues (rows ++ more) → NoMiss slot queues rows
NoMiss-front slot queues rows more none before row after stream packet e =
    AtEach-front (NoneMisses slot queues) rows more (λ before' row' after' e' stream' packet'. none before' row' after' stream' packet' e') before row after e stream packet

one_at_most : (carries serve : Bool) → (carries ≡ true → serve ≡ true) → cond carries 1 0 ≤ cond serve 1 0
one_at_most false serve gives = omega arith
one_at_most true serve gives = omega (arith, ap {B = ℕ} (λ b. cond b 1 0) (gives refl))

-- as many slots serve the window as rows carry packets that are due in it
carried_serve : (table : Table) (choice : List ℕ) → IsValidTable table → Fits table choice → (from due : ℕ) (rows : List Row) → FollowRule table choice rows
    → NoMiss table.slot (queues_of table choice) rows → count_by (carries_due from due) rows ≤ count_below (serves table from due) (length rows)
carried_serve table choice valid fits from due =
    let queues = queues_of table choice in
    by_push (λ rows. FollowRule table choice rows → NoMiss table.slot queues rows → count_by (carries_due from due) rows ≤ count_below (serves table from due) (length rows))
    (λ follows none. omega arith)
    (λ rows row before follows none.
    let earlier : count_by (carries_due from due) rows ≤ count_below (serves table from due) (length rows) =
    before (FollowRule-front table choice rows (row ∷ []) follows) (NoMiss-front table.slot queues rows (row ∷ []) none) in
    let size : length (rows ++ row ∷ []) ≡ suc (length rows) = length_push rows row ∙ omega arith in
    let here : cond (carries_due from due row) 1 0 ≤ cond (serves table from due (length rows)) 1 0 =
    one_at_most (carries_due from due row) (serves table from due (length rows))
    (row_serves table choice valid fits from due rows row (FollowRule-last table choice rows row follows) (NoMiss-last table.slot queues rows row none)) in
    omega (arith, sum_by_push (λ r. cond (carries_due from due r) 1 0) rows row, ap (count_below (serves table from due)) size, count_below-more (serves table from due) (length rows)))

-- a slot that serves the window ends by its end
serves_below : (table : Table) → IsValidTable table → (from due n : ℕ) → serves table from due n ≡ true → n < due / table.slot
unfolding serves
serves_below table valid from due n serve =
    let is_free = is_none (reserved table.slot (length table.programs) n) in
    let begins = nat_le from (n * table.slot + HOLD_TICKS) in
    let in_time = nat_le ((n + 1) * table.slot + MARGIN_TICKS) due in
    let ends : (n + 1) * table.slot + MARGIN_TICKS ≤ due = leb-true ((n + 1) * table.slot + MARGIN_TICKS) due (and_parts (is_free && begins) in_time serve).1 in
    let below : n + 1 ≤ due / table.slot = le-div (n + 1) due table.slot (omega (arith, valid.slot_least)) (omega arith) in
    omega arith

-- the free slots of the window are at least the rows that carry packets which are due in it
pub carried_fit : (table : Table) (choice : List ℕ) → IsValidTable table → Fits table choice → (from due : ℕ) (rows : List Row) → FollowRule table choice rows
    → NoMiss table.slot (queues_of table choice) rows → count_by (carries_due from due) rows ≤ free_slots table from due
unfolding free_slots
carried_fit table choice valid fits from due rows follows none =
    omega (
      arith,
      carried_serve table choice valid fits from due rows follows none,
      count_below-within (serves table from due) (due / table.slot) (serves_below table valid from due) (length rows),
    )

-- ---- rows that carry packets of some queues
-- the packets of a queue that are due in the window
abbrev pub due_in : (from due : ℕ) → List QueuedPacket → ℕ
due_in from due packets = count_by (λ packet. is_within from due packet.due) packets

-- the row carries a packet of a queue from this number on that is due in the window
abbrev due_from : (from due first : ℕ) → Row → Bool
due_from from due first (Carries stream packet) = nat_le first stream && is_within from due packet.due
due_from from due first (Reserved sent) = false
due_from from due first Empty = false

row_parts : (from due first : ℕ) (row : Row) → due_in from due (packet_of first row) + cond (due_from from due (first + 1) row) 1 0 ≤ cond (due_from from due first row) 1 0
row_parts from due first (Reserved sent) = omega arith
row_parts from due first Empty = omega arith
row_parts from due first (Carries stream packet) =
    let within = is_within from due packet.due in
    elim (cases_eq stream first) as (λ _. due_in from due (packet_of first (Carries stream packet)) + cond (due_from from due (first + 1) (Carries stream packet)) 1 0 ≤ cond
    (due_from from due first (Carries stream packet)) 1 0) [
      | inl same ↦
          rw (packet_of-carried first stream packet same, lt-leb (first + 1) stream (omega arith), le-leb first stream (omega arith)) (omega arith)
      | inr apart ↦ rw (packet_of-other first stream packet apart)
          (elim (cases_lt stream first) as (λ _. 0 + cond (due_from from due (first + 1) (Carries stream packet)) 1 0 ≤ cond (due_from from due first (Carries stream packet)) 1 0) [
            | inl below ↦ rw (lt-leb (first + 1) stream (omega arith)) (omega arith)
            | inr above ↦ rw (le-leb (first + 1) stream (omega arith), le-leb first stream (omega arith)) (omega arith)
          ])
    ]

rows_parts : (from due first : ℕ) (rows : List Row) → due_in from due (packets_sent first rows) + count_by (due_from from due (first + 1)) rows ≤ count_by (due_from from due first) rows
rows_parts from due first [] = omega arith
rows_parts from due first (row ∷ rows) =
    omega (
      arith,
      sum_by-append (λ (p : QueuedPacket). cond (is_within from due p.due) 1 0) (packet_of first row) (packets_sent first rows),
      sum_by-cons (λ (r : Row). cond (due_from from due (first + 1) r) 1 0) row rows,
      sum_by-cons (λ (r : Row). cond (due_from from due first r) 1 0) row rows,
      row_parts from due first row,
      rows_parts from due first rows,
    )

-- the packets of these queues, of which the first has this number, that are due in the window
abbrev pub due_in_queues : (from due : ℕ) → List Queue → ℕ
due_in_queues from due queues = sum_by (λ queue. due_in from due queue.packets) queues

queues_carried : (from due first : ℕ) (rows : List Row) (queues : List Queue)
    → ((i : ℕ) (queue : Queue) → slice_get queues i ≡ Some queue → queue.packets ≡ packets_sent (first + i) rows)
    → due_in_queues from due queues ≤ count_by (due_from from due first) rows
queues_carried from due first rows [] sent = omega arith
queues_carried from due first rows (queue ∷ queues) sent =
    let same : first + 0 ≡ first = omega arith in
    let own : queue.packets ≡ packets_sent first rows = sent 0 queue refl ∙ ap (λ n. packets_sent n rows) same in
    let others : due_in_queues from due queues ≤ count_by (due_from from due (first + 1)) rows =
    queues_carried from due (first + 1) rows queues
    (λ i other got. (let next : first + suc i ≡ (first + 1) + i = omega arith in sent (suc i) other got ∙ ap (λ n. packets_sent n rows) next)) in
    omega (
      arith,
      sum_by-cons (λ (q : Queue). due_in from due q.packets) queue queues,
      ap (λ packets. due_in from due packets) own,
      rows_parts from due first rows,
    )

from_zero : (from due : ℕ) (rows : List Row) → count_by (due_from from due 0) rows ≤ count_by (carries_due from due) rows
from_zero from due [] = omega arith
from_zero from due (row ∷ rows) =
    omega (
      arith,
      sum_by-cons (λ (r : Row). cond (due_from from due 0 r) 1 0) row rows,
      sum_by-cons (λ (r : Row). cond (carries_due from due r) 1 0) row rows,
      one_at_most (due_from from due 0 row) (carries_due from due row) (any row),
      from_zero from due rows,
    )
  where
    any : (row : Row) → due_from from due 0 row ≡ true → carries_due from due row ≡ true
    any (Carries stream packet) e = (and_parts (nat_le 0 stream) (is_within from due packet.due) e).1
    any (Reserved sent) e = e
    any Empty e = e

-- where all is sent, a queue's packets in the rows are all that it has
all_sent : (table : Table) (choice : List ℕ) (rows : List Row) → FollowRule table choice rows → AllSent (queues_of table choice) rows
    → (stream : ℕ) (queue : Queue) → slice_get (queues_of table choice) stream ≡ Some queue → queue.packets ≡ packets_sent stream rows
all_sent table choice rows follows sent stream queue got =
    let first = FollowRule-sent table choice stream queue.kind queue.packets got rows follows in
    let long : length queue.packets ≤ count_by (is_of stream) rows = elim (slice_get_cases queue.packets (count_by (is_of stream) rows)).1 as (λ _. length queue.packets ≤
    count_by (is_of stream) rows) [
      | inl at ↦ absurd (sent stream queue.kind at.0 (queue.packets, got, at.2))
      | inr past ↦ past.0
    ] in
    sym (first.1 ∙ take_all (count_by (is_of stream) rows) queue.packets long)

-- the packets of a scheduled choice that are due in the window are no more than the window's free slots
pub due_fit : (table : Table) (choice : List ℕ) (rows : List Row) → IsValidTable table → Fits table choice → IsSchedule table choice rows
    → (from due : ℕ) → due_in_queues from due (queues_of table choice) ≤ free_slots table from due
due_fit table choice rows valid fits schedule from due =
    omega (
      arith,
      queues_carried from due 0 rows (queues_of table choice)
          (λ i queue got. (let same : i ≡ 0 + i = omega arith in all_sent table choice rows schedule.follows schedule.sent i queue got ∙ ap (λ n. packets_sent n rows) same)),
      from_zero from due rows,
      carried_fit table choice valid fits from due rows schedule.follows schedule.in_time,
    )
