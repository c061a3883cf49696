-- The slot rule: a relation between a table, a choice and the rows of the slots, and what misses.
use Rattle.std.specs.Prelude.{◌≡◌, ℕ, ◌+◌, ◌*◌, ◌<◌, ◌≤◌, ◌⊎◌, List, [], ◌∷◌, ◌++◌, length, count_by, slice_get, Some, None}
use Rattle.version_table.specs.declared.table.Table.{Table}
use Rattle.slot_rule.specs.declared.constants.TheConstants.{MARGIN_SUBTICKS}
use Rattle.stream_constants.specs.declared.clock.TheConstants.{SUBTICKS_PER_TICK}
use Rattle.stream_constants.specs.declared.decoder.TheConstants.{HOLD_TICKS}
use Rattle.slot_rule.specs.declared.sent.Miss.{Miss}
use Rattle.slot_rule.specs.Timetable.{reserved}
use Rattle.slot_rule.specs.Queues.{QueueKind, Video, Audio, QueuedPacket, Queue, queues_of}
use Rattle.slot_rule.specs.Buffers.{Row, Reserved, Carries, Empty, is_of, tb_work, mb_work, outstanding, eb_or_b_bytes, tb_gate, MbPermits}

-- the first packet of the queue of this number that stands in none of the rows
abbrev pub IsHead : List Queue → List Row → (stream : ℕ) → QueueKind → QueuedPacket → Type 0
IsHead queues rows stream kind packet =
    (packets : List QueuedPacket) × (slice_get queues stream ≡ Some (record { kind = kind; packets = packets }))
    × (slice_get packets (count_by (is_of stream) rows) ≡ Some packet)

-- the packet may go in the slot after these rows, by the gates of its buffers
pub record IsPermitted (slot : ℕ) (rows : List Row) (stream : ℕ) (kind : QueueKind) (packet : QueuedPacket) : Type 0 where
  pub tb : tb_work slot stream kind rows ≤ tb_gate kind
  pub mb : MbPermits kind (mb_work slot stream rows)
  pub eb_or_b : outstanding stream (length rows * slot) rows + packet.payload ≤ eb_or_b_bytes kind
  pub hold : packet.gone ≤ length rows * slot + HOLD_TICKS

-- a packet goes before another: it is due earlier, or at the same time in a queue of a lower number
abbrev pub IsDueBefore : (stream : ℕ) → QueuedPacket → (other : ℕ) → QueuedPacket → Type 0
IsDueBefore stream packet other packet' =
    (packet.due < packet'.due) ⊎ ((packet.due ≡ packet'.due) × (stream < other))

-- the packet goes in the slot after these rows
pub record Goes (slot : ℕ) (queues : List Queue) (rows : List Row) (stream : ℕ) (packet : QueuedPacket) : Type 0 where
  pub kind : QueueKind
  pub head : IsHead queues rows stream kind packet
  pub permitted : IsPermitted slot rows stream kind packet
  pub first : (other : ℕ) (kind' : QueueKind) (packet' : QueuedPacket) → IsHead queues rows other kind' packet'
      → IsPermitted slot rows other kind' packet' → (other ≡ stream) ⊎ IsDueBefore stream packet other packet'

-- no packet may go in the slot after these rows
abbrev pub NothingGoes : ℕ → List Queue → List Row → Type 0
NothingGoes slot queues rows =
    (stream : ℕ) (kind : QueueKind) (packet : QueuedPacket) → IsHead queues rows stream kind packet → IsPermitted slot rows stream kind packet → ⊥

-- the row of the slot after these rows
abbrev pub IsRow : (slot programs : ℕ) → List Queue → List Row → Row → Type 0
IsRow slot programs queues rows (Reserved sent) = reserved slot programs (length rows) ≡ Some sent
IsRow slot programs queues rows (Carries stream packet) =
    (reserved slot programs (length rows) ≡ None) × Goes slot queues rows stream packet
IsRow slot programs queues rows Empty =
    (reserved slot programs (length rows) ≡ None) × NothingGoes slot queues rows

-- each row is that of its slot after the rows before it
abbrev pub FollowRule : Table → List ℕ → List Row → Type 0
FollowRule table choice rows =
    (before : List Row) (row : Row) (after : List Row) → rows ≡ before ++ row ∷ after
    → IsRow table.slot (length table.programs) (queues_of table choice) before row

-- the time after the last of the rows, with the margin, in subticks
abbrev pub end_with_margin : ℕ → List Row → ℕ
end_with_margin slot rows = SUBTICKS_PER_TICK * (length rows * slot) + MARGIN_SUBTICKS

-- the work that waits for a packet of the queue which has come: in MB, or in TB of audio
abbrev pub mb_or_tb_work : (slot stream : ℕ) → QueueKind → List Row → ℕ
mb_or_tb_work slot stream (Video program vbv) rows = mb_work slot stream rows
mb_or_tb_work slot stream Audio rows = tb_work slot stream Audio rows

-- the packet went in the last of the rows and is not there when it is due
pub record SentLate (slot : ℕ) (queues : List Queue) (rows : List Row) (stream : ℕ) (packet : QueuedPacket) : Type 0 where
  pub before : List Row
  pub went : rows ≡ before ++ Carries stream packet ∷ []
  pub kind : QueueKind
  pub head : IsHead queues before stream kind packet
  pub late : SUBTICKS_PER_TICK * packet.due < end_with_margin slot rows + mb_or_tb_work slot stream kind rows

-- the packet is not sent after these rows and cannot come in time
pub record Overdue (slot : ℕ) (queues : List Queue) (rows : List Row) (stream : ℕ) (packet : QueuedPacket) : Type 0 where
  pub kind : QueueKind
  pub head : IsHead queues rows stream kind packet
  pub late : SUBTICKS_PER_TICK * packet.due < end_with_margin slot rows

-- the packet misses after the last of the rows: it went there late, or none went late and it is the first that is overdue
abbrev pub Misses : ℕ → List Queue → List Row → ℕ → QueuedPacket → Type 0
Misses slot queues rows stream packet =
    SentLate slot queues rows stream packet
    ⊎ (((other : ℕ) (packet' : QueuedPacket) → SentLate slot queues rows other packet' → ⊥)
    × Overdue slot queues rows stream packet
    × ((other : ℕ) (packet' : QueuedPacket) → Overdue slot queues rows other packet' → (other ≡ stream) ⊎ IsDueBefore stream packet other packet'))

-- nothing misses after any slot of these rows
abbrev pub NoMiss : ℕ → List Queue → List Row → Type 0
NoMiss slot queues rows =
    (before : List Row) (row : Row) (after : List Row) (stream : ℕ) (packet : QueuedPacket)
    → rows ≡ before ++ row ∷ after → Misses slot queues (before ++ row ∷ []) stream packet → ⊥

-- each packet of each queue stands in the rows
abbrev pub AllSent : List Queue → List Row → Type 0
AllSent queues rows = (stream : ℕ) (kind : QueueKind) (packet : QueuedPacket) → IsHead queues rows stream kind packet → ⊥

-- the rows of a table under a choice: they follow the rule, nothing misses, and all is sent
pub record IsSchedule (table : Table) (choice : List ℕ) (rows : List Row) : Type 0 where
  pub follows : FollowRule table choice rows
  pub in_time : NoMiss table.slot (queues_of table choice) rows
  pub sent : AllSent (queues_of table choice) rows

-- the choice is scheduled
abbrev pub IsScheduled : Table → List ℕ → Type 0
IsScheduled table choice = (rows : List Row) × IsSchedule table choice rows

-- the first miss of a table under a choice: after these rows, whose last row it is found in, and after none before
pub record IsFirstMiss (table : Table) (choice : List ℕ) (miss : Miss) : Type 0 where
  pub earlier : List Row
  pub last : Row
  pub packet : QueuedPacket
  pub follows : FollowRule table choice (earlier ++ last ∷ [])
  pub in_time : NoMiss table.slot (queues_of table choice) earlier
  pub misses : Misses table.slot (queues_of table choice) (earlier ++ last ∷ []) miss.stream packet
  pub unit_is : miss.unit ≡ packet.item
  pub slot_is : miss.slot ≡ length earlier
  pub due_is : miss.due ≡ packet.due

-- the first miss, where it is found in a slot before slot n
abbrev pub IsFirstMissBefore : Table → List ℕ → (n : ℕ) → Miss → Type 0
IsFirstMissBefore table choice n miss = IsFirstMiss table choice miss × (miss.slot < n)

-- nothing misses in a slot before slot n: the choice is scheduled, or so many slots and maybe more pass without a miss
abbrev pub HasNoMissBefore : Table → List ℕ → (n : ℕ) → Type 0
HasNoMissBefore table choice n =
    IsScheduled table choice ⊎ ((rows : List Row) × (n ≤ length rows) × FollowRule table choice rows × NoMiss table.slot (queues_of table choice) rows)
