-- The schedule as a list of slots: whole periods of the timetable, and in each slot what stands there.
use Rattle.std.specs.Prelude.{◌≡◌, ℕ, ◌+◌, ◌*◌, ◌<◌, ◌≤◌, ◌==◌, Bool, false, List, [], ◌∷◌, length, map, slice_get, slice_index_or, Some, if◌then◌else◌}
use Rattle.version_table.specs.declared.table.Table.{Table}
use Rattle.slot_rule.specs.declared.sent.Sent.{Sent}
use Rattle.slot_rule.specs.declared.sent.Sent.TheVariants.{Null, Video as VideoPiece, Audio as AudioPiece}
use Rattle.slot_rule.specs.declared.slot_list.SlotList.{SlotList}
use Rattle.slot_rule.specs.Timetable.{period}
use Rattle.slot_rule.specs.Queues.{QueueKind, Video, Audio, QueuedPacket, Queue, queues_of}
use Rattle.slot_rule.specs.Buffers.{Row, Reserved, Carries, Empty, is_of}
use Rattle.slot_rule.specs.Schedule.{IsSchedule}

-- the kind of the queue of this number; no packet goes of a queue that there isn't
abbrev pub kind_at : List Queue → (stream : ℕ) → QueueKind
kind_at queues stream = (slice_index_or queues stream (record { kind = Audio; packets = [] })).kind

-- a packet of a queue of this kind, as what stands in a slot: of video a piece of a unit, of audio a whole packet
abbrev pub piece_sent : QueueKind → (stream : ℕ) → QueuedPacket → Sent
piece_sent (Video program vbv) stream packet = VideoPiece stream packet.item packet.piece
piece_sent Audio stream packet = AudioPiece stream packet.item

-- what stands in the slot of a row
abbrev pub sent_of : List Queue → Row → Sent
sent_of queues (Reserved sent) = sent
sent_of queues (Carries stream packet) = piece_sent (kind_at queues stream) stream packet
sent_of queues Empty = Null

-- the row carries a packet of a queue
abbrev pub CarriesPacket : Row → Type 0
CarriesPacket (Carries stream packet) = Unit {0}
CarriesPacket (Reserved sent) = ⊥
CarriesPacket Empty = ⊥

-- a positive multiple of the period that is greater than each slot in which a packet of a queue is sent
pub record PassesSent (period : ℕ) (rows : List Row) (slots : ℕ) : Type 0 where
  pub positive : 0 < slots
  pub multiple : (periods : ℕ) × (slots ≡ periods * period)
  pub greater : (n : ℕ) (row : Row) → slice_get rows n ≡ Some row → CarriesPacket row → n < slots

-- the least positive multiple of the period that is greater than the last sent slot; one period where nothing is sent
pub record IsSlotCount (period : ℕ) (rows : List Row) (slots : ℕ) : Type 0 where
  pub passes : PassesSent period rows slots
  pub least : (other : ℕ) → PassesSent period rows other → slots ≤ other

-- the slots of a table under a choice: as many as the count says, and in each what stands in the row of the schedule
pub record IsSlotList (table : Table) (choice : List ℕ) (list : SlotList) : Type 0 where
  pub rows : List Row
  pub schedule : IsSchedule table choice rows
  pub count : IsSlotCount (period table.slot) rows list.slots
  pub one_each : length rows ≡ list.slots
  pub rows_are : list.rows ≡ map (sent_of (queues_of table choice)) rows

-- the slots, of which the first has this number, in which packets of the queue stand
abbrev pub slots_of : (stream slot : ℕ) → List Row → List ℕ
slots_of stream slot [] = []
slots_of stream slot (row ∷ rows) = if is_of stream row then slot ∷ slots_of stream (slot + 1) rows else slots_of stream (slot + 1) rows

-- a packet of the queue of this number stands in the slot
abbrev pub is_sent_of : (stream : ℕ) → Sent → Bool
is_sent_of stream (VideoPiece s item piece) = s == stream
is_sent_of stream (AudioPiece s item) = s == stream
is_sent_of stream _ = false
