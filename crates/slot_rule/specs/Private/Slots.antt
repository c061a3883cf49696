-- What one slot does to the states of the streams, and what is found after it.
use Rattle.std.specs.Prelude.{◌≡◌, ℕ, ◌+◌, ◌-◌, ◌*◌, ◌^◌, ◌<◌, ◌≤◌, ◌⊎◌, List, length, map, max, count_by, slice_get, Some, None}
use Rattle.version_table.specs.declared.table.Table.{Table}
use Rattle.slot_rule.specs.declared.after.After.{After}
use Rattle.slot_rule.specs.declared.after.After.TheVariants.{Missed, AllSent, Waiting}
use Rattle.stream_constants.specs.declared.clock.TheConstants.{SUBTICKS_PER_TICK}
use Rattle.stream_constants.specs.declared.decoder.TheConstants.{MB_SUBTICKS}
use Rattle.stream_constants.specs.declared.packets.TheConstants.{PACKET_BYTES}
use Rattle.slot_rule.specs.declared.constants.TheConstants.{MARGIN_SUBTICKS}
use Rattle.slot_rule.specs.declared.sent.Sent.{Sent}
use Rattle.slot_rule.specs.declared.sent.Sent.TheVariants.{Null, Pat, Pmt, Pcr, Video as VideoPiece, Audio as AudioPiece}
use Rattle.slot_rule.specs.declared.queue_state.QueueState.{QueueState}
use Rattle.slot_rule.specs.Buffers.{Row, Reserved, Carries, Empty, is_of, mb_work, queue_tb_subticks, tb_work}
use Rattle.slot_rule.specs.Private.Heads.{IsFirst, IsFirstHead, Passes, PassesAt}
use Rattle.slot_rule.specs.Schedule.{FollowRule}
use Rattle.slot_rule.specs.SlotList.{piece_sent}
use Rattle.slot_rule.specs.Private.QueueItems.{IsPlace}
use Rattle.slot_rule.specs.Private.States.{AreOfStreams, ChangesEach, IsPlaced, TakesPcr, queue_of}
use Rattle.slot_rule.specs.Private.QueueState.{IsKind, IsSmall, KeepsPlace, mb_or_tb_of_state}
use Rattle.slot_rule.specs.Queues.{QueuedPacket, queues_of}

-- the subtick at which the last of the rows ends
abbrev pub subtick_after : (slot : ℕ) → List Row → ℕ
subtick_after slot rows = SUBTICKS_PER_TICK * (length rows * slot)

-- the state tells what these rows left of its stream
pub record Tracks (table : Table) (choice : List ℕ) (rows : List Row) (stream : ℕ) (state : QueueState) : Type 0 where
  pub place : IsPlace table choice state.items
  pub sized : IsKind state.kind
  pub kind : state.kind ≡ (queue_of table choice state).kind
  pub keeps : KeepsPlace (queue_of table choice state).packets state
  pub sent : state.sent ≡ count_by (is_of stream) rows
  pub gone : (k : ℕ) (packet : QueuedPacket) → state.gone ≡ k + 1 → slice_get (queue_of table choice state).packets k ≡ Some packet
      → packet.gone ≤ length rows * table.slot
  pub tb : state.tb_empty - subtick_after table.slot rows ≡ tb_work table.slot stream state.kind rows
  pub mb : state.mb_empty - subtick_after table.slot rows ≡ mb_work table.slot stream rows

-- the rows follow the rule, and the states tell what they left of each stream
pub record HasRun (table : Table) (choice : List ℕ) (rows : List Row) (states : List QueueState) : Type 0 where
  pub follows : FollowRule table choice rows
  pub queues : map (queue_of table choice) states ≡ queues_of table choice
  pub places : AreOfStreams table states
  pub tracks : (stream : ℕ) (state : QueueState) → slice_get states stream ≡ Some state → Tracks table choice rows stream state

-- what a reserved slot that begins at this subtick changes: the PCR of a program goes on the PID of its video
abbrev pub Reserves : Sent → (now : ℕ) → List QueueState → List QueueState → Type 0
Reserves (Pcr program) now olds news = ChangesEach (TakesPcr program now) olds news
Reserves Null now olds news = news ≡ olds
Reserves Pat now olds news = news ≡ olds
Reserves (Pmt program) now olds news = news ≡ olds
Reserves (VideoPiece stream item piece) now olds news = news ≡ olds
Reserves (AudioPiece stream packet) now olds news = news ≡ olds

-- the stream's head packet goes, in a slot that begins at this subtick
pub record Sends (packets : List QueuedPacket) (packet : QueuedPacket) (now : ℕ) (old new : QueueState) : Type 0 where
  pub keeps : KeepsPlace packets new
  pub changed : new ≡ record old {
    tb_empty = max old.tb_empty now + PACKET_BYTES * queue_tb_subticks old.kind;
    mb_empty = max old.mb_empty now + MB_SUBTICKS * packet.payload;
    sent = old.sent + 1;
    head = new.head;
    held = old.held + packet.payload;
  }

-- the packet is the head of the queue of this number, whose state is far from the limits of its numbers
pub record IsSender (table : Table) (choice : List ℕ) (states : List QueueState) (stream : ℕ) (packet : QueuedPacket) : Type 0 where
  pub few : length states < 2 ^ 32
  pub state : QueueState
  pub there : slice_get states stream ≡ Some state
  pub placed : IsPlaced table choice state
  pub small : IsSmall state
  pub head : state.head ≡ Some packet

-- the head packet of one stream goes
pub record SendsOne (table : Table) (choice : List ℕ) (stream : ℕ) (packet : QueuedPacket) (now : ℕ) (olds news : List QueueState) : Type 0 where
  pub as_many : length news ≡ length olds
  pub own : (old new : QueueState) → slice_get olds stream ≡ Some old → slice_get news stream ≡ Some new
      → Sends (queue_of table choice old).packets packet now old new
  pub others : (other : ℕ) → (other ≡ stream → ⊥) → slice_get news other ≡ slice_get olds other

-- what a free slot changes and what stands in it, once the packets that are gone are left out
abbrev pub FillsSlot : Table → List ℕ → (start : ℕ) → Row → List QueueState → List QueueState → Type 0
FillsSlot table choice start (Carries stream packet) olds news =
    IsFirst (PassesAt start) olds stream packet × SendsOne table choice stream packet (SUBTICKS_PER_TICK * start) olds news
FillsSlot table choice start Empty olds news = IsFirstHead (PassesAt start) olds None × (news ≡ olds)
FillsSlot table choice start (Reserved sent) olds news = ⊥

-- the state's numbers and the due time of its head packet are far below the limits of their types
pub record IsDueSoon (state : QueueState) : Type 0 where
  pub small : IsSmall state
  pub due : (packet : QueuedPacket) → state.head ≡ Some packet → packet.due < 2 ^ 50

-- the stream of the row has a state, and its packet's due time is far below the limit of its type
abbrev pub RowStands : List QueueState → Row → Type 0
RowStands states (Carries stream packet) = (stream < length states) × (packet.due < 2 ^ 50)
RowStands states (Reserved sent) = Unit {0}
RowStands states Empty = Unit {0}

-- what stands in the slot of the row, by the kind in the state of its stream
abbrev pub IsWhatStands : List QueueState → Row → Sent → Type 0
IsWhatStands states (Reserved reserved) sent = sent ≡ reserved
IsWhatStands states (Carries stream packet) sent = (state : QueueState) → slice_get states stream ≡ Some state → sent ≡ piece_sent state.kind stream packet
IsWhatStands states Empty sent = sent ≡ Null

-- the packet that stands in the row comes late, by the states after it
pub record ComesLate (states : List QueueState) (end : ℕ) (row : Row) (stream : ℕ) (packet : QueuedPacket) : Type 0 where
  pub state : QueueState
  pub there : slice_get states stream ≡ Some state
  pub went : row ≡ Carries stream packet
  pub late : SUBTICKS_PER_TICK * packet.due < (end + MARGIN_SUBTICKS) + mb_or_tb_of_state state end

-- the packet that stands in the row, if there is one, doesn't come late
abbrev pub NoneLate : List QueueState → (end : ℕ) → Row → Type 0
NoneLate states end row = (stream : ℕ) (packet : QueuedPacket) → ComesLate states end row stream packet → ⊥

-- the first of the packets that aren't sent is overdue
abbrev pub FirstOverdue : List QueueState → (end : ℕ) → (stream : ℕ) → QueuedPacket → Type 0
FirstOverdue states end stream packet = IsFirst Passes states stream packet × (SUBTICKS_PER_TICK * packet.due < end + MARGIN_SUBTICKS)

-- no packet that isn't sent is overdue
abbrev pub NoneOverdue : List QueueState → (end : ℕ) → Type 0
NoneOverdue states end =
    (stream : ℕ) (state : QueueState) (packet : QueuedPacket) → slice_get states stream ≡ Some state → state.head ≡ Some packet
    → end + MARGIN_SUBTICKS ≤ SUBTICKS_PER_TICK * packet.due

-- what is found after slot n, which ends at this subtick and in which the row stood
abbrev pub TellsAfter : List QueueState → (end : ℕ) → Row → (n : ℕ) → After → Type 0
TellsAfter states end row n (Missed miss) =
    (packet : QueuedPacket) × (miss ≡ record { stream = miss.stream; unit = packet.item; slot = n; due = packet.due })
    × (ComesLate states end row miss.stream packet ⊎ (NoneLate states end row × FirstOverdue states end miss.stream packet))
TellsAfter states end row n AllSent = NoneLate states end row × IsFirstHead Passes states None
TellsAfter states end row n Waiting =
    NoneLate states end row × NoneOverdue states end
    × ((stream : ℕ) × (packet : QueuedPacket) × IsFirst Passes states stream packet)
