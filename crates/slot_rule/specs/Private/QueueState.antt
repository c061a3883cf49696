-- What the rule keeps of a stream between slots, against the stream's packets.
use Rattle.std.specs.Prelude.{◌≡◌, ℕ, ◌+◌, ◌-◌, ◌*◌, ◌^◌, ◌<◌, ◌≤◌, List, length, take, drop, sum_by, slice_get, Option, Some}
use Rattle.stream_constants.specs.declared.packets.TheConstants.{PAYLOAD_BYTES}
use Rattle.stream_constants.specs.declared.main_level.TheConstants.{VBV_MOST}
use Rattle.version_table.specs.declared.table.Table.{Table}
use Rattle.stream_constants.specs.declared.clock.TheConstants.{SUBTICKS_PER_TICK}
use Rattle.stream_constants.specs.declared.decoder.TheConstants.{HOLD_TICKS}
use Rattle.slot_rule.specs.declared.queue_items.QueueItems.{QueueItems}
use Rattle.slot_rule.specs.declared.queue_state.QueueState.{QueueState}
use Rattle.slot_rule.specs.Queues.{QueueKind, Video, Audio, QueuedPacket}
use Rattle.slot_rule.specs.Buffers.{tb_gate, eb_or_b_bytes, MbPermits}
use Rattle.slot_rule.specs.Private.QueueItems.{queue_at}

-- the buffers of the kind have a size
abbrev pub IsKind : QueueKind → Type 0
IsKind (Video program vbv) = vbv ≤ VBV_MOST
IsKind Audio = Unit {0}

-- the PCR of the program goes on the PID of a stream of this kind
abbrev pub HasPcr : QueueKind → (number : ℕ) → Type 0
HasPcr (Video program vbv) number = program ≡ number
HasPcr Audio number = ⊥

-- the packets of the stream
abbrev pub packets_at : Table → List ℕ → QueueItems → List QueuedPacket
packets_at table choice items = (queue_at table choice items).packets

-- a packet fits a transport packet, and the numbers after its own fit their types
pub record IsNumbered (packet : QueuedPacket) : Type 0 where
  pub item : packet.item + 1 < 2 ^ 32
  pub piece : packet.piece + 1 < 2 ^ 32
  pub payload : packet.payload ≤ PAYLOAD_BYTES

-- the payload bytes of packets j up to k
abbrev pub held_bytes : (j k : ℕ) → List QueuedPacket → ℕ
held_bytes j k packets = sum_by (λ packet. packet.payload) (drop j (take k packets))

-- the state's counts, packets and bytes are those of a place among these packets
pub record KeepsPlace (packets : List QueuedPacket) (state : QueueState) : Type 0 where
  pub within : state.sent ≤ length packets
  pub head : state.head ≡ slice_get packets state.sent
  pub order : state.gone ≤ state.sent
  pub oldest : state.oldest ≡ slice_get packets state.gone
  pub held : state.held ≡ held_bytes state.gone state.sent packets

-- the state's numbers are far below the limits of their types
pub record IsSmall (state : QueueState) : Type 0 where
  pub tb : state.tb_empty < 2 ^ 60
  pub mb : state.mb_empty < 2 ^ 60
  pub sent : state.sent ≤ 2 ^ 31
  pub held : state.held < 2 ^ 60

-- the state's head packet can be tested
pub record IsReady (state : QueueState) : Type 0 where
  pub small : IsSmall state
  pub kind : IsKind state.kind
  pub payload : (packet : QueuedPacket) → state.head ≡ Some packet → packet.payload ≤ PAYLOAD_BYTES
  pub gone : (packet : QueuedPacket) → state.head ≡ Some packet → packet.gone < 2 ^ 50

-- packets that are gone at a time were left out of the bytes held, and nothing else changed
pub record Releases (packets : List QueuedPacket) (start : ℕ) (old new : QueueState) : Type 0 where
  pub changed : new ≡ record old { gone = new.gone; oldest = new.oldest; held = new.held }
  pub rises : old.gone ≤ new.gone
  pub fewer : new.held ≤ old.held
  pub gone : (k : ℕ) (packet : QueuedPacket) → old.gone ≤ k → k < new.gone → slice_get packets k ≡ Some packet → packet.gone ≤ start

-- no packet that is gone at a time is among the bytes held
abbrev pub HoldsNoneGone : (packets : List QueuedPacket) (start : ℕ) → QueueState → Type 0
HoldsNoneGone packets start state =
    (packet : QueuedPacket) → state.gone < state.sent → slice_get packets state.gone ≡ Some packet → start < packet.gone

-- no packet that is held is gone before a time
abbrev pub HoldsUntil : (time : ℕ) → QueueState → Type 0
HoldsUntil time state = (packet : QueuedPacket) → state.gone < state.sent → state.oldest ≡ Some packet → time ≤ packet.gone

-- the packet may go in a slot that begins at a time, by the state's numbers
pub record Permits (state : QueueState) (packet : QueuedPacket) (start : ℕ) : Type 0 where
  pub tb : state.tb_empty - SUBTICKS_PER_TICK * start ≤ tb_gate state.kind
  pub mb : MbPermits state.kind (state.mb_empty - SUBTICKS_PER_TICK * start)
  pub eb_or_b : state.held + packet.payload ≤ eb_or_b_bytes state.kind
  pub hold : packet.gone ≤ start + HOLD_TICKS

-- the state's head packet may not go before a subtick
abbrev pub MayGoFrom : (from : ℕ) → QueueState → Type 0
MayGoFrom from state =
    (start : ℕ) (packet : QueuedPacket) → SUBTICKS_PER_TICK * start < from → state.head ≡ Some packet → Permits state packet start → ⊥

-- of the work in its two buffers, that which waits for a packet that has come
abbrev pub mb_or_tb_of_kind : QueueKind → (tb mb : ℕ) → ℕ
mb_or_tb_of_kind (Video program vbv) tb mb = mb
mb_or_tb_of_kind Audio tb mb = tb

-- the state of a stream before the first slot
abbrev pub first_state : QueueKind → QueueItems → Option QueuedPacket → QueueState
first_state kind items first = record {
  kind = kind;
  items = items;
  tb_empty = 0;
  mb_empty = 0;
  sent = 0;
  head = first;
  gone = 0;
  oldest = first;
  held = 0;
}

-- the work that waits at a time for a packet of the stream which has come
abbrev pub mb_or_tb_of_state : QueueState → (now : ℕ) → ℕ
mb_or_tb_of_state state now = mb_or_tb_of_kind state.kind (state.tb_empty - now) (state.mb_empty - now)

-- the work that waits in the two buffers of a state at a time; audio has no MB
abbrev pub work_of_kind : QueueKind → (tb mb : ℕ) → ℕ × ℕ
work_of_kind (Video program vbv) tb mb = (tb, mb)
work_of_kind Audio tb mb = (tb, 0)

abbrev pub work_of_state : QueueState → (now : ℕ) → ℕ × ℕ
work_of_state state now = work_of_kind state.kind (state.tb_empty - now) (state.mb_empty - now)
