-- The order in which the head packets of all queues go, as the code keeps it.
use Rattle.std.specs.Prelude.{◌≡◌, ℕ, ◌+◌, ◌<◌, ◌⊎◌, All, Contains, List, length, slice_get, Option, Some}
use Rattle.std.specs.List.{AllPairs}
use Rattle.slot_rule.specs.declared.queue_state.QueueState.{QueueState}
use Rattle.slot_rule.specs.declared.turns.Turn.{Turn}
use Rattle.slot_rule.specs.Queues.{QueuedPacket}

-- a turn comes before another: its packet is due earlier, or at the same time in a queue of a lower number
abbrev pub GoesBefore : Turn → Turn → Type 0
GoesBefore turn other = (turn.due < other.due) ⊎ ((turn.due ≡ other.due) × (turn.stream < other.stream))

-- the turn of a packet of the queue of this number
abbrev pub turn_of : (stream : ℕ) → QueuedPacket → Turn
turn_of stream packet = record { due = packet.due; stream = stream }

-- turns of different queues, each before those that go after it
pub record IsTurnOrder (turns : List Turn) : Type 0 where
  pub sorted : AllPairs GoesBefore turns
  pub apart : AllPairs (λ turn other. turn.stream ≡ other.stream → ⊥) turns

-- the queue of the turn has a head packet, and this is its turn
pub record IsTurn (states : List QueueState) (turn : Turn) : Type 0 where
  pub state : QueueState
  pub packet : QueuedPacket
  pub there : slice_get states turn.stream ≡ Some state
  pub head : state.head ≡ Some packet
  pub due : turn.due ≡ packet.due

-- the turns are those of the head packets of these queues, in order
pub record AreTurns (states : List QueueState) (turns : List Turn) : Type 0 where
  pub order : IsTurnOrder turns
  pub each : All (IsTurn states) turns
  pub all : (stream : ℕ) (state : QueueState) (packet : QueuedPacket) → slice_get states stream ≡ Some state → state.head ≡ Some packet
      → Contains turns (turn_of stream packet)

-- the new turns are the old ones and this one
pub record AddsTurn (turn : Turn) (olds news : List Turn) : Type 0 where
  pub longer : length news ≡ length olds + 1
  pub added : Contains news turn
  pub kept : (other : Turn) → Contains olds other → Contains news other
  pub each : (other : Turn) → Contains news other → (other ≡ turn) ⊎ Contains olds other

-- the turn at the place is now that of its queue's next packet, if there is one; those of other queues stay
pub record PassesTurn (place : ℕ) (next : Option QueuedPacket) (olds news : List Turn) : Type 0 where
  pub turn : Turn
  pub turn_is : slice_get olds place ≡ Some turn
  pub added : (packet : QueuedPacket) → next ≡ Some packet → Contains news (turn_of turn.stream packet)
  pub kept : (other : Turn) → (other.stream ≡ turn.stream → ⊥) → Contains olds other → Contains news other
  pub each : (other : Turn) → Contains news other
      → ((packet : QueuedPacket) × (next ≡ Some packet) × (other ≡ turn_of turn.stream packet)) ⊎ ((other.stream ≡ turn.stream → ⊥) × Contains olds other)
