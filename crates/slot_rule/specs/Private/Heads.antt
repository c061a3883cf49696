-- The head packet that goes first among those that pass a test.
use Rattle.std.specs.Prelude.{◌≡◌, ℕ, ◌⊎◌, List, slice_get, Option, Some, None}
use Rattle.slot_rule.specs.declared.heads.Head.{Head}
use Rattle.slot_rule.specs.declared.queue_state.QueueState.{QueueState}
use Rattle.slot_rule.specs.Queues.{QueuedPacket}
use Rattle.slot_rule.specs.Schedule.{IsDueBefore}
use Rattle.slot_rule.specs.Private.QueueState.{HoldsUntil, Permits}

-- the packet may go in a slot that begins at a time
abbrev pub PassesAt : ℕ → QueueState → QueuedPacket → Type 0
PassesAt start state packet = Permits state packet start

-- any packet passes
abbrev pub Passes : QueueState → QueuedPacket → Type 0
Passes state packet = Unit {0}

-- no packet that a queue holds is gone before a time
abbrev pub NoneGoneBefore : List QueueState → (time : ℕ) → Type 0
NoneGoneBefore states time = (stream : ℕ) (state : QueueState) → slice_get states stream ≡ Some state → HoldsUntil time state

-- what the queue has to offer: its head packet if that passes
abbrev pub IsOffer : (QueueState → QueuedPacket → Type 0) → QueueState → Option QueuedPacket → Type 0
IsOffer P state None = (packet : QueuedPacket) → state.head ≡ Some packet → P state packet → ⊥
IsOffer P state (Some packet) = (state.head ≡ Some packet) × P state packet

-- the head packet of the stream passes, and goes before that of each other stream that passes
pub record IsFirst (P : QueueState → QueuedPacket → Type 0) (states : List QueueState) (stream : ℕ) (packet : QueuedPacket) : Type 0 where
  pub state : QueueState
  pub there : slice_get states stream ≡ Some state
  pub head : state.head ≡ Some packet
  pub passes : P state packet
  pub first : (other : ℕ) (state' : QueueState) (packet' : QueuedPacket) → slice_get states other ≡ Some state' → state'.head ≡ Some packet'
      → P state' packet' → (other ≡ stream) ⊎ IsDueBefore stream packet other packet'

-- the head packet that goes first among those that pass; none where none passes
abbrev pub IsFirstHead : (QueueState → QueuedPacket → Type 0) → List QueueState → Option Head → Type 0
IsFirstHead P states None =
    (stream : ℕ) (state : QueueState) (packet : QueuedPacket) → slice_get states stream ≡ Some state → state.head ≡ Some packet → P state packet → ⊥
IsFirstHead P states (Some head) = IsFirst P states head.stream head.packet
