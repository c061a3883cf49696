-- What is kept at checkpoints, and what of it stands under another choice.
use Rattle.std.specs.Prelude.{◌≡◌, ℕ, ◌-◌, ◌*◌, ◌<◌, max, ◌≤◌, List, length, take, drop, slice_get, Option, Some, MatchOption, true, ◌⊎◌}
use Rattle.version_table.specs.declared.table.Table.{Table}
use Rattle.slot_rule.specs.declared.sent.Miss.{Miss}
use Rattle.slot_rule.specs.declared.fronts.Front.{Front}
use Rattle.slot_rule.specs.declared.queue_items.QueueItems.{QueueItems}
use Rattle.slot_rule.specs.declared.queue_items.QueueItems.TheVariants.{Units, Packets}
use Rattle.slot_rule.specs.declared.queue_state.QueueState.{QueueState}
use Rattle.slot_rule.specs.declared.run_state.RunState.{RunState}
use Rattle.slot_rule.specs.Queues.{QueuedPacket}
use Rattle.slot_rule.specs.Schedule.{IsFirstMissBefore, IsScheduled}
use Rattle.slot_rule.specs.SlotRun.{StillWaits, slots_apart}
use Rattle.slot_rule.specs.Private.QueueItems.{program_at}
use Rattle.slot_rule.specs.Private.Runs.{Reached, Waits}

-- what is kept where so many slots have been run and a packet waits
pub record IsCheckpoint (table : Table) (choice : List ℕ) (slots : ℕ) (run : RunState) : Type 0 where
  pub reached : Reached table choice slots run
  pub waits : Waits run

-- each is what is kept at its checkpoint
abbrev pub AreCheckpoints : Table → List ℕ → List RunState → Type 0
AreCheckpoints table choice checkpoints = (k : ℕ) (run : RunState) → slice_get checkpoints k ≡ Some run → IsCheckpoint table choice (slots_apart table * k) run

-- all is sent without a miss, or a packet still waits where so many slots or more passed without one
abbrev pub IsClearUpto : Table → List ℕ → (end : ℕ) → Type 0
IsClearUpto table choice end = IsScheduled table choice ⊎ ((n : ℕ) × (end ≤ n) × StillWaits table choice n)

-- the answer of a run up to a slot
abbrev pub TellsUpto : Table → List ℕ → (end : ℕ) → Option Miss → Type 0
TellsUpto table choice end result = MatchOption result (IsClearUpto table choice end) (IsFirstMissBefore table choice end)

-- the slot up to which so many checkpoints stand after a run up to a slot: that slot, or the last checkpoint's where this is later
abbrev pub reach : Table → (end count : ℕ) → ℕ
reach table end count = max end (slots_apart table * (count - 1))

-- the units of a front have the same versions under both choices; it is whole where it has all units of its queue
abbrev pub IsFrontOf : Table → (choice choice' : List ℕ) → QueueItems → (same : ℕ) → Type 0
IsFrontOf table choice choice' (Units program first) same = take same (drop first choice) ≡ take same (drop first choice')
IsFrontOf table choice choice' (Packets program audio) same = Unit {0}

abbrev pub IsWholeOf : Table → QueueItems → (same : ℕ) → Type 0
IsWholeOf table (Units program first) same = length (program_at table program).units ≤ same
IsWholeOf table (Packets program audio) same = Unit {0}

-- what of a queue is the same under both choices
pub record IsFront (table : Table) (choice choice' : List ℕ) (state : QueueState) (front : Front) : Type 0 where
  pub same : IsFrontOf table choice choice' state.items front.same
  pub whole : front.is_whole ≡ true → IsWholeOf table state.items front.same

-- the fronts of the queues with these states
pub record AreFronts (table : Table) (choice choice' : List ℕ) (states : List QueueState) (fronts : List Front) : Type 0 where
  pub one_each : length fronts ≡ length states
  pub each : (stream : ℕ) (state : QueueState) (front : Front) → slice_get states stream ≡ Some state → slice_get fronts stream ≡ Some front
      → IsFront table choice choice' state front

-- the queue's packets up to its head are within the front
abbrev pub IsWithin : Front → QueueState → Type 0
IsWithin front state = (front.is_whole ≡ true) ⊎ ((packet : QueuedPacket) × (state.head ≡ Some packet) × (packet.item < front.same))

-- the packets of all queues up to their heads are within the fronts
pub record AreWithin (fronts : List Front) (states : List QueueState) : Type 0 where
  pub one_each : length states ≡ length fronts
  pub each : (stream : ℕ) (state : QueueState) (front : Front) → slice_get states stream ≡ Some state → slice_get fronts stream ≡ Some front
      → IsWithin front state
