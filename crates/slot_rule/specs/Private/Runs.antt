-- What the rule keeps of all queues after some slots.
use Rattle.std.specs.Prelude.{◌≡◌, ℕ, ◌+◌, ◌*◌, ◌<◌, ◌≤◌, All, List, [], ◌∷◌, ◌++◌, None, length, map}
use Rattle.version_table.specs.declared.table.Table.{Table}
use Rattle.slot_rule.specs.declared.after.After.{After}
use Rattle.slot_rule.specs.declared.after.After.TheVariants.{Missed, AllSent, Waiting}
use Rattle.stream_constants.specs.declared.clock.TheConstants.{SUBTICKS_PER_TICK}
use Rattle.slot_rule.specs.declared.run_state.RunState.{RunState}
use Rattle.slot_rule.specs.Buffers.{Row}
use Rattle.slot_rule.specs.Private.Heads.{IsFirst, IsFirstHead, NoneGoneBefore, Passes, PassesAt}
use Rattle.slot_rule.specs.Private.Slots.{HasRun, NoneOverdue}
use Rattle.slot_rule.specs.Private.States.{AreOfStreams, IsFirstState, queue_of}
use Rattle.slot_rule.specs.Private.Turns.{AreTurns}
use Rattle.slot_rule.specs.Queues.{QueuedPacket, queues_of}
use Rattle.slot_rule.specs.Schedule.{IsFirstMiss, IsSchedule, NoMiss}
use Rattle.slot_rule.specs.SlotList.{CarriesPacket}

-- what is kept before the first slot
pub record IsFirstRun (table : Table) (choice : List ℕ) (run : RunState) : Type 0 where
  pub queues : map (queue_of table choice) run.states.items ≡ queues_of table choice
  pub places : AreOfStreams table run.states.items
  pub first : All (IsFirstState table choice) run.states.items
  pub turns : AreTurns run.states.items run.turns.items
  pub gone : NoneGoneBefore run.states.items run.first_gone

-- the rows follow the rule, and what is kept tells what they left of each queue
pub record IsRun (table : Table) (choice : List ℕ) (rows : List Row) (run : RunState) : Type 0 where
  pub states : HasRun table choice rows run.states.items
  pub turns : AreTurns run.states.items run.turns.items
  pub gone : NoneGoneBefore run.states.items run.first_gone

-- so many slots have been run
abbrev pub IsAfterSlots : Table → List ℕ → (slots : ℕ) → RunState → Type 0
IsAfterSlots table choice slots run = (rows : List Row) × (length rows ≡ slots) × IsRun table choice rows run

-- so many slots have been run, and nothing missed after any of them
pub record Reached (table : Table) (choice : List ℕ) (slots : ℕ) (kept : RunState) : Type 0 where
  pub rows : List Row
  pub slots_are : length rows ≡ slots
  pub run : IsRun table choice rows kept
  pub in_time : NoMiss table.slot (queues_of table choice) rows

-- nothing happens in slot m, if it is free: no head packet may go, no payload is gone, and no packet is overdue
pub record IsIdle (slot : ℕ) (run : RunState) (m : ℕ) : Type 0 where
  pub held : m * slot < run.first_gone
  pub nothing : IsFirstHead (PassesAt (m * slot)) run.states.items None
  pub in_time : NoneOverdue run.states.items (SUBTICKS_PER_TICK * ((m + 1) * slot))

-- a packet waits to be sent
abbrev pub Waits : RunState → Type 0
Waits run = (stream : ℕ) × (packet : QueuedPacket) × IsFirst Passes run.states.items stream packet

-- all is sent with the row of a slot from the first up to the end; a packet stands there, if one waited before
pub record EndsWithin (table : Table) (choice : List ℕ) (first end : ℕ) (before : RunState) : Type 0 where
  pub rows : List Row
  pub last : Row
  pub schedule : IsSchedule table choice (rows ++ last ∷ [])
  pub from : first ≤ length rows
  pub upto : length rows < end
  pub carries : Waits before → CarriesPacket last

-- what is found in the slots from the first up to the end: the first miss, or that all is sent, or neither
abbrev pub TellsRun : Table → List ℕ → (first end : ℕ) → (before : RunState) → After → (kept : RunState) → Type 0
TellsRun table choice first end before (Missed miss) kept = IsFirstMiss table choice miss × (first ≤ miss.slot) × (miss.slot < end)
TellsRun table choice first end before AllSent kept = EndsWithin table choice first end before
TellsRun table choice first end before Waiting kept = Reached table choice end kept × (Waits before → Waits kept)
