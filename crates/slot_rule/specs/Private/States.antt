-- What a slot changes in the states of all streams.
use Rattle.std.specs.Prelude.{◌≡◌, ℕ, zero, suc, ◌+◌, ◌*◌, List, [], ◌∷◌, ◌++◌, All, length, map, max, slice_get, Some}
use Rattle.version_table.specs.declared.table.ProgramRow.{ProgramRow}
use Rattle.version_table.specs.declared.table.Table.{Table}
use Rattle.stream_constants.specs.declared.packets.TheConstants.{PACKET_BYTES}
use Rattle.slot_rule.specs.declared.queue_items.QueueItems.{QueueItems}
use Rattle.slot_rule.specs.declared.queue_items.QueueItems.TheVariants.{Units, Packets}
use Rattle.slot_rule.specs.declared.queue_state.QueueState.{QueueState}
use Rattle.slot_rule.specs.Buffers.{queue_tb_subticks}
use Rattle.slot_rule.specs.Private.QueueItems.{IsPlace, queue_at}
use Rattle.slot_rule.specs.Queues.{Queue}
use Rattle.slot_rule.specs.Private.QueueState.{HasPcr, HoldsNoneGone, IsKind, IsNumbered, KeepsPlace, Releases, first_state, packets_at}

-- where the packets of so many audio streams of a program stand
abbrev pub audio_places : (program count : ℕ) → List QueueItems
audio_places program zero = []
audio_places program (suc count) = audio_places program count ++ Packets program count ∷ []

-- where the packets of all streams of a program stand, whose first unit has this place in a choice
abbrev pub places_in : (program first : ℕ) → ProgramRow → List QueueItems
places_in program first row = Units program first ∷ audio_places program (length row.audios)

-- where the packets of all streams of these programs stand, of which the first has this number
abbrev pub places_from : (program first : ℕ) → List ProgramRow → List QueueItems
places_from program first [] = []
places_from program first (row ∷ rows) = places_in program first row ++ places_from (program + 1) (first + length row.units) rows

-- the same of a table
abbrev pub places_of : Table → List QueueItems
places_of table = places_from 0 0 table.programs

-- where the packets of the streams of these states stand
abbrev pub places_kept : List QueueState → List QueueItems
places_kept states = map (λ (state : QueueState). state.items) states

-- the states are those of the table's streams, in their order
abbrev pub AreOfStreams : Table → List QueueState → Type 0
AreOfStreams table states = places_kept states ≡ places_of table

-- the stream that the state is of
abbrev pub queue_of : Table → List ℕ → QueueState → Queue
queue_of table choice state = queue_at table choice state.items

-- the state is that of its stream before the first slot
pub record IsFirstState (table : Table) (choice : List ℕ) (state : QueueState) : Type 0 where
  pub place : IsPlace table choice state.items
  pub kind : IsKind state.kind
  pub state_is : state ≡ first_state (queue_of table choice state).kind state.items (slice_get (queue_of table choice state).packets 0)

-- there are as many states as before, and each is related to the one that it was
pub record ChangesEach (R : QueueState → QueueState → Type 0) (olds news : List QueueState) : Type 0 where
  pub as_many : length news ≡ length olds
  pub each : (stream : ℕ) (old new : QueueState) → slice_get olds stream ≡ Some old → slice_get news stream ≡ Some new → R old new

-- the state's places stand in a table and a choice, and are right
pub record IsPlaced (table : Table) (choice : List ℕ) (state : QueueState) : Type 0 where
  pub place : IsPlace table choice state.items
  pub numbered : All IsNumbered (packets_at table choice state.items)
  pub keeps : KeepsPlace (packets_at table choice state.items) state

-- the packets that are gone at a time are left out
pub record ReleasesAll (table : Table) (choice : List ℕ) (start : ℕ) (old new : QueueState) : Type 0 where
  pub keeps : KeepsPlace (packets_at table choice old.items) new
  pub releases : Releases (packets_at table choice old.items) start old new
  pub rest : HoldsNoneGone (packets_at table choice old.items) start new

-- the PCR of a program goes, in a slot that begins at this subtick
pub record TakesPcr (program now : ℕ) (old new : QueueState) : Type 0 where
  pub own : HasPcr old.kind program → new ≡ record old { tb_empty = max old.tb_empty now + PACKET_BYTES * queue_tb_subticks old.kind }
  pub other : (HasPcr old.kind program → ⊥) → new ≡ old
