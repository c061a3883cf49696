-- A run of the slot rule that is kept: the choice, how far its checkpoints go, and the work that waits in the buffers at each.
use Rattle.std.specs.Prelude.{◌≡◌, ℕ, suc, ◌+◌, ◌-◌, ◌*◌, ◌/◌, ◌<◌, ◌≤◌, ◌↔◌, List, length, map, max, sum_by, slice_get, Option, Some, None}
use Rattle.version_table.specs.declared.table.Table.{Table}
use Rattle.version_table.specs.Table.{audio_packets_of, greatest, units_of}
use Rattle.slot_rule.specs.declared.checkpoints.TheConstants.{CHECKPOINTS_MOST, SLOTS_APART}
use Rattle.slot_rule.specs.Queues.{QueueKind, Video, Audio, Queue, queues_of}
use Rattle.slot_rule.specs.Buffers.{Row, tb_work, mb_work}
use Rattle.slot_rule.specs.Schedule.{AllSent, FollowRule, NoMiss}

-- what is kept: the table, the choice of the last run (none before the first), and the slot up to which its checkpoints stand
pub record KeptRun : Type 0 where
  pub table : Table
  pub kept : Option (List ℕ)
  pub upto : ℕ

-- the latest due time of the packets of a table; 0 where it has none
abbrev pub latest_due : Table → ℕ
latest_due table = max (greatest (map (λ unit. unit.due) (units_of table))) (greatest (map (λ packet. packet.due) (audio_packets_of table)))

-- the last slot that begins before the latest due time
abbrev pub last_begun : Table → ℕ
last_begun table = (latest_due table - 1) / table.slot

-- slots from one checkpoint to the next: the least multiple of 4,096 at which 1,024 checkpoints suffice up to that slot
abbrev pub slots_apart : Table → ℕ
slots_apart table = SLOTS_APART * (last_begun table / (CHECKPOINTS_MOST * SLOTS_APART) + 1)

-- so many slots pass without a miss, and a packet waits for a later one
pub record StillWaits (table : Table) (choice : List ℕ) (n : ℕ) : Type 0 where
  pub rows : List Row
  pub many : length rows ≡ n
  pub follows : FollowRule table choice rows
  pub in_time : NoMiss table.slot (queues_of table choice) rows
  pub waits : AllSent (queues_of table choice) rows → ⊥

-- checkpoint k stands where that multiple of the distance comes no later than a slot, and a packet still waits there
abbrev pub CountsCheckpoints : Table → List ℕ → (upto count : ℕ) → Type 0
CountsCheckpoints table choice upto count = (k : ℕ) → (k < count) ↔ ((slots_apart table * k ≤ upto) × StillWaits table choice (slots_apart table * k))

-- the same where a choice is kept; without one none
abbrev pub CountsKept : Table → Option (List ℕ) → (upto count : ℕ) → Type 0
CountsKept table None upto count = count ≡ 0
CountsKept table (Some choice) upto count = CountsCheckpoints table choice upto count

-- the number of checkpoints of a kept run
abbrev pub IsCheckpointCount : KeptRun → (count : ℕ) → Type 0
IsCheckpointCount run count = CountsKept run.table run.kept run.upto count

-- the number of elementary streams of a table: of each program the video and the audio streams
abbrev pub streams_of : Table → ℕ
streams_of table = sum_by (λ row. suc (length row.audios)) table.programs

-- the work that waits in a queue's TB and MB after these rows, in subticks; audio has no MB
abbrev pub work_of : (slot stream : ℕ) → QueueKind → List Row → ℕ × ℕ
work_of slot stream (Video program vbv) rows = (tb_work slot stream (Video program vbv) rows, mb_work slot stream rows)
work_of slot stream Audio rows = (tb_work slot stream Audio rows, 0)

-- the work that waits in the buffers of a queue where slot n begins, under a choice
pub record IsWorkAt (table : Table) (choice : List ℕ) (n stream : ℕ) (work : ℕ × ℕ) : Type 0 where
  pub rows : List Row
  pub many : length rows ≡ n
  pub follows : FollowRule table choice rows
  pub queue : Queue
  pub queue_is : slice_get (queues_of table choice) stream ≡ Some queue
  pub work_is : work ≡ work_of table.slot stream queue.kind rows

-- the same under the choice that is kept
abbrev pub IsKeptWork : KeptRun → (n stream : ℕ) → (work : ℕ × ℕ) → Type 0
IsKeptWork run n stream work = (choice : List ℕ) × (run.kept ≡ Some choice) × IsWorkAt run.table choice n stream work
