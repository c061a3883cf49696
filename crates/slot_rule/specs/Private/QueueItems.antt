-- Where the packets of a stream stand in a table and a choice.
use Rattle.std.specs.Prelude.{ℕ, ◌<◌, ◌≤◌, List, [], ◌∷◌, length, drop, slice_index_or}
use Rattle.version_table.specs.declared.table.Unit.{Unit as CodedUnit}
use Rattle.version_table.specs.Choice.{version_at}
use Rattle.version_table.specs.declared.limits.TheConstants.{VERSION_BYTES_MOST}
use Rattle.version_table.specs.declared.table.ProgramRow.{ProgramRow}
use Rattle.version_table.specs.declared.table.Table.{Table}
use Rattle.slot_rule.specs.declared.queue_items.QueueItems.{QueueItems}
use Rattle.slot_rule.specs.declared.queue_items.QueueItems.TheVariants.{Units, Packets}
use Rattle.slot_rule.specs.Queues.{Queue, video_queue, audio_of}

-- the program of this number; where there is none, one without streams
abbrev pub program_at : Table → ℕ → ProgramRow
program_at table program = slice_index_or table.programs program (record { vbv = 0; units = []; audios = [] })

-- the stream whose packets stand there
abbrev pub queue_at : Table → List ℕ → QueueItems → Queue
queue_at table choice (Units program first) = video_queue program (program_at table program) (drop first choice)
queue_at table choice (Packets program audio) = audio_of (slice_index_or (program_at table program).audios audio [])

-- a number for each of these units, and perhaps more, each of a version with bytes
abbrev pub HasSizes : List CodedUnit → List ℕ → Type 0
HasSizes [] choice = Unit {0}
HasSizes (unit ∷ units) [] = ⊥
HasSizes (unit ∷ units) (k ∷ choice) = (1 ≤ (version_at unit k).bytes) × ((version_at unit k).bytes ≤ VERSION_BYTES_MOST) × HasSizes units choice

-- the table and the choice have a stream there
abbrev pub IsPlace : Table → List ℕ → QueueItems → Type 0
IsPlace table choice (Units program first) =
    (program < length table.programs) × (first ≤ length choice) × HasSizes (program_at table program).units (drop first choice)
IsPlace table choice (Packets program audio) =
    (program < length table.programs) × (audio < length (program_at table program).audios)
