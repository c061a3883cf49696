-- What stands in a slot names a program of the table, or a packet of one of its queues.
use Rattle.std.specs.Prelude.{◌≡◌, ℕ, suc, ◌+◌, ◌*◌, ◌<◌, List, length, take, drop, sum_by, slice_get, slice_index, Some}
use Rattle.std.specs.List.{flat_map}
use Rattle.stream_constants.specs.declared.packets.TheConstants.{PAYLOAD_BYTES}
use Rattle.version_table.specs.Choice.{version_at}
use Rattle.version_table.specs.declared.table.AudioPacket.{AudioPacket}
use Rattle.version_table.specs.declared.table.ProgramRow.{ProgramRow}
use Rattle.version_table.specs.declared.table.Table.{Table}
use Rattle.version_table.specs.declared.table.Unit.{Unit as CodedUnit}
use Rattle.slot_rule.specs.Queues.{audio_of, queues_of, video_queue}
use Rattle.slot_rule.specs.declared.sent.Sent.{Sent}
use Rattle.slot_rule.specs.declared.sent.Sent.TheVariants.{Null, Pat, Pmt, Pcr, Video as VideoPiece, Audio as AudioPiece}

-- the number of a program's video queue: each program before it has a video queue, and one for each audio stream
abbrev pub video_number : List ProgramRow → (program : ℕ) → ℕ
video_number rows program = sum_by (λ row. suc (length row.audios)) (take program rows)

-- the version numbers for the units of a program and of those after it
abbrev pub choice_from : List ProgramRow → (program : ℕ) → List ℕ → List ℕ
choice_from rows program choice = drop (length (flat_map (λ row. row.units) (take program rows))) choice

-- the queue of this number is the video of a program, the program has a unit `item`, and the chosen version of this unit
-- has a packet `piece`
pub record IsPiece (table : Table) (choice : List ℕ) (stream item piece : ℕ) : Type 0 where
  pub program : ℕ
  pub row : ProgramRow
  pub row_is : slice_get table.programs program ≡ Some row
  pub number : stream ≡ video_number table.programs program
  pub queue : slice_get (queues_of table choice) stream ≡ Some (video_queue program row (choice_from table.programs program choice))
  pub unit : CodedUnit
  pub unit_is : slice_get row.units item ≡ Some unit
  pub piece_within : PAYLOAD_BYTES * piece < (version_at unit (slice_index (choice_from table.programs program choice) item)).bytes

-- the queue of this number is an audio stream of a program, which has a packet `item`
pub record IsAudioPacket (table : Table) (choice : List ℕ) (stream item : ℕ) : Type 0 where
  pub program : ℕ
  pub row : ProgramRow
  pub row_is : slice_get table.programs program ≡ Some row
  pub audio : ℕ
  pub packets : List AudioPacket
  pub packets_are : slice_get row.audios audio ≡ Some packets
  pub number : stream ≡ video_number table.programs program + 1 + audio
  pub queue : slice_get (queues_of table choice) stream ≡ Some (audio_of packets)
  pub packet : AudioPacket
  pub packet_is : slice_get packets item ≡ Some packet

-- what stands in a slot names a program of the table, or a packet of one of its queues
abbrev pub IsOfTable : Table → List ℕ → Sent → Type 0
IsOfTable table choice Null = Unit {0}
IsOfTable table choice Pat = Unit {0}
IsOfTable table choice (Pmt program) = program < length table.programs
IsOfTable table choice (Pcr program) = program < length table.programs
IsOfTable table choice (VideoPiece stream item piece) = IsPiece table choice stream item piece
IsOfTable table choice (AudioPiece stream item) = IsAudioPacket table choice stream item
