-- What one call does; no public clause cites these.
use Rattle.std.specs.Prelude.{◌≡◌, ◌≢◌, ℕ, Bool, true, false, List, ◌++◌, Option, Some, Result, Ok, Err}
use Rattle.shelf_io.specs.declared.fault.Fault.{Fault}
use Rattle.shelf_io.specs.declared.fault.Fault.TheVariants as faults
use Rattle.shelf_io.specs.Counts.{ShelfCounts, with_fault}
use Rattle.shelf_io.specs.Files.{Files}
use Rattle.ts_demux.specs.declared.demux_fault.DemuxFault.TheVariants as refusals
use Rattle.ts_demux.specs.declared.pass_fault.PassFault.{PassFault}
use Rattle.ts_demux.specs.declared.pass_fault.PassFault.TheVariants.{Outside, Refused}
use Rattle.mux_writer.specs.declared.piece_source.Filled.{Filled}
use Rattle.file_pieces.specs.declared.again_fault.AgainFault.{AgainFault}
use Rattle.file_pieces.specs.declared.again_fault.AgainFault.TheVariants.{Failed, Missing, Changed, OutOfMemory}
use Rattle.file_pieces.specs.declared.kept_pieces.PiecesStop.{PiecesStop}
use Rattle.file_pieces.specs.declared.lane.Lane.{Lane}
use Rattle.file_pieces.specs.declared.lane.Lane.TheVariants.{Audio, Video}
use Rattle.file_pieces.specs.declared.program_lanes.SentProgram.{SentProgram}
use Rattle.file_pieces.specs.LaneState.{IsAudioSent, IsVideoSent}
use Rattle.file_pieces.specs.ProgramLanes.{AreLanesFrom}

-- the file isn't what it was: a packet of it is refused, or it ends too early
abbrev pub IsMisfit : Result Bool PassFault → Type 0
IsMisfit (Ok true) = ⊥
IsMisfit (Ok false) = Unit {0}
IsMisfit (Err (Outside fault)) = ⊥
IsMisfit (Err (Refused refusal)) = refusal ≢ refusals.OutOfMemory

-- where files are told, this piece of a stream was put into a buffer
abbrev pub IsSentOf : Option Files → Lane → (item piece : ℕ) → (buffer : List ℕ) → Filled → Type 0
IsSentOf told (Video lane) item piece buffer filled = IsVideoSent told lane item piece buffer filled
IsSentOf told (Audio lane) item piece buffer filled = IsAudioSent told lane item buffer filled

-- what is answered for a fault of a file
abbrev pub fault_told : AgainFault → Fault
fault_told Failed = faults.Failed
fault_told Missing = faults.Failed
fault_told Changed = faults.Failed
fault_told OutOfMemory = faults.OutOfMemory

-- what stops the pieces for it, if anything does
abbrev pub stop_for : (stream : ℕ) → AgainFault → Option PiecesStop → Option PiecesStop
stop_for stream Failed before = Some (record { stream = stream; fault = faults.Failed })
stop_for stream Missing before = Some (record { stream = stream; fault = faults.Missing })
stop_for stream Changed before = Some (record { stream = stream; fault = faults.Failed })
stop_for stream OutOfMemory before = before

-- the counts of a shelf that is told of it
abbrev pub counts_behind : AgainFault → ShelfCounts → ShelfCounts
counts_behind Failed counts = counts
counts_behind Missing counts = counts
counts_behind Changed counts = with_fault counts
counts_behind OutOfMemory counts = counts

-- the lanes before the one of a number were: with any that fit the rest they fit the program
pub record AddsBefore (program : SentProgram) (index : ℕ) (old new : List Lane) : Type 0 where
  pub own : List Lane
  pub new_is : new ≡ old ++ own
  pub fits : (more : List Lane) → AreLanesFrom program index more → AreLanesFrom program 0 (own ++ more)
