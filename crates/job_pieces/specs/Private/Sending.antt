-- A stream that is made of files and added to another one of their shelf, so far.
use Rattle.std.specs.Prelude.{◌≡◌, ◌≤◌, ℕ, List, length, [], map, All, Option, None, Some, IfSome}
use Rattle.shelf_io.specs.Files.{Files}
use Rattle.shelf_io.specs.Writing.{written_to}
use Rattle.slot_rule.specs.declared.sent.Sent.{Sent}
use Rattle.mux_writer.specs.declared.layout.Layout.{Layout}
use Rattle.mux_writer.specs.Output.{IsOfLayout}
use Rattle.mux_writer.specs.Private.Writer.{HoldsRest, IsWriting}
use Rattle.mux_writer.specs.Writing.{Writing}
use Rattle.version_maker.specs.declared.version.UnitVersion.{UnitVersion}
use Rattle.version_source.specs.Pieces.{pieces_of}
use Rattle.file_pieces.specs.declared.kept_pieces.PiecesStop.{PiecesStop}
use Rattle.file_pieces.specs.declared.lane.Lane.{Lane}
use Rattle.file_pieces.specs.FilePieces.{AreLanesVersions, AreServed, HaveLanesVersions, LanesHave, lane_name, lanes_items}
use Rattle.job_pieces.specs.declared.lanes_stop.LanesStop.{LanesStop}
use Rattle.job_pieces.specs.declared.lanes_stop.LanesStop.TheVariants.{Unread, OutOfMemory}
use Rattle.job_pieces.specs.declared.sending.Sending.{Sending}
use Rattle.shelf_io.specs.Facts.{ShelfFacts}
use Rattle.job_pieces.specs.Appended.{AsksFor, ChangesAlone, SameCounts}
use Rattle.job_pieces.specs.Private.Filled.{HoldsMore, WritesOn, front_bytes}

-- the next packets can be sent: nothing stopped the pieces, the streams can be sent, and each piece that the rows name is there
pub record CanGoOn (lanes : List Lane) (told : Option Files) (sending : Sending) : Type 0 where
  pub going : sending.pieces.stop ≡ None
  pub served : AreServed told lanes sending.pieces.states.items
  pub versions : HaveLanesVersions told lanes
  pub rows : All (IsOfLayout sending.writer.layout (LanesHave lanes)) sending.writer.rows
  pub empty : sending.room ≡ []

-- what stops the writing: what stopped the pieces; where nothing did, want of memory
abbrev pub stop_of : Option PiecesStop → LanesStop
stop_of (Some stop) = Unread stop
stop_of None = OutOfMemory

-- The packets of the next slots are held: there are none only where no slot is left.
pub record HasFilled (lanes : List Lane) (told : Option Files) (old new : Sending) : Type 0 where
  pub served : AreServed told lanes new.pieces.states.items
  pub same_layout : new.writer.layout ≡ old.writer.layout
  pub writes : WritesOn old.writer new.writer
  pub held : IfSome told (λ files. (versions : List (List (List UnitVersion))) → AreLanesVersions files lanes versions →
      HoldsMore (pieces_of (lanes_items files lanes versions)) old.writer new.writer new.room)
  pub on : old.writer.at ≤ new.writer.at
  pub end : new.room ≡ [] → length new.writer.rows ≤ new.writer.at
  pub more : new.writer.at ≤ old.writer.at → new.room ≡ []

-- The packets of the slots before the next one were added to a file, and nothing else happened to the shelf but that the streams' files were read.
pub record HasSent (lanes : List Lane) (layout : Layout) (slot : ℕ) (rows : List Sent) (out : List ℕ) (first now : ShelfFacts) (writing : Writing) : Type 0 where
  pub is_writing : IsWriting layout slot rows writing
  pub alone : ChangesAlone out first.files now.files
  pub gained : IfSome first.files (λ files. (versions : List (List (List UnitVersion))) → AreLanesVersions files lanes versions →
      HoldsRest (written_to first.files out) (written_to now.files out) [] (front_bytes layout slot (pieces_of (lanes_items files lanes versions)) rows writing.at))
  pub counts : SameCounts first.counts now.counts
  pub asks : AsksFor (map lane_name lanes) first.asked now.asked
