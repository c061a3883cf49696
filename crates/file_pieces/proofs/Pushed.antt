-- Lanes that are put one behind the other.
use Rattle.std.proofs.Common.{◌≡◌, ℕ, ◌+◌, List, [], length, subst}
use Rattle.std.proofs.lemmas.List.{append-nil}
use Rattle.file_pieces.specs.declared.lane.Lane.{Lane}
use Rattle.file_pieces.specs.declared.program_lanes.SentProgram.{SentProgram}
use Rattle.file_pieces.specs.ProgramLanes.{AddsLanes, AreLanesFrom}
use Rattle.file_pieces.specs.Private.Calls.{AddsBefore}

-- all of a program's
pub all_lanes : (program : SentProgram) (index : ℕ) (old new : List Lane) → AddsBefore program index old new → index ≡ length program.audios.now + 1 → AddsLanes program old new
all_lanes program index old new before end = record {
  own = before.own;
  new_is = before.new_is;
  own_are = subst (AreLanesFrom program 0) (append-nil before.own) (before.fits [] end);
}
