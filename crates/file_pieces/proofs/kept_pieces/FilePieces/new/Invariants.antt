use Rattle.std.proofs.Common.{Option, take}
use Rattle.shelf_io.specs.Files.{Files}
use Rattle.file_pieces.specs.FilePieces.{AreHeld, AreServed}
use Rattle.file_pieces.proofs.kept_pieces.FilePieces.new.Given as goal

abbrev pub invariant-loop-lane : goal.invariant-loop-lane
invariant-loop-lane l = (told : Option Files) → AreHeld told l.lanes → AreServed told (take l.lane-index l.lanes) l.states.items
