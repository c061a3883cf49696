-- The pieces of streams of files, while a shelf is lent to them.
use Rattle.std.specs.Prelude.{◌≡◌, ℕ, List, Option, None, Some}
use Rattle.std.specs.Borrow.{MutBor}
use Rattle.shelf_io.specs.declared.shelf.Shelf.{Ghosts}
use Rattle.mux_writer.specs.Pieces.{Pieces}
use Rattle.file_pieces.specs.declared.kept_pieces.FilePieces.{FilePieces}
use Rattle.file_pieces.specs.declared.kept_pieces.PiecesStop.{PiecesStop}
use Rattle.file_pieces.specs.declared.lane.Lane.{Lane}
use Rattle.file_pieces.specs.declared.lent_pieces.LentPieces.{LentPieces}
use Rattle.file_pieces.specs.FilePieces.{AreServed, HasServed, LanesHave, lanes_told}

-- the shelf that is lent
abbrev pub shelf_of : {K : Type 0} {g : Ghosts K} → LentPieces K g → MutBor K
shelf_of lent = lent.shelf

-- what is kept of the streams
abbrev pub pieces_held : {K : Type 0} {g : Ghosts K} → LentPieces K g → MutBor FilePieces
pieces_held lent = lent.pieces

-- the streams
abbrev pub lanes_of : {K : Type 0} {g : Ghosts K} → LentPieces K g → List Lane
lanes_of lent = lent.lanes.now

-- its pieces, where files are told
abbrev pub told_of : {K : Type 0} {g : Ghosts K} → LentPieces K g → Option Pieces
told_of {K} {g} lent = lanes_told (g.files lent.shelf.now) lent.lanes.now lent.made

-- it has a piece, and what is kept serves for all that it has
abbrev pub HasIt : {K : Type 0} {g : Ghosts K} → LentPieces K g → (stream item piece : ℕ) → Type 0
HasIt {K} {g} lent stream item piece = AreServed (g.files lent.shelf.now) lent.lanes.now lent.pieces.now.states.items × LanesHave lent.lanes.now stream item piece

-- how many calls were stopped: none behind the first
abbrev pub stops_in : Option PiecesStop → ℕ
stops_in None = 0
stops_in (Some stop) = 1

-- the same of these pieces
abbrev pub stops_of : {K : Type 0} {g : Ghosts K} → LentPieces K g → ℕ
stops_of lent = stops_in lent.pieces.now.stop

-- What is said of the shelf behind calls for pieces that began with it.
abbrev pub HasLent : {K : Type 0} {g : Ghosts K} → K → LentPieces K g → Type 0
HasLent {K} {g} first lent = HasServed lent.lanes.now lent.pieces.now.stop (g.files first) (g.files lent.shelf.now) (g.counts first) (g.counts lent.shelf.now)
    (g.since_fault lent.shelf.now) (g.asked first) (g.asked lent.shelf.now)

-- A later state has the same shelf, streams and state of these; what is kept of them serves still, and what was said of the shelf that they began with is said of it still.
pub record KeepsLent {K : Type 0} {g : Ghosts K} (old new : LentPieces K g) : Type 0 where
  pub same_shelf : (shelf_of new).ghost_name ≡ (shelf_of old).ghost_name
  pub same_pieces : (pieces_held new).ghost_name ≡ (pieces_held old).ghost_name
  pub same_lanes : lanes_of new ≡ lanes_of old
  pub serves : AreServed (g.files (shelf_of old).now) (lanes_of old) (pieces_held old).now.states.items → AreServed (g.files (shelf_of new).now) (lanes_of new) (pieces_held new).now.states.items
  pub still : (first : K) → HasLent first old → HasLent first new
