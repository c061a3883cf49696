-- What a source of pieces tells, and what it has, by the items of all its streams.
use Rattle.std.specs.Prelude.{ℕ, List, Option, Some}
use Rattle.bit_lists.specs.Payload.{Payload}
use Rattle.mux_writer.specs.Pieces.{Pieces}
use Rattle.version_source.specs.Pieces.{HasPiece, pieces_of}

-- its pieces
abbrev pub told_of : List (List (List Payload)) → Option Pieces
told_of items = Some (pieces_of items)

-- it has a piece
abbrev pub HasIt : List (List (List Payload)) → (stream item piece : ℕ) → Type 0
HasIt items stream item piece = HasPiece items stream item piece
