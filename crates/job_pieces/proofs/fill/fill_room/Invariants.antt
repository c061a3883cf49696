use Rattle.std.proofs.Common.{◌≡◌, ℕ, ◌-◌, ◌≤◌, [], length}
use Rattle.std.specs.Prelude.{IfSome}
use Rattle.job_pieces.specs.Private.Filled.{HoldsMore, WritesOn}
use Rattle.job_pieces.proofs.fill.fill_room.Given as goal

abbrev pub invariant-loop-packet : goal.invariant-loop-packet
invariant-loop-packet g l = record {
  rows : l.writer.rows ≡ l.fn.writer.rows;
  layout : l.writer.layout ≡ l.fn.writer.layout;
  writes : WritesOn l.fn.writer l.writer;
  told : g.P.PieceSource.told l.pieces ≡ g.P.PieceSource.told l.fn.pieces;
  has : (stream item piece : ℕ) → g.P.PieceSource.has l.fn.pieces stream item piece → g.P.PieceSource.has l.pieces stream item piece;
  held : IfSome (g.P.PieceSource.told l.fn.pieces) (λ told. HoldsMore told l.fn.writer l.writer l.room);
  on : l.fn.writer.at ≤ l.writer.at;
  more : l.writer.at ≤ l.fn.writer.at → l.room ≡ [];
  keeps : g.P.PieceSource.keeps l.fn.pieces l.pieces;
  faults : g.P.PieceSource.faults l.fn.pieces ≤ g.P.PieceSource.faults l.pieces;
}

abbrev pub decreases-loop-packet : goal.decreases-loop-packet
decreases-loop-packet g l = length l.fn.writer.rows - l.writer.at
