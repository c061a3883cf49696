use Rattle.std.proofs.Common.{◌≡◌, ℕ, ◌-◌, ◌≤◌, length}
use Rattle.std.specs.Prelude.{IfSome}
use Rattle.std.specs.List.{flat_map}
use Rattle.ts_packets.specs.Packet.{written}
use Rattle.mux_writer.specs.Output.{packets_of_first}
use Rattle.mux_writer.specs.Private.Writer.{HoldsRest, IsWriting}
use Rattle.mux_writer.proofs.stream.write_stream.Given as goal

abbrev pub invariant-loop-gathered : goal.invariant-loop-gathered
invariant-loop-gathered g l = record {
  writing : IsWriting l.layout l.slot l.schedule.rows l.writer;
  told : g.P.PieceSource.told l.pieces ≡ g.P.PieceSource.told l.fn.pieces;
  has : (stream item piece : ℕ) → g.P.PieceSource.has l.fn.pieces stream item piece → g.P.PieceSource.has l.pieces stream item piece;
  keeps_sink : g.K.Sink.keeps l.fn.to l.to;
  keeps_pieces : g.P.PieceSource.keeps l.fn.pieces l.pieces;
  sink_faults : g.K.Sink.faults l.fn.to ≡ g.K.Sink.faults l.to;
  source_faults : g.P.PieceSource.faults l.fn.pieces ≤ g.P.PieceSource.faults l.pieces;
  written : IfSome (g.P.PieceSource.told l.fn.pieces)
      (λ told. HoldsRest (g.K.Sink.written l.fn.to) (g.K.Sink.written l.to) l.gathered (flat_map written (packets_of_first l.layout l.slot told l.schedule.rows l.writer.at)));
}

abbrev pub decreases-loop-gathered : goal.decreases-loop-gathered
decreases-loop-gathered g l = length l.schedule.rows - l.writer.at
