use Rattle.std.proofs.Common.{◌≡◌, ◌-◌, ◌≤◌, List, map}
use Rattle.psi_tables.specs.declared.stream.Stream.{Stream}
use Rattle.shelf_io.specs.Source.{source_bytes_most}
use Rattle.ts_demux.specs.declared.demuxed.PesUnit.{PesUnit}
use Rattle.pes_passing.specs.PassingPackets.{count_of, HasPassed, index_of, pids_of}
use Rattle.stream_pass.specs.Private.Passed.{AreTaken}
use Rattle.stream_pass.proofs.passed_stream.pass_stream.Given as goal

abbrev pub invariant-loop-more : goal.invariant-loop-more
invariant-loop-more g l = record {
  ended : List PesUnit;
  passes : HasPassed (g.S.Source.left l.fn.source) (g.S.Source.left l.source) (g.S.Source.most l.fn.source) (g.S.Source.most l.source) l.buffer ended l.packets;
  taken : AreTaken (g.W.StreamWalk.has_read l.fn.walk) (g.W.StreamWalk.refuses l.fn.walk) ended l.passed;
  pids : pids_of l.packets ≡ map (λ (stream : Stream). stream.pid) l.streams;
  index : index_of l.packets ≡ l.index;
  faults : g.S.Source.faults l.fn.source ≤ g.S.Source.faults l.source;
  absences : g.S.Source.absences l.fn.source ≤ g.S.Source.absences l.source;
  keeps : g.S.Source.keeps l.fn.source l.source;
}

abbrev pub decreases-loop-more : goal.decreases-loop-more
decreases-loop-more g l = source_bytes_most - count_of l.packets
