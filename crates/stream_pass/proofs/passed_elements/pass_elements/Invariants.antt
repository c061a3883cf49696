use Rattle.std.proofs.Common.{◌≡◌, ◌-◌, ◌≤◌, List}
use Rattle.shelf_io.specs.Source.{source_bytes_most}
use Rattle.ts_demux.specs.declared.demuxed.PesUnit.{PesUnit}
use Rattle.pes_passing.specs.ElementPackets.{HasPassed, id_of}
use Rattle.pes_passing.specs.Private.ElementWalk.{count_of}
use Rattle.stream_pass.specs.Private.Passed.{AreTaken}
use Rattle.stream_pass.proofs.passed_elements.pass_elements.Given as goal

abbrev pub invariant-loop-more : goal.invariant-loop-more
invariant-loop-more g l = record {
  ended : List PesUnit;
  passes : HasPassed (g.S.Source.left l.fn.source) (g.S.Source.left l.source) (g.S.Source.most l.fn.source) (g.S.Source.most l.source) ended l.packets;
  taken : AreTaken (g.W.StreamWalk.has_read l.fn.walk) (g.W.StreamWalk.refuses l.fn.walk) ended l.passed;
  id : id_of l.packets ≡ l.id;
  faults : g.S.Source.faults l.fn.source ≤ g.S.Source.faults l.source;
  absences : g.S.Source.absences l.fn.source ≤ g.S.Source.absences l.source;
  keeps : g.S.Source.keeps l.fn.source l.source;
}

abbrev pub decreases-loop-more : goal.decreases-loop-more
decreases-loop-more g l = source_bytes_most - count_of l.packets
