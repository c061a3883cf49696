use Rattle.std.proofs.Common.{◌-◌, List}
use Rattle.shelf_io.specs.Source.{source_bytes_most}
use Rattle.ts_demux.specs.declared.demuxed.PesUnit.{PesUnit}
use Rattle.pes_passing.specs.ElementPackets.{HasPassed}
use Rattle.pes_passing.specs.Private.ElementWalk.{count_of}
use Rattle.pes_passing_tests.proofs.element_tests.all_places.Given as goal

abbrev pub invariant-loop-more : goal.invariant-loop-more
invariant-loop-more g l = record {
  ended : List PesUnit;
  passes : HasPassed (g.S.Source.left l.fn.source) (g.S.Source.left l.source) (g.S.Source.most l.fn.source) (g.S.Source.most l.source) ended l.packets;
}

abbrev pub decreases-loop-more : goal.decreases-loop-more
decreases-loop-more g l = source_bytes_most - count_of l.packets
