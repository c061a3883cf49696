use Rattle.std.proofs.Common.{◌≡◌, ◌-◌, map}
use Rattle.psi_tables.specs.declared.stream.Stream.{Stream}
use Rattle.shelf_io.specs.Source.{source_bytes_most}
use Rattle.pes_passing.specs.PassingPackets.{count_of, HasPassed, index_of, pids_of}
use Rattle.pes_passing_tests.proofs.passing_tests.all_packets.Given as goal

abbrev pub invariant-loop-more : goal.invariant-loop-more
invariant-loop-more g l = record {
  passed : HasPassed (g.S.Source.left l.fn.source) (g.S.Source.left l.source) (g.S.Source.most l.fn.source) (g.S.Source.most l.source) l.buffer l.units.items l.packets;
  pids : pids_of l.packets ≡ map (λ (stream : Stream). stream.pid) l.streams;
  index : index_of l.packets ≡ l.index;
}

abbrev pub decreases-loop-more : goal.decreases-loop-more
decreases-loop-more g l = source_bytes_most - count_of l.packets
