use Rattle.std.proofs.Common.{◌≡◌, ◌++◌, map, length}
use Rattle.ts_demux.specs.Private.PesGatherer.{stream_gathered}
use Rattle.ts_demux.proofs.demux_program.all_streams.Given as goal

abbrev pub invariant-loop-alloc : goal.invariant-loop-alloc
invariant-loop-alloc l = l.streams.items ++ map stream_gathered l.gatherers.items ≡ map stream_gathered l.fn.gatherers.items

abbrev pub decreases-loop-alloc : goal.decreases-loop-alloc
decreases-loop-alloc l = length l.gatherers.items
