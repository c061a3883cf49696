use Rattle.std.proofs.Common.{◌≡◌, ℕ, List, map, take}
use Rattle.psi_tables.specs.declared.stream.Stream.{Stream}
use Rattle.ts_demux.specs.Private.PesGatherer.{AllGather, gatherer_pids}
use Rattle.ts_demux.proofs.stream_walk.new_gatherers.Given as goal

abbrev pub invariant-loop-stream : goal.invariant-loop-stream
invariant-loop-stream l = record {
  all : (file : List ℕ) → AllGather file 0 l.gatherers.items;
  pids : gatherer_pids l.gatherers.items ≡ map (λ (stream : Stream). stream.pid) (take l.stream-index l.streams);
}
