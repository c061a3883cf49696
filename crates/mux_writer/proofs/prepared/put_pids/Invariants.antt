use Rattle.std.proofs.Common.{◌≡◌, ◌+◌, ◌++◌, length, map, take}
use Rattle.mux_writer.proofs.prepared.put_pids.Given as goal

abbrev pub invariant-loop-stream : goal.invariant-loop-stream
invariant-loop-stream l = record {
  size : length l.pids.items ≡ length l.initial.pids.items + l.stream-index;
  pids : l.pids.items ≡ l.initial.pids.items ++ map (λ stream. stream.pid) (take l.stream-index l.stream-items);
}
