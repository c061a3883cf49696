use Rattle.std.proofs.Common.{◌≡◌, ◌<◌, ◌++◌, All, take}
use Rattle.std.specs.List.{flat_map}
use Rattle.psi_tables.specs.Streams.{written_stream}
use Rattle.psi_tables.proofs.streams.put_streams.Given as goal

abbrev pub invariant-loop-stream : goal.invariant-loop-stream
invariant-loop-stream l = record {
  bytes : l.into.items ≡ l.initial.into.items ++ flat_map written_stream (take l.stream-index l.streams);
  kinds : All (λ stream. stream.kind < 256) (take l.stream-index l.streams);
}
