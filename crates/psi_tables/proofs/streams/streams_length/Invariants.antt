use Rattle.std.proofs.Common.{◌≡◌, ◌*◌, ◌≤◌, length, take}
use Rattle.std.specs.List.{flat_map}
use Rattle.psi_tables.specs.Streams.{written_stream}
use Rattle.psi_tables.proofs.streams.streams_length.Given as goal

abbrev pub invariant-loop-stream : goal.invariant-loop-stream
invariant-loop-stream l = record {
  total : l.total ≡ length (flat_map written_stream (take l.stream-index l.streams));
  few : l.total ≤ 188 * l.stream-index;
}
