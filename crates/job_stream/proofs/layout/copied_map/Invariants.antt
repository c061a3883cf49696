use Rattle.std.proofs.Common.{◌≡◌, take}
use Rattle.job_stream.proofs.layout.copied_map.Given as goal

abbrev pub invariant-loop-stream : goal.invariant-loop-stream
invariant-loop-stream l = l.streams.items ≡ take l.stream-index l.kept
