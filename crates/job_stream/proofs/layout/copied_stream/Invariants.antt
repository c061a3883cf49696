use Rattle.std.proofs.Common.{◌≡◌, take}
use Rattle.job_stream.proofs.layout.copied_stream.Given as goal

abbrev pub invariant-loop-byte : goal.invariant-loop-byte
invariant-loop-byte l = l.descriptors.items ≡ take l.byte-index l.kept
