use Rattle.std.proofs.Common.{◌+◌}
use Rattle.file_pieces.specs.Private.Calls.{AddsBefore}
use Rattle.file_pieces.proofs.program_lanes.push_lanes.Given as goal

abbrev pub invariant-loop-k : goal.invariant-loop-k
invariant-loop-k l = AddsBefore l.program (l.k + 1) l.fn.lanes.items l.lanes.items
