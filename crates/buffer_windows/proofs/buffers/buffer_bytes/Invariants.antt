use Rattle.std.proofs.Common.{◌≡◌, ◌+◌, ◌*◌, ◌≤◌, ◌^◌}
use Rattle.buffer_windows.specs.Room.{buffer_bytes}
use Rattle.buffer_windows.proofs.BuffersFrom.{buffers_from}
use Rattle.buffer_windows.proofs.buffers.buffer_bytes.Given as goal

-- what the buffers of the programs so far give, and of those still to come
abbrev pub invariant-loop-k : goal.invariant-loop-k
invariant-loop-k l =
    (l.total + buffers_from l.table.slot l.window l.program-items l.k ≡ buffer_bytes l.table l.window) × (l.total ≤ l.k * (2 ^ 43 + 2 ^ 20))
