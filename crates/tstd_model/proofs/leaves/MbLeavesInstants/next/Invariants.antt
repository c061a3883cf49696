use Rattle.std.proofs.Common.{◌≡◌, map, length}
use Rattle.tstd_model.specs.PacketBytes.{with_headers}
use Rattle.tstd_model.proofs.leaves.MbLeavesInstants.next.Given as goal

abbrev pub invariant-bytes : goal.invariant-bytes
invariant-bytes l =
    with_headers (map (λ byte. byte.part) l.self-inside.bytes) l.self-inside.moves
    ≡ with_headers (map (λ byte. byte.part) l.initial.self-inside.bytes) l.initial.self-inside.moves

abbrev pub decreases-bytes : goal.decreases-bytes
decreases-bytes l = length l.self-inside.bytes
