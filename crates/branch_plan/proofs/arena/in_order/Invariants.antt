use Rattle.std.proofs.Common.{ℕ, List, length}
use Rattle.branch_plan.specs.Private.Growth.{IsOrder, StandOnce}
use Rattle.branch_plan.proofs.Arenas.{IsWritten}
use Rattle.branch_plan.proofs.arena.in_order.Given as goal

abbrev pub invariant-loop-taken : goal.invariant-loop-taken
invariant-loop-taken l =
    (ids : List ℕ) → IsOrder l.fn.arena.nodes.items l.links.items ids → StandOnce (length l.fn.arena.nodes.items) ids
    → IsWritten l.fn.arena.nodes.items l.links.items l.left.items l.nodes l.at l._taken ids
