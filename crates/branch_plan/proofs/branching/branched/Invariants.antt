use Rattle.std.proofs.Common.{◌≡◌, ◌<◌, ◌≤◌, length}
use Rattle.branch_plan.specs.Private.Branching.{IsGrowth}
use Rattle.branch_plan.proofs.branching.branched.Given as goal

-- each branch has added a node at least
abbrev pub invariant-loop-branches : goal.invariant-loop-branches
invariant-loop-branches l = record {
  run : l.run.table ≡ l.table;
  grown : IsGrowth l.table l.nodes l.growth;
  more : l._branches < length l.growth.arena.nodes.items;
  kept : l.growth.known.distortion ≤ l.fn.known.distortion;
  found : l.growth.found ≡ l.fn.found;
}
