use Rattle.std.proofs.Common.{◌≡◌, ℕ, ◌≤◌, length}
use Rattle.std.specs.BinaryHeap.{heap_items}
use Rattle.certificate_checker.specs.Shown.{fix}
use Rattle.branch_plan.specs.Private.Branching.{AreChildren}
use Rattle.branch_plan.specs.Private.Growth.{IsOrdered}
use Rattle.branch_plan.specs.Private.Known.{IsKnown}
use Rattle.branch_plan.specs.Private.Valued.{AreValuedBelow}
use Rattle.branch_plan.proofs.children.children_of.Given as goal

abbrev pub invariant-loop-k : goal.invariant-loop-k
invariant-loop-k l = record {
  run : l.run.table ≡ l.table;
  known : IsKnown l.table l.children.known;
  kept : l.children.known.distortion ≤ l.fn.start.known.distortion;
  order : IsOrdered (heap_items l.children.leaves);
  long : length l.fixed ≡ length l.fn.place.fixed;
  fixed : (k : ℕ) → fix l.fn.place.unit k l.fixed ≡ fix l.fn.place.unit k l.fn.place.fixed;
  children : AreChildren l.table l.fn.asked.nodes l.fn.asked.floor l.fn.place.fixed l.fn.place.unit l.first l.k l.children.nodes.items (heap_items l.fn.start.leaves) (heap_items l.children.leaves)
      l.children.known.distortion;
  valued : AreValuedBelow l.table l.buffers l.fn.place.fixed l.fn.place.unit l.k l.children.nodes.items l.children.values.items;
}
