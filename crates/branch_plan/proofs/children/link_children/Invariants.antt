use Rattle.branch_plan.proofs.Linking.{AreLinkedSo}
use Rattle.branch_plan.proofs.children.link_children.Given as goal

abbrev pub invariant-loop-k : goal.invariant-loop-k
invariant-loop-k l = AreLinkedSo l.number l.unit l.count l.k l.fn.links.items l.links.items
