use Rattle.cost_sweep.proofs.Over.{over-of}
use Rattle.cost_sweep.proofs.sweep.CostSweep.price_over.Goals as goal

pub returns : goal.returns
returns c =
    let tree = c.requires.fewer in
    over-of c.args.self.now c.requires c.args.fewer c.count_within-place.result (c.count_within-place.ensures.within tree.number tree.is_tree)
    (c.count_within-place.ensures.more tree.number tree.is_tree) c.price_at.result c.price_at.ensures
