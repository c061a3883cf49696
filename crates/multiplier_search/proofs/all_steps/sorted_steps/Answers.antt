use Rattle.multiplier_search.proofs.Added.{steps-moved}
use Rattle.multiplier_search.proofs.all_steps.sorted_steps.Goals as goal

pub returns : goal.returns
returns c = record {
  are = c.in_ok-sorted.ensures.sorted;
  steps = steps-moved c.args.table.now c.args.fixed.now c.args.windows.now c.in_ok-steps.steps.items c.in_ok-sorted.sorted.steps.items c.in_ok-sorted.ensures.steps c.in_ok-steps.ensures;
}
