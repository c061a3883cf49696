use Rattle.std.proofs.lemmas.List.Filters.{dedup_is}
use Rattle.std.proofs.lemmas.Map.Keys.{IsStrictlyIncreasing-dedup}
use Rattle.cost_sweep.proofs.Prices.{once-each, prices-of}
use Rattle.cost_sweep.proofs.sorted.prices_of.Goals as goal

pub returns-clause-rise : goal.returns-clause-rise
returns-clause-rise c =
    let is = dedup_is _ _ _ c.dedup.ensures.filtered in
    rw is (IsStrictlyIncreasing-dedup _ c.sort_unstable.ensures.sorted)

pub returns-clause-all : goal.returns-clause-all
returns-clause-all c =
    let are = prices-of c.args.steps.now c.loop-step.step-index _ _ c.loop-step-test.false c.loop-step.invariant c.sort_unstable.ensures.permutation in
    (once-each c.args.steps.now _ _ (dedup_is _ _ _ c.dedup.ensures.filtered) are).all

pub returns-clause-count : goal.returns-clause-count
returns-clause-count c =
    let are = prices-of c.args.steps.now c.loop-step.step-index _ _ c.loop-step-test.false c.loop-step.invariant c.sort_unstable.ensures.permutation in
    (once-each c.args.steps.now _ _ (dedup_is _ _ _ c.dedup.ensures.filtered) are).count
