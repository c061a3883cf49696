use Rattle.std.proofs.lemmas.Result.{IfOk-weaker}
use Rattle.multiplier_search.proofs.single.best_single.Goals as goal

pub returns : goal.returns
returns c = IfOk-weaker c.best_over.result _ _ (λ found is. is c.args.fixed.now c.in_ok-steps.ensures.steps) c.best_over.ensures
