use Rattle.std.proofs.lemmas.Option.{IfSome_then}
use Rattle.branch_plan.proofs.Opens.{least_below}
use Rattle.branch_plan.proofs.open.take_least.Goals as goal

pub returns-clause-least : goal.returns-clause-least
returns-clause-least c = IfSome_then c.pop.result c.pop.ensures.below_top (λ top below. least_below top _ (below c.requires.order))
