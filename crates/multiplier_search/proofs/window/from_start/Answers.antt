use Rattle.std.proofs.Common.{◌∙◌, rules}
use Rattle.std.proofs.lemmas.Int.{to_z-of_z}
use mir.Syntax.{w128}
use mir.Val.{SFits}
use Rattle.multiplier_search.proofs.BestWindow.{alone-is}
use Rattle.multiplier_search.proofs.window.from_start.Goals as goal
use Rattle.std.proofs.Common.{sym}

pub returns-clause-alone : goal.returns-clause-alone
returns-clause-alone c =
    let small : SFits w128 c.value_at.result = search rules in
    to_z-of_z w128 c.value_at.result small ∙ c.value_at.ensures ∙ sym (alone-is c.args.table.now c.args.fixed.now c.args.multiplier.due c.args.multiplier.lambda)
