use Rattle.std.proofs.Common.{◌∙◌, [], rules}
use Rattle.std.proofs.lemmas.Int.{to_z-of_z}
use mir.Syntax.{w64, w128}
use mir.Val.{SFits}
use Rattle.multiplier_search.proofs.FirstBest.{best-at, value-alone}
use Rattle.multiplier_search.proofs.single.best_at.Goals as goal

pub returns : goal.returns
returns c = λ fixed are reached.
    let table = c.args.table.now in
    let due = c.args.due in
    let fits : SFits w64 c.window_capacity-capacity.result = search rules in
    let room = to_z-of_z w64 c.window_capacity-capacity.result fits ∙ c.window_capacity-capacity.ensures in
    let small : SFits w128 c.swept_value.result = search rules in
    best-at table fixed due c.swept_lambda-lambda.result _ c.swept_lambda-lambda.ensures.most
    (c.swept_lambda-lambda.ensures.rises table fixed [] due are reached room) (c.swept_lambda-lambda.ensures.ends table fixed [] due are reached room)
    (value-alone table _ _ (to_z-of_z w128 c.swept_value.result small ∙ c.swept_value.ensures table fixed [] due are reached room))
