use Rattle.std.proofs.Common.{◌∙◌, rules}
use Rattle.std.proofs.lemmas.Int.{to_z-of_z}
use mir.Syntax.{w64, w128}
use mir.Val.{SFits}
use Rattle.multiplier_search.specs.Private.Lambda.{value_beside}
use Rattle.multiplier_search.proofs.Best.{values_concave}
use Rattle.multiplier_search.proofs.Rises.{greatest_at}
use Rattle.multiplier_search.proofs.additions.added_at.Goals as goal

pub returns-clause-value : goal.returns-clause-value
returns-clause-value c = λ fixed windows are reached.
    let table = c.args.table.now in
    let due = c.args.due in
    let fits : SFits w64 c.window_capacity-capacity.result = search rules in
    let room = to_z-of_z w64 c.window_capacity-capacity.result fits ∙ c.window_capacity-capacity.ensures in
    let small : SFits w128 c.swept_value.result = search rules in
    to_z-of_z w128 c.swept_value.result small ∙ c.swept_value.ensures table fixed windows due are reached room

pub returns-clause-best : goal.returns-clause-best
returns-clause-best c = λ fixed windows lambda are reached limit.
    let table = c.args.table.now in
    let due = c.args.due in
    let fits : SFits w64 c.window_capacity-capacity.result = search rules in
    let room = to_z-of_z w64 c.window_capacity-capacity.result fits ∙ c.window_capacity-capacity.ensures in
    greatest_at (value_beside table fixed windows 0 due) (values_concave table fixed windows 0 due) c.swept_lambda-lambda.result lambda
    (c.swept_lambda-lambda.ensures.rises table fixed windows due are reached room) (c.swept_lambda-lambda.ensures.ends table fixed windows due are reached room) limit
