use Rattle.std.proofs.Common.{ℕ, [], sym, subst, ◌∙◌, rules, ℤ, ◌≤ℤ◌}
use Rattle.std.proofs.lemmas.Int.{to_z-of_z}
use mir.Syntax.{w64, w128}
use mir.Val.{SFits}
use Rattle.multiplier_search.specs.Private.Lambda.{value_at}
use Rattle.multiplier_search.specs.Private.UnitSteps.{AreFree}
use Rattle.multiplier_search.proofs.Best.{values_concave}
use Rattle.multiplier_search.proofs.Between.{are-free}
use Rattle.multiplier_search.proofs.FirstBest.{value-alone}
use Rattle.multiplier_search.proofs.Rises.{greatest_at}
use Rattle.multiplier_search.proofs.window.best_between.Goals as goal

pub returns-clause-value : goal.returns-clause-value
returns-clause-value c = λ fixed at.
    let table = c.args.table.now in
    let due = c.args.due in
    let fits : SFits w64 c.window_capacity-capacity.result = search rules in
    let room = to_z-of_z w64 c.window_capacity-capacity.result fits ∙ c.window_capacity-capacity.ensures in
    let free : AreFree table fixed [] due c.costs-free.result = are-free table fixed [] due c.args.last.now c.costs-free.result at.steps at.reached c.costs-free.ensures.paid c.costs-free.ensures.spared in
    let small : SFits w128 c.between_value.result = search rules in
    value-alone table _ _ (to_z-of_z w128 c.between_value.result small ∙ c.between_value.ensures table fixed [] c.args.from due at free room)

pub returns-clause-best : goal.returns-clause-best
returns-clause-best c = λ fixed lambda at limit.
    let table = c.args.table.now in
    let due = c.args.due in
    let value : ℕ → ℤ = value_at table fixed c.args.from due in
    let fits : SFits w64 c.window_capacity-capacity.result = search rules in
    let room = to_z-of_z w64 c.window_capacity-capacity.result fits ∙ c.window_capacity-capacity.ensures in
    let free : AreFree table fixed [] due c.costs-free.result = are-free table fixed [] due c.args.last.now c.costs-free.result at.steps at.reached c.costs-free.ensures.paid c.costs-free.ensures.spared in
    let small : SFits w128 c.between_value.result = search rules in
    let is = value-alone table _ _ (to_z-of_z w128 c.between_value.result small ∙ c.between_value.ensures table fixed [] c.args.from due at free room) in
    let most : value lambda ≤ℤ value c.between_lambda-lambda.result =
    greatest_at value (values_concave table fixed [] c.args.from due) c.between_lambda-lambda.result lambda
    (c.between_lambda-lambda.ensures.rises table fixed [] c.args.from due at free room) (c.between_lambda-lambda.ensures.ends table fixed [] c.args.from due at free room) limit in
    subst (λ (z : ℤ). value lambda ≤ℤ z) (sym is) most
