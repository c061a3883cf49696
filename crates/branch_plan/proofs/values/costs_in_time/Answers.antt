use Rattle.std.proofs.Common.{List, Some, None, ap, ◌∙◌}
use Rattle.dual_bounds.specs.declared.windows.Window.{Window as PricedWindow}
use Rattle.dual_bounds.specs.Values.{price}
use Rattle.branch_plan.proofs.Valued.{cost_is}
use Rattle.branch_plan.proofs.values.costs_in_time.Goals as goal

pub returns-clause-least : goal.returns-clause-least
returns-clause-least c =
    let unit = c.args.unit.now in
    let priced = c.price-charged.ensures.value ∙ ap (λ (ws : List PricedWindow). price ws unit.due) c.as_slice.ensures.value in
    cost_is c.args.windows.now.items unit None c.price-charged.result c.from.result priced (c.from.ensures ∙ c.unit_cost.ensures)

pub returns-clause-own : goal.returns-clause-own
returns-clause-own c =
    let unit = c.args.unit.now in
    let priced = c.price-charged.ensures.value ∙ ap (λ (ws : List PricedWindow). price ws unit.due) c.as_slice.ensures.value in
    cost_is c.args.windows.now.items unit (Some c.args.k) c.price-charged.result c.from-2.result priced (c.from-2.ensures ∙ c.unit_cost-2.ensures)
