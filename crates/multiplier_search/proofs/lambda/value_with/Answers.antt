use Rattle.std.proofs.Common.{rules, ap, ◌∙◌}
use Rattle.std.proofs.lemmas.Int.{to_z-of_z}
use mir.Syntax.{w128}
use mir.Val.{SFits}
use Rattle.dual_bounds.specs.Values.{value_of_windows}
use Rattle.multiplier_search.proofs.lambda.value_with.Goals as goal

pub returns : goal.returns
returns c =
    let fits : SFits w128 c.window_value.result = search rules in
    to_z-of_z w128 c.window_value.result fits ∙ c.window_value.ensures.value
    ∙ ap (value_of_windows c.args.table.now c.args.fixed.now) (c.as_slice.ensures.value ∙ c.replaced-changed.ensures)
