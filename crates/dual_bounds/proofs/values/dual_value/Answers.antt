use Rattle.std.proofs.Common.{◌≤◌, List, All, rules, sym, ap, subst, ◌∙◌}
use Rattle.std.proofs.lemmas.Int.{to_z-of_z}
use Rattle.std.proofs.lemmas.List.Elements.{All-map}
use mir.Syntax.{w128}
use mir.Val.{SFits}
use Rattle.dual_bounds.specs.declared.constants.TheConstants.{LAMBDA_MOST}
use Rattle.dual_bounds.specs.declared.windows.Window.{Window}
use Rattle.dual_bounds.specs.Values.{from_start, value_of_multipliers, value_of_windows}
use Rattle.dual_bounds.proofs.values.dual_value.Goals as goal

pub window_value-requires-clause-lambdas : goal.window_value-requires-clause-lambdas
window_value-requires-clause-lambdas c =
    subst (λ (windows : List Window). All (λ window. window.lambda ≤ LAMBDA_MOST) windows) (sym (c.as_slice.ensures.value ∙ c.windows_of-windows.ensures))
    (All-map (λ (window : Window). window.lambda ≤ LAMBDA_MOST) from_start c.args.with.now c.requires.lambdas)

pub returns-clause-value : goal.returns-clause-value
unfolding value_of_multipliers
returns-clause-value c =
    let fits : SFits w128 c.window_value.result = search rules in
    to_z-of_z w128 c.window_value.result fits ∙ c.window_value.ensures.value
    ∙ ap (value_of_windows c.args.table.now c.args.fixed.now) (c.as_slice.ensures.value ∙ c.windows_of-windows.ensures)
