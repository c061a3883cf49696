use Rattle.std.proofs.Common.{ℕ, Some, rules, ap, ◌∙◌}
use Rattle.std.proofs.lemmas.Int.{to_z-of_z}
use mir.Syntax.{w128}
use mir.Val.{SFits}
use Rattle.dual_bounds.specs.Bounds.{bound_of_value}
use Rattle.certificate_checker.proofs.costs.bound_of_windows.Goals as goal

pub returns : goal.returns
returns c =
    let fits : SFits w128 c.value_of_windows.result = search rules in
    ap (λ (n : ℕ). Some n) (c.bound_of.ensures ∙ ap bound_of_value (to_z-of_z w128 c.value_of_windows.result fits ∙ c.value_of_windows.ensures))
