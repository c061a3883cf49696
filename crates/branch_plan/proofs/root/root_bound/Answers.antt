use Rattle.std.proofs.Common.{◌≡◌, ℕ, ◌<◌, ◌≤◌, ◌^◌, List, Option, sym, ap, ap₂, subst, ◌∙◌, arith, rules, SFits}
use mir.Syntax.{w128}
use Rattle.std.proofs.lemmas.Int.{to_z-of_z}
use Rattle.version_table.specs.Table.{units_of}
use Rattle.version_table.specs.Choice.{distortion_of_choice}
use Rattle.version_table.proofs.Chosen.{distortion_fits}
use Rattle.dual_bounds.specs.Bounds.{bound_of_value}
use Rattle.dual_bounds.specs.Fixed.{FixesVersions}
use Rattle.dual_bounds.specs.Values.{value_of_windows}
use Rattle.dual_bounds.proofs.FixedNone.{names_none}
use Rattle.certificate_checker.specs.Shown.{unfixed}
use Rattle.branch_plan.proofs.Roots.{root_at_most}
use Rattle.branch_plan.proofs.root.root_bound.Goals as goal

pub window_value-requires-clause-fixed : goal.window_value-requires-clause-fixed
window_value-requires-clause-fixed c =
    subst (λ (f : List (Option ℕ)). FixesVersions c.args.table.now f) (sym c.requires.fixed) (names_none (units_of c.args.table.now))

pub overflow_cast-result : goal.overflow_cast-result
overflow_cast-result c =
    let table = c.args.table.now in
    let known = c.args.known.now in
    let small : distortion_of_choice table known.choice < 2 ^ 63 = distortion_fits table known.choice c.requires.valid c.requires.known.fits in
    let most : bound_of_value (value_of_windows table (unfixed table) c.args.windows.now.items) ≤ known.distortion =
    root_at_most table c.args.windows.now known c.requires.valid c.requires.windows c.requires.known in
    let fits : SFits w128 c.window_value.result = search rules in
    let same : c.bound_of.result ≡ bound_of_value (value_of_windows table (unfixed table) c.args.windows.now.items) =
    c.bound_of.ensures ∙ ap bound_of_value (to_z-of_z w128 c.window_value.result fits ∙ c.window_value.ensures.value ∙ ap₂ (value_of_windows table) c.requires.fixed c.as_slice.ensures.value) in
    omega (arith, small, most, same, c.requires.known.distortion)
