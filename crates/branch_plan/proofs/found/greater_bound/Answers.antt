use Rattle.std.proofs.Common.{ℕ, ◌<◌, ◌^◌, List, Option, Some, None, sym, ap₂, subst, ◌∙◌, arith}
use Rattle.version_table.specs.Choice.{distortion_of_choice}
use Rattle.version_table.specs.Table.{units_of}
use Rattle.version_table.proofs.Chosen.{distortion_fits}
use Rattle.dual_bounds.specs.Fixed.{FixesVersions}
use Rattle.dual_bounds.proofs.FixedNone.{names_none}
use Rattle.buffer_windows.specs.Bounds.{bound_of_buffer_windows}
use Rattle.branch_plan.proofs.Reaching.{some_is}
use Rattle.branch_plan.proofs.Roots.{reaches_seen, reaches_time, seen_at_most}
use Rattle.branch_plan.proofs.found.greater_bound.Goals as goal

pub bound_of_windows-requires-clause-fixed : goal.bound_of_windows-requires-clause-fixed
bound_of_windows-requires-clause-fixed c =
    subst (λ (f : List (Option ℕ)). FixesVersions c.args.table.now f) (sym (c.as_slice.ensures ∙ c.requires.fixed)) (names_none (units_of c.args.table.now))

pub overflow_cast-result : goal.overflow_cast-result
overflow_cast-result c =
    let table = c.args.table.now in
    let known = c.args.known.now in
    let seen = ap₂ (bound_of_buffer_windows table) (sym (c.as_slice.ensures ∙ c.requires.fixed)) (sym c.as_slice-2.ensures.value) ∙ sym c.bound_of_windows.ensures.value ∙ c.in-Some.is in
    let small : distortion_of_choice table known.choice < 2 ^ 63 = distortion_fits table known.choice c.requires.valid c.requires.known.fits in
    let most = seen_at_most table c.args.found.now.buffers c.in-Some.bound known c.requires.valid c.requires.buffers seen c.requires.known in
    omega (arith, small, most, c.requires.known.distortion)

pub returns-then-bound-from : goal.returns-then-bound-from
returns-then-bound-from c =
    let table = c.args.table.now in
    let seen = ap₂ (bound_of_buffer_windows table) (sym (c.as_slice.ensures ∙ c.requires.fixed)) (sym c.as_slice-2.ensures.value) ∙ sym c.bound_of_windows.ensures.value ∙ c.in-Some.is in
    reaches_seen table c.args.found.now c.args.time c.in-Some.bound c.requires.valid c.requires.buffers seen (omega (arith, c.if-bound-from.true, c.from.ensures))

pub returns-else-bound-from : goal.returns-else-bound-from
returns-else-bound-from c =
    let table = c.args.table.now in
    let seen = ap₂ (bound_of_buffer_windows table) (sym (c.as_slice.ensures ∙ c.requires.fixed)) (sym c.as_slice-2.ensures.value) ∙ sym c.bound_of_windows.ensures.value ∙ c.in-Some.is in
    reaches_time table c.args.found.now c.args.time (Some c.in-Some.bound) c.requires.valid c.requires.windows c.requires.time seen
    (λ b is. omega (arith, c.if-bound-from.false, c.from.ensures, some_is c.in-Some.bound b is))

pub returns-in-None : goal.returns-in-None
returns-in-None c =
    let table = c.args.table.now in
    let seen = ap₂ (bound_of_buffer_windows table) (sym (c.as_slice.ensures ∙ c.requires.fixed)) (sym c.as_slice-2.ensures.value) ∙ sym c.bound_of_windows.ensures.value ∙ c.in-None.is in
    reaches_time table c.args.found.now c.args.time None c.requires.valid c.requires.windows c.requires.time seen (λ b is. absurd (grind (arith, is)))
