use Rattle.std.proofs.Common.{ℕ, Option, Some, sym, ap, subst, ◌∙◌, rules}
use Rattle.std.specs.Int.{w128}
use Rattle.std.proofs.lemmas.Int.{to_z-of_z}
use mir.Val.{SFits}
use Rattle.buffer_windows.specs.Bounds.{IsBoundOrNone, bound_of_byte_value as bound_of_value}
use Rattle.buffer_windows.proofs.Duality.{windows_bound}
use Rattle.buffer_windows.proofs.OwnedCosts.{bound-left, bound-none}
use Rattle.buffer_windows.proofs.values.bound_of_windows.Goals as goal

pub returns-then-each_has_left-clause-value : goal.returns-then-each_has_left-clause-value
returns-then-each_has_left-clause-value c =
    let fits : SFits w128 c.value_of_windows.result = search rules in
    ap Some (c.bound_of_value.ensures ∙ ap bound_of_value (to_z-of_z w128 c.value_of_windows.result fits ∙ c.value_of_windows.ensures))
    ∙ sym (bound-left c.args.table.now c.args.fixed.now c.args.windows.now (sym c.each_has_left.ensures ∙ c.if-each_has_left.true))

pub returns-then-each_has_left-clause-bound : goal.returns-then-each_has_left-clause-bound
returns-then-each_has_left-clause-bound c =
    subst (λ (bound : Option ℕ). IsBoundOrNone c.args.table.now c.args.fixed.now bound) (sym (returns-then-each_has_left-clause-value c))
    (windows_bound c.args.table.now c.args.fixed.now c.args.windows.now c.requires.valid)

pub returns-else-each_has_left-clause-value : goal.returns-else-each_has_left-clause-value
returns-else-each_has_left-clause-value c =
    sym (bound-none c.args.table.now c.args.fixed.now c.args.windows.now (sym c.each_has_left.ensures ∙ c.if-each_has_left.false))

pub returns-else-each_has_left-clause-bound : goal.returns-else-each_has_left-clause-bound
returns-else-each_has_left-clause-bound c =
    subst (λ (bound : Option ℕ). IsBoundOrNone c.args.table.now c.args.fixed.now bound) (sym (returns-else-each_has_left-clause-value c))
    (windows_bound c.args.table.now c.args.fixed.now c.args.windows.now c.requires.valid)
