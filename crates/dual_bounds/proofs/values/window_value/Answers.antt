use Rattle.std.proofs.Common.{ℤ, sym, subst, arith}
use Rattle.std.proofs.lemmas.Int.{ints}
use Rattle.dual_bounds.specs.Bounds.{IsBound, bound_of_value}
use Rattle.dual_bounds.specs.Values.{value_of_windows}
use Rattle.dual_bounds.proofs.Duality.{windows_bound}
use Rattle.dual_bounds.proofs.values.window_value.Goals as goal

pub returns-clause-value : goal.returns-clause-value
unfolding value_of_windows
returns-clause-value c = omega (arith, ints)

pub returns-clause-bound : goal.returns-clause-bound
returns-clause-bound c =
    subst (λ (value : ℤ). IsBound c.args.table.now c.args.fixed.now (bound_of_value value)) (sym (returns-clause-value c))
    (windows_bound c.args.table.now c.args.fixed.now c.args.with.now c.requires.valid)
