use Rattle.std.proofs.Common.{List, ℕ, sym, subst}
use Rattle.version_table.specs.declared.table.Table.{Table}
use Rattle.version_table.specs.Choice.{Fits}
use Rattle.certificate_checker.proofs.Units.{fits_left}
use Rattle.branch_plan.proofs.leaves.run_leaf.Goals as goal

pub better-requires-clause-fits : goal.better-requires-clause-fits
better-requires-clause-fits c =
    subst (λ (xs : List ℕ). Fits c.args.table.now xs) (sym c.in_ok-choice.ensures) (fits_left c.args.table.now c.args.fixed.now c.requires.valid c.requires.fixed)

pub run-requires : goal.run-requires
run-requires c = record {
  fits =
      subst (λ (t : Table). Fits t c.in_ok-choice.choice) (sym c.requires.run)
      (subst (λ (xs : List ℕ). Fits c.args.table.now xs) (sym c.in_ok-choice.ensures) (fits_left c.args.table.now c.args.fixed.now c.requires.valid c.requires.fixed));
}
