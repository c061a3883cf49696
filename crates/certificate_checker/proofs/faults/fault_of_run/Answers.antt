use Rattle.std.proofs.Common.{ℕ, List, sym, subst, ◌∙◌}
use Rattle.version_table.specs.Choice.{Fits}
use Rattle.certificate_checker.proofs.Units.{fits_left}
use Rattle.certificate_checker.proofs.faults.fault_of_run.Goals as goal

pub is_scheduled-requires-clause-fits : goal.is_scheduled-requires-clause-fits
is_scheduled-requires-clause-fits c =
    subst (λ (xs : List ℕ). Fits c.args.table.now xs) (sym (c.as_slice-2.ensures.value ∙ c.requires.path.choice)) (fits_left c.args.table.now c.args.path.now.fixed.items c.requires.valid c.requires.path.fixes)
