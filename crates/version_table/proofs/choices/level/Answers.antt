use Rattle.std.proofs.Common.{ℕ, List, ap, sym, subst, map, ◌∙◌}
use Rattle.version_table.specs.Choice.{Fits, level_version}
use Rattle.version_table.proofs.Chosen.{level_fits, units_before_all}
use Rattle.version_table.proofs.choices.level.Goals as goal

pub returns-clause-fits : goal.returns-clause-fits
returns-clause-fits c =
    let all = units_before_all c.args.table.now c.as_slice-program-items.result.now c.loop-program.program-index c.as_slice-program-items.ensures c.loop-program-test.false in
    subst (λ (choice : List ℕ). Fits c.args.table.now choice) (sym (c.loop-program.invariant ∙ ap (map (level_version c.args.k)) all)) (level_fits c.args.table.now c.args.k c.requires)
