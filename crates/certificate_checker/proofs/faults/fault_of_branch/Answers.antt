use Rattle.std.proofs.Common.{sym, ◌∙◌, arith}
use Rattle.std.proofs.lemmas.Option.{none-some}
use Rattle.version_table.specs.Table.{units_of}
use Rattle.dual_bounds.specs.Fixed.{NamesVersion}
use Rattle.certificate_checker.proofs.Units.{all_zip_size}
use Rattle.certificate_checker.proofs.faults.fault_of_branch.Goals as goal

pub returns-then-unit-len : goal.returns-then-unit-len
returns-then-unit-len c =
    λ table is. omega (arith, all_zip_size NamesVersion (units_of table) c.args.path.now.fixed.items is.fixes, c.if-unit-len.true, c.len.ensures, c.args.path.now.fixed.ok.0)

pub returns-in-Some : goal.returns-in-Some
returns-in-Some c =
    λ table is. (
      omega (arith, all_zip_size NamesVersion (units_of table) c.args.path.now.fixed.items is.fixes, c.if-unit-len.false, c.len.ensures, c.args.path.now.fixed.ok.0),
      λ free. none-some c.in-Some._k (sym (c.in-Some.ensures ∙ free)),
    )

pub returns-in-None : goal.returns-in-None
returns-in-None c =
    λ table is.
    (omega (arith, all_zip_size NamesVersion (units_of table) c.args.path.now.fixed.items is.fixes, c.if-unit-len.false, c.len.ensures, c.args.path.now.fixed.ok.0), sym c.in-None.ensures)
