use Rattle.std.proofs.Common.{◌<◌, List, length, get_or, ap, arith}
use Rattle.version_table.specs.declared.table.ProgramRow.{ProgramRow}
use Rattle.version_table.specs.declared.table.Unit.{Unit as CodedUnit}
use Rattle.buffer_windows.specs.Charges.{OwnedUnit}
use Rattle.certificate_checker.proofs.Units.{no_unit}
use Rattle.branch_plan.proofs.Owned.{from_first, in_row, no_owned, owned_by, owned_count}
use Rattle.branch_plan.proofs.fitting.owner_of.Goals as goal

pub loop-number-init : goal.loop-number-init
loop-number-init c =
    let all = from_first c.args.table.now c.as_slice-program-items.result.now c.as_slice-program-items.ensures in
    record {
      unit = ap (λ (os : List OwnedUnit). get_or os c.args.unit no_owned) all;
      within = omega (arith, c.requires.unit, owned_count c.args.table.now, ap (λ (os : List OwnedUnit). length os) all);
    }

pub returns-then-rest-units-clause-few : goal.returns-then-rest-units-clause-few
returns-then-rest-units-clause-few c =
    omega (arith, c.requires.valid.few_programs, c.loop-number-test.true, ap (λ (rows : List ProgramRow). length rows) c.as_slice-program-items.ensures)

pub returns-then-rest-units-clause-owned : goal.returns-then-rest-units-clause-owned
returns-then-rest-units-clause-owned c =
    let row = c.program-item.result in
    let rest = c.loop-number.rest in
    let low : rest < length row.units = omega (arith, c.if-rest-units.true, ap (λ (us : List CodedUnit). length us) c.as_slice-units.ensures) in
    let at = in_row c.args.table.now c.as_slice-program-items.result.now c.loop-number.number rest c.args.unit row c.loop-number-test.true c.program-item.is c.loop-number.invariant.unit low in
    owned_by c.args.table.now c.args.unit c.loop-number.number row.vbv (get_or row.units rest no_unit) c.requires.unit at
