use Rattle.std.proofs.Common.{List, length, ap, refl, arith}
use Rattle.version_table.specs.declared.table.Unit.{Unit as CodedUnit}
use Rattle.version_table.specs.declared.table.ProgramRow.{ProgramRow}
use Rattle.buffer_windows.specs.Charges.{OwnedUnit}
use Rattle.buffer_windows.specs.Values.{least_owned_costs as least_costs}
use Rattle.buffer_windows.proofs.OwnedCosts.{costs_none, owned_in, owned_rest-none, program_units-le}
use Rattle.buffer_windows.proofs.values.least_costs.Goals as goal

pub split_at-requires : goal.split_at-requires
split_at-requires c =
    omega (
      arith,
      c.len.ensures,
      (owned_in c.args.table.now.slot c.args.windows.now c.as_slice-program-items.result.now c.loop-number.number c.program-item.result c.loop-number.rest.now c.loop-number-test.true
          c.program-item.is c.loop-number.invariant.names
          c.program-item.result.units c.len.result _ _ refl c.len.ensures refl refl).enough,
    )

pub costs_of_units-total-requires-clause-names : goal.costs_of_units-total-requires-clause-names
costs_of_units-total-requires-clause-names c =
    (owned_in c.args.table.now.slot c.args.windows.now c.as_slice-program-items.result.now c.loop-number.number c.program-item.result c.loop-number.rest.now c.loop-number-test.true
    c.program-item.is c.loop-number.invariant.names
    c.as_slice.result.now c.len.result c.split_at.result.0.now c.split_at.result.1.now c.as_slice.ensures c.len.ensures c.split_at.ensures.front c.split_at.ensures.back).of_units

pub costs_of_units-total-requires-clause-few : goal.costs_of_units-total-requires-clause-few
costs_of_units-total-requires-clause-few c =
    omega (
      arith,
      c.requires.valid.units,
      ap (λ (units : List CodedUnit). length units) c.as_slice.ensures,
      program_units-le c.args.table.now c.as_slice-program-items.result.now c.loop-number.number c.program-item.result c.as_slice-program-items.ensures c.loop-number-test.true c.program-item.is,
    )

pub overflow_add-total : goal.overflow_add-total
overflow_add-total c =
    omega (
      arith,
      c.requires.valid.units,
      c.requires.valid.few_programs,
      c.loop-number.invariant.small,
      c.costs_of_units-total.ensures.small,
      ap (λ (rows : List ProgramRow). length rows) c.as_slice-program-items.ensures,
      ap (λ (units : List CodedUnit). length units) c.as_slice.ensures,
      program_units-le c.args.table.now c.as_slice-program-items.result.now c.loop-number.number c.program-item.result c.as_slice-program-items.ensures c.loop-number-test.true c.program-item.is,
    )

pub loop-number-preserved : goal.loop-number-preserved
loop-number-preserved c =
    let parts = owned_in c.args.table.now.slot c.args.windows.now c.as_slice-program-items.result.now c.loop-number.number c.program-item.result c.loop-number.rest.now
    c.loop-number-test.true c.program-item.is c.loop-number.invariant.names
    c.as_slice.result.now c.len.result c.split_at.result.0.now c.split_at.result.1.now c.as_slice.ensures c.len.ensures c.split_at.ensures.front c.split_at.ensures.back in
    record {
      names = parts.of_others;
      total = omega (arith, parts.total, c.loop-number.invariant.total, c.costs_of_units-total.ensures.value);
      small = omega (
        arith,
        c.requires.valid.units,
        c.loop-number.invariant.small,
        c.costs_of_units-total.ensures.small,
        ap (λ (units : List CodedUnit). length units) c.as_slice.ensures,
        program_units-le c.args.table.now c.as_slice-program-items.result.now c.loop-number.number c.program-item.result c.as_slice-program-items.ensures c.loop-number-test.true c.program-item.is,
      );
    }

pub returns-clause-value : goal.returns-clause-value
returns-clause-value c =
    let rest = ap (λ (units : List OwnedUnit). least_costs c.args.table.now.slot c.args.windows.now units c.loop-number.rest.now) (owned_rest-none c.as_slice-program-items.result.now
    c.loop-number.number c.loop-number-test.false) in
    omega (arith, rest, c.loop-number.invariant.total, costs_none c.args.table.now.slot c.args.windows.now c.loop-number.rest.now)

pub returns-clause-small : goal.returns-clause-small
returns-clause-small c =
    omega (arith, c.requires.valid.few_programs, c.loop-number.invariant.small, ap (λ (rows : List ProgramRow). length rows) c.as_slice-program-items.ensures)
