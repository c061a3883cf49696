use Rattle.std.proofs.Common.{List, ap, refl, arith}
use Rattle.version_table.specs.declared.table.Unit.{Unit as CodedUnit}
use Rattle.version_table.proofs.Chosen.{units_from_all}
use Rattle.dual_bounds.specs.Values.{least_costs}
use Rattle.dual_bounds.proofs.LeastCosts.{all_costs-fit, entries_in, least_costs_none}
use Rattle.dual_bounds.proofs.costs.least_costs.Goals as goal

pub split_at-requires : goal.split_at-requires
split_at-requires c =
    omega (
      arith,
      c.len.ensures,
      (entries_in c.args.windows.now c.as_slice-program-items.result.now c.loop-program.program-index c.program-item.result c.loop-program.rest.now c.loop-program-test.true
          c.program-item.is c.loop-program.invariant.names
          c.program-item.result.units c.len.result _ _ refl c.len.ensures refl refl).enough,
    )

pub costs_of_units-total-requires-clause-names : goal.costs_of_units-total-requires-clause-names
costs_of_units-total-requires-clause-names c =
    (entries_in c.args.windows.now c.as_slice-program-items.result.now c.loop-program.program-index c.program-item.result c.loop-program.rest.now c.loop-program-test.true
    c.program-item.is c.loop-program.invariant.names
    c.as_slice.result.now c.len.result c.split_at.result.0.now c.split_at.result.1.now c.as_slice.ensures c.len.ensures c.split_at.ensures.front c.split_at.ensures.back).of_units

pub costs_of_units-total-requires-clause-small : goal.costs_of_units-total-requires-clause-small
costs_of_units-total-requires-clause-small c =
    let parts = entries_in c.args.windows.now c.as_slice-program-items.result.now c.loop-program.program-index c.program-item.result c.loop-program.rest.now
    c.loop-program-test.true c.program-item.is c.loop-program.invariant.names
    c.as_slice.result.now c.len.result c.split_at.result.0.now c.split_at.result.1.now c.as_slice.ensures c.len.ensures c.split_at.ensures.front c.split_at.ensures.back in
    omega (arith, parts.total, all_costs-fit c.args.windows.now c.args.table.now c.args.fixed.now c.requires.charging c.requires.valid c.requires.fixed)

pub overflow_add-total : goal.overflow_add-total
overflow_add-total c =
    let parts = entries_in c.args.windows.now c.as_slice-program-items.result.now c.loop-program.program-index c.program-item.result c.loop-program.rest.now
    c.loop-program-test.true c.program-item.is c.loop-program.invariant.names
    c.as_slice.result.now c.len.result c.split_at.result.0.now c.split_at.result.1.now c.as_slice.ensures c.len.ensures c.split_at.ensures.front c.split_at.ensures.back in
    omega (arith, parts.total, all_costs-fit c.args.windows.now c.args.table.now c.args.fixed.now c.requires.charging c.requires.valid c.requires.fixed)

pub loop-program-preserved : goal.loop-program-preserved
loop-program-preserved c =
    let parts = entries_in c.args.windows.now c.as_slice-program-items.result.now c.loop-program.program-index c.program-item.result c.loop-program.rest.now
    c.loop-program-test.true c.program-item.is c.loop-program.invariant.names
    c.as_slice.result.now c.len.result c.split_at.result.0.now c.split_at.result.1.now c.as_slice.ensures c.len.ensures c.split_at.ensures.front c.split_at.ensures.back in
    record { names = parts.of_others; total = omega (arith, parts.total) }

pub returns-clause-value : goal.returns-clause-value
returns-clause-value c =
    let rest = ap (λ (units : List CodedUnit). least_costs c.args.windows.now units c.loop-program.rest.now) (units_from_all c.as_slice-program-items.result.now
    c.loop-program.program-index c.loop-program-test.false) in
    omega (arith, rest, least_costs_none c.args.windows.now c.loop-program.rest.now)

pub returns-clause-small : goal.returns-clause-small
returns-clause-small c =
    omega (arith, all_costs-fit c.args.windows.now c.args.table.now c.args.fixed.now c.requires.charging c.requires.valid c.requires.fixed)
