use Rattle.std.proofs.Common.{◌<◌, length, drop, get_or, None, List, sym, subst, ap, arith}
use Rattle.std.proofs.lemmas.List.{drop_all}
use Rattle.version_table.specs.declared.table.Unit.{Unit as CodedUnit}
use Rattle.dual_bounds.specs.Fixed.{NamesVersion}
use Rattle.dual_bounds.specs.Values.{least_cost, least_costs}
use Rattle.dual_bounds.proofs.LeastCosts.{least_costs_more, least_costs_none, names_at, names_length}
use Rattle.dual_bounds.proofs.costs.costs_of_units.Goals as goal

pub bounds-fixed-i : goal.bounds-fixed-i
bounds-fixed-i c = omega (arith, names_length c.args.units.now c.args.fixed.now c.requires.names)

pub cost_of_unit-requires-clause-names : goal.cost_of_unit-requires-clause-names
cost_of_unit-requires-clause-names c =
    let unit = c.index-units-i.result in
    subst (λ (u : CodedUnit). NamesVersion u (get_or c.args.fixed.now c.loop-i.i None)) (sym c.index-units-i.is)
    (names_at c.args.units.now c.args.fixed.now c.loop-i.i unit None c.requires.names c.loop-i-test.true)

pub loop-i-preserved : goal.loop-i-preserved
loop-i-preserved c =
    let unit = c.index-units-i.result in
    let within : c.loop-i.i < length c.args.fixed.now = omega (arith, names_length c.args.units.now c.args.fixed.now c.requires.names) in
    let own = ap (λ (u : CodedUnit). least_cost c.args.windows.now u (get_or c.args.fixed.now c.loop-i.i None)) c.index-units-i.is in
    omega (arith, own, c.cost_of_unit.ensures, c.from-total.ensures, least_costs_more c.args.windows.now c.args.units.now c.args.fixed.now c.loop-i.i unit None c.loop-i-test.true within)

pub returns : goal.returns
returns c =
    let rest = ap (λ (units : List CodedUnit). least_costs c.args.windows.now units (drop c.loop-i.i c.args.fixed.now)) (drop_all c.loop-i.i c.args.units.now c.loop-i-test.false) in
    omega (arith, rest, least_costs_none c.args.windows.now (drop c.loop-i.i c.args.fixed.now))
