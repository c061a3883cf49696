use Rattle.std.proofs.Common.{◌<◌, length, drop, get_or, None, List, sym, subst, ap, arith}
use Rattle.std.proofs.lemmas.List.{drop_all}
use Rattle.version_table.specs.declared.table.Unit.{Unit as CodedUnit}
use Rattle.dual_bounds.specs.Fixed.{NamesVersion}
use Rattle.dual_bounds.proofs.LeastCosts.{names_at, names_length}
use Rattle.buffer_windows.specs.Private.Prices.{owned}
use Rattle.buffer_windows.specs.Values.{least_owned_cost as least_cost, least_owned_costs as least_costs}
use Rattle.buffer_windows.proofs.OwnedCosts.{costs_more, costs_none}
use Rattle.buffer_windows.proofs.values.costs_of_units.Goals as goal

pub bounds-fixed-i : goal.bounds-fixed-i
bounds-fixed-i c = omega (arith, names_length c.args.units.now c.args.fixed.now c.requires.names)

pub least_cost-total-requires-clause-names : goal.least_cost-total-requires-clause-names
least_cost-total-requires-clause-names c =
    let unit = c.index-units-i.result in
    subst (λ (u : CodedUnit). NamesVersion u (get_or c.args.fixed.now c.loop-i.i None)) (sym c.index-units-i.is)
    (names_at c.args.units.now c.args.fixed.now c.loop-i.i unit None c.requires.names c.loop-i-test.true)

pub loop-i-preserved : goal.loop-i-preserved
loop-i-preserved c =
    let owner = c.args.owner in
    let within : c.loop-i.i < length c.args.fixed.now = omega (arith, names_length c.args.units.now c.args.fixed.now c.requires.names) in
    let own =
    ap (λ (u : CodedUnit). least_cost owner.slot c.args.windows.now (record { program = owner.number; vbv = owner.vbv; unit = u }) (get_or c.args.fixed.now c.loop-i.i None)) c.index-units-i.is in
    record {
      total = omega (
        arith,
        own,
        c.least_cost-total.ensures.value,
        c.loop-i.invariant.total,
        costs_more owner.slot c.args.windows.now owner.number owner.vbv c.args.units.now c.args.fixed.now c.loop-i.i c.index-units-i.result None c.loop-i-test.true within,
      );
      small = omega (arith, c.loop-i.invariant.small, c.least_cost-total.ensures.small);
      near = c.go_to.ensures;
    }

pub returns-clause-value : goal.returns-clause-value
returns-clause-value c =
    let owner = c.args.owner in
    let rest = ap (λ (units : List CodedUnit). least_costs owner.slot c.args.windows.now (owned owner.number owner.vbv units) (drop c.loop-i.i c.args.fixed.now)) (drop_all c.loop-i.i
    c.args.units.now c.loop-i-test.false) in
    omega (arith, rest, c.loop-i.invariant.total, costs_none owner.slot c.args.windows.now (drop c.loop-i.i c.args.fixed.now))
