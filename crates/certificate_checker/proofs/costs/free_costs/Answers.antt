use Rattle.std.proofs.Common.{◌≡◌, ℕ, ◌+◌, ◌-◌, ◌<◌, ◌≤◌, List, length, get_or, refl, sym, ap, subst, ◌∙◌, arith}
use Rattle.std.proofs.lemmas.List.{get_or_default}
use Rattle.version_table.specs.Table.{units_of}
use Rattle.dual_bounds.proofs.LeastCosts.{names_length}
use Rattle.certificate_checker.specs.declared.order.DueUnit.{DueUnit}
use Rattle.certificate_checker.specs.Private.Tallies.{free_cost}
use Rattle.certificate_checker.specs.Private.Order.{IsPlaced}
use Rattle.sum_tree.specs.Nodes.{sum_from}
use Rattle.certificate_checker.specs.Private.Prices.{HasPassed}
use Rattle.certificate_checker.proofs.FixedCosts.{free_at, on_to, one_place, parts_small, so_far}
use Rattle.certificate_checker.proofs.OrderCosts.{cost_of_number, no_place, placed_at, priced}
use Rattle.certificate_checker.proofs.PriceLaws.{falls_limits, passed_later, rises_limits}
use Rattle.certificate_checker.proofs.TallyLaws.{chain_linked}
use Rattle.certificate_checker.proofs.costs.free_costs.Goals as goal

pub new-rises-requires : goal.new-rises-requires
new-rises-requires c = rises_limits c.args.windows.now c.rises_of.result.items c.rises_of.ensures c.requires.few c.requires.right.2

pub new-falls-requires : goal.new-falls-requires
new-falls-requires c = falls_limits c.args.windows.now c.falls_of.result.items c.falls_of.ensures c.requires.few c.requires.right.2

pub index-place-requires : goal.index-place-requires
index-place-requires c =
    let tally = c.args.tally.now in
    let linked = chain_linked tally.order.items tally.places.items c.args.fixed.now c.requires.tally.0 tally.links.next.items tally.links.previous.items c.requires.tally.1.chain in
    omega (arith, linked.next_size, tally.links.next.ok.0)

pub loop-place-init : goal.loop-place-init
loop-place-init c =
    let tally = c.args.tally.now in
    let order = tally.order.items in
    let linked = chain_linked order tally.places.items c.args.fixed.now c.requires.tally.0 tally.links.next.items tally.links.previous.items c.requires.tally.1.chain in
    let place : c.index-place.result.now ≡ get_or tally.links.next.items 0 0 =
    c.index-place.ensures ∙ get_or_default tally.links.next.items 0 c.index-place.result.now 0 (omega (arith, linked.next_size)) in
    let on = on_to c.args.table.now order c.args.fixed.now c.args.windows.now tally.links.next.items tally.links.previous.items 0 linked (omega arith) refl in
    rw place (record {
      some = on.goes;
      within = on.within;
      in_row = on.in_row;
      total = sym on.sum;
      rises_same = refl;
      falls_same = refl;
      rises = λ k d low within. c.new-rises.ensures.passed ((get_or order k d).due + 1);
      falls = λ k d low within. c.new-falls.ensures.passed (get_or order k d).due;
    })

pub before-risen-requires : goal.before-risen-requires
before-risen-requires c =
    let order = c.args.tally.now.order.items in
    subst (λ (xs : List DueUnit). HasPassed ((get_or xs (c.loop-place.place - 1) no_place).due + 1) c.loop-place.rises) (sym c.as_slice-order.ensures.value)
    (c.loop-place.invariant.rises (c.loop-place.place - 1) no_place (omega arith)
    (omega (arith, c.loop-place-test.true, c.loop-place.invariant.some, c.args.tally.now.order.ok.0)))

pub before-fallen-requires : goal.before-fallen-requires
before-fallen-requires c =
    let order = c.args.tally.now.order.items in
    subst (λ (xs : List DueUnit). HasPassed (get_or xs (c.loop-place.place - 1) no_place).due c.loop-place.falls) (sym c.as_slice-order.ensures.value)
    (c.loop-place.invariant.falls (c.loop-place.place - 1) no_place (omega arith)
    (omega (arith, c.loop-place-test.true, c.loop-place.invariant.some, c.args.tally.now.order.ok.0)))

pub bounds-fixed-at : goal.bounds-fixed-at
bounds-fixed-at c =
    let order = c.args.tally.now.order.items in
    let low : c.loop-place.place - 1 < length order = omega (arith, c.loop-place-test.true, c.loop-place.invariant.some, c.args.tally.now.order.ok.0) in
    let placed = subst (λ (xs : List DueUnit). IsPlaced c.args.table.now (get_or xs (c.loop-place.place - 1) no_place)) (sym c.as_slice-order.ensures.value)
    (placed_at c.args.table.now order (c.loop-place.place - 1) no_place c.requires.tally.1.order low) in
    omega (arith, placed.number, names_length (units_of c.args.table.now) c.args.fixed.now c.requires.fixed)

pub overflow_sub-risen : goal.overflow_sub-risen
overflow_sub-risen c =
    let order = c.args.tally.now.order.items in
    let low : c.loop-place.place - 1 < length order = omega (arith, c.loop-place-test.true, c.loop-place.invariant.some, c.args.tally.now.order.ok.0) in
    let placed = subst (λ (xs : List DueUnit). IsPlaced c.args.table.now (get_or xs (c.loop-place.place - 1) no_place)) (sym c.as_slice-order.ensures.value)
    (placed_at c.args.table.now order (c.loop-place.place - 1) no_place c.requires.tally.1.order low) in
    (priced c.args.table.now c.args.windows.now c.args.fixed.now (get_or c.as_slice-order.result.now (c.loop-place.place - 1) no_place) c.before-risen.result c.before-fallen.result
    c.rises_of.result.items c.new-rises.result.dated.items c.loop-place.rises.dated.items c.falls_of.result.items c.new-falls.result.dated.items c.loop-place.falls.dated.items placed
    c.requires.right.1 c.rises_of.ensures c.new-rises.ensures.same c.loop-place.invariant.rises_same c.falls_of.ensures c.new-falls.ensures.same c.loop-place.invariant.falls_same
    c.before-risen.ensures.sum c.before-fallen.ensures.sum).less

pub overflow_add-total : goal.overflow_add-total
overflow_add-total c =
    let table = c.args.table.now in
    let fixed = c.args.fixed.now in
    let windows = c.args.windows.now in
    let tally = c.args.tally.now in
    let order = tally.order.items in
    let place = c.loop-place.place in
    let low : place - 1 < length order = omega (arith, c.loop-place-test.true, c.loop-place.invariant.some, tally.order.ok.0) in
    let placed = subst (λ (xs : List DueUnit). IsPlaced table (get_or xs (place - 1) no_place)) (sym c.as_slice-order.ensures.value)
    (placed_at table order (place - 1) no_place c.requires.tally.1.order low) in
    let parts = priced table windows fixed (get_or c.as_slice-order.result.now (place - 1) no_place) c.before-risen.result c.before-fallen.result
    c.rises_of.result.items c.new-rises.result.dated.items c.loop-place.rises.dated.items c.falls_of.result.items c.new-falls.result.dated.items c.loop-place.falls.dated.items placed
    c.requires.right.1 c.rises_of.ensures c.new-rises.ensures.same c.loop-place.invariant.rises_same c.falls_of.ensures c.new-falls.ensures.same c.loop-place.invariant.falls_same
    c.before-risen.ensures.sum c.before-fallen.ensures.sum in
    let own = parts.cost_is c.unit_at.result.now c.unit_cost-cost.result c.unit_at.ensures c.unit_cost-cost.ensures in
    let same : cost_of_number table windows fixed (get_or c.as_slice-order.result.now (place - 1) no_place).unit ≡ cost_of_number table windows fixed (get_or order (place - 1) no_place).unit =
    ap (λ (xs : List DueUnit). cost_of_number table windows fixed (get_or xs (place - 1) no_place).unit) c.as_slice-order.ensures.value in
    let small = parts_small table fixed c.requires.tally.0 tally windows c.requires.tally.1 c.requires.fixed c.requires.valid (record { few = c.requires.few; lambdas = c.requires.right.2 }) in
    omega (
      arith,
      own,
      same,
      c.from-total.ensures,
      c.loop-place.invariant.total,
      free_at table order fixed windows place c.loop-place.invariant.some (omega (arith, low)) c.loop-place.invariant.in_row,
      one_place (free_cost table order fixed windows) place c.loop-place.invariant.some,
      so_far (free_cost table order fixed windows) place (length order) (omega (arith, low)),
      small.is,
      small.small,
    )

pub index-place-requires-in-loop-place : goal.index-place-requires-in-loop-place
index-place-requires-in-loop-place c =
    let tally = c.args.tally.now in
    let linked = chain_linked tally.order.items tally.places.items c.args.fixed.now c.requires.tally.0 tally.links.next.items tally.links.previous.items c.requires.tally.1.chain in
    omega (arith, linked.next_size, tally.links.next.ok.0, c.loop-place-test.true, tally.order.ok.0)

pub loop-place-smaller : goal.loop-place-smaller
loop-place-smaller c =
    let tally = c.args.tally.now in
    let order = tally.order.items in
    let linked = chain_linked order tally.places.items c.args.fixed.now c.requires.tally.0 tally.links.next.items tally.links.previous.items c.requires.tally.1.chain in
    let low : c.loop-place.place ≤ length order = omega (arith, c.loop-place-test.true, tally.order.ok.0) in
    let next : c.index-place-in-loop-place.result.now ≡ get_or tally.links.next.items c.loop-place.place 0 =
    c.index-place-in-loop-place.ensures ∙ get_or_default tally.links.next.items c.loop-place.place c.index-place-in-loop-place.result.now 0 (omega (arith, linked.next_size, low)) in
    let on = on_to c.args.table.now order c.args.fixed.now c.args.windows.now tally.links.next.items tally.links.previous.items c.loop-place.place linked low c.loop-place.invariant.in_row in
    omega (arith, next, on.goes, low)

pub loop-place-preserved : goal.loop-place-preserved
loop-place-preserved c =
    let table = c.args.table.now in
    let fixed = c.args.fixed.now in
    let windows = c.args.windows.now in
    let tally = c.args.tally.now in
    let order = tally.order.items in
    let place = c.loop-place.place in
    let low : place - 1 < length order = omega (arith, c.loop-place-test.true, c.loop-place.invariant.some, tally.order.ok.0) in
    let linked = chain_linked order tally.places.items fixed c.requires.tally.0 tally.links.next.items tally.links.previous.items c.requires.tally.1.chain in
    let next : c.index-place-in-loop-place.result.now ≡ get_or tally.links.next.items place 0 =
    c.index-place-in-loop-place.ensures ∙ get_or_default tally.links.next.items place c.index-place-in-loop-place.result.now 0 (omega (arith, linked.next_size, low)) in
    let on = on_to table order fixed windows tally.links.next.items tally.links.previous.items place linked (omega (arith, low)) c.loop-place.invariant.in_row in
    let placed = subst (λ (xs : List DueUnit). IsPlaced table (get_or xs (place - 1) no_place)) (sym c.as_slice-order.ensures.value)
    (placed_at table order (place - 1) no_place c.requires.tally.1.order low) in
    let parts = priced table windows fixed (get_or c.as_slice-order.result.now (place - 1) no_place) c.before-risen.result c.before-fallen.result
    c.rises_of.result.items c.new-rises.result.dated.items c.loop-place.rises.dated.items c.falls_of.result.items c.new-falls.result.dated.items c.loop-place.falls.dated.items placed
    c.requires.right.1 c.rises_of.ensures c.new-rises.ensures.same c.loop-place.invariant.rises_same c.falls_of.ensures c.new-falls.ensures.same c.loop-place.invariant.falls_same
    c.before-risen.ensures.sum c.before-fallen.ensures.sum in
    let own = parts.cost_is c.unit_at.result.now c.unit_cost-cost.result c.unit_at.ensures c.unit_cost-cost.ensures in
    let same : cost_of_number table windows fixed (get_or c.as_slice-order.result.now (place - 1) no_place).unit ≡ cost_of_number table windows fixed (get_or order (place - 1) no_place).unit =
    ap (λ (xs : List DueUnit). cost_of_number table windows fixed (get_or xs (place - 1) no_place).unit) c.as_slice-order.ensures.value in
    let due : (get_or c.as_slice-order.result.now (place - 1) no_place).due ≡ (get_or order (place - 1) no_place).due =
    ap (λ (xs : List DueUnit). (get_or xs (place - 1) no_place).due) c.as_slice-order.ensures.value in
    let later : (k : ℕ) (d : DueUnit) → get_or tally.links.next.items place 0 - 1 ≤ k → k < length order
    → (get_or c.as_slice-order.result.now (place - 1) no_place).due ≤ (get_or order k d).due = λ k d from within.
    (let order_is = c.requires.tally.1.order.rising (place - 1) k no_place (omega (arith, from, on.goes, c.loop-place.invariant.some)) within in
    omega (arith, due, order_is, ap (λ (at : DueUnit). at.due) (get_or_default order k d no_place within))) in
    rw next (record {
      some = omega (arith, on.goes);
      within = on.within;
      in_row = on.in_row;
      total = omega (
        arith,
        own,
        same,
        c.from-total.ensures,
        c.loop-place.invariant.total,
        free_at table order fixed windows place c.loop-place.invariant.some (omega (arith, low)) c.loop-place.invariant.in_row,
        one_place (free_cost table order fixed windows) place c.loop-place.invariant.some,
        on.sum,
      );
      rises_same = c.before-risen.ensures.same ∙ c.loop-place.invariant.rises_same;
      falls_same = c.before-fallen.ensures.same ∙ c.loop-place.invariant.falls_same;
      rises = λ k d from within.
          passed_later ((get_or c.as_slice-order.result.now (place - 1) no_place).due + 1) ((get_or order k d).due + 1) c.before-risen.new.self c.before-risen.ensures.passed
          (omega (arith, later k d from within));
      falls = λ k d from within.
          passed_later (get_or c.as_slice-order.result.now (place - 1) no_place).due (get_or order k d).due c.before-fallen.new.self c.before-fallen.ensures.passed (later k d from within);
    })

pub returns : goal.returns
returns c =
    let tally = c.args.tally.now in
    let order = tally.order.items in
    let all : c.loop-place.place - 1 ≡ length order = omega (arith, c.loop-place-test.false, c.loop-place.invariant.within, tally.order.ok.0) in
    c.loop-place.invariant.total ∙ ap (sum_from (free_cost c.args.table.now order c.args.fixed.now c.args.windows.now) 0) all
