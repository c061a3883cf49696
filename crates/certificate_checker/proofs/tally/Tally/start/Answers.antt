use Rattle.std.proofs.Common.{◌≡◌, ◌<◌, All, List, length, sym, ap, subst, ◌∙◌, arith}
use Rattle.certificate_checker.specs.declared.order.DueUnit.{DueUnit}
use Rattle.certificate_checker.specs.declared.tally.Tally.{Tally}
use Rattle.certificate_checker.specs.Private.Tallies.{AreApart, ArePlaces, free_sum}
use Rattle.certificate_checker.specs.Private.Order.{IsDueOrder}
use Rattle.certificate_checker.specs.Shown.{unfixed}
use Rattle.certificate_checker.proofs.DueOrder.{order_size}
use Rattle.certificate_checker.proofs.TallyLaws.{numbers_low, order_apart, started}
use Rattle.certificate_checker.proofs.tally.Tally.start.Goals as goal

pub place_units-requires-clause-room : goal.place_units-requires-clause-room
place_units-requires-clause-room c =
    omega (arith, ap (length {A = DueUnit}) c.as_slice.ensures.value, order_size c.args.table.now c.put_in_order.new.order.items c.put_in_order.ensures.order, c.requires.room.places)

pub place_units-requires-clause-numbers : goal.place_units-requires-clause-numbers
place_units-requires-clause-numbers c =
    subst (λ (xs : List DueUnit). All (λ (at : DueUnit). at.unit < length xs) xs) (sym c.as_slice.ensures.value)
    (numbers_low c.args.table.now c.put_in_order.new.order.items c.put_in_order.ensures.order)

pub place_units-requires-clause-apart : goal.place_units-requires-clause-apart
place_units-requires-clause-apart c =
    subst AreApart (sym c.as_slice.ensures.value) (order_apart c.args.table.now c.put_in_order.new.order.items c.put_in_order.ensures.order)

pub clear-requires : goal.clear-requires
clear-requires c =
    let size = order_size c.args.table.now c.put_in_order.new.order.items c.put_in_order.ensures.order in
    (omega (arith, c.len-count.ensures, c.put_in_order.new.order.ok.0, size, c.requires.room.links.0), omega (arith, c.len-count.ensures, c.put_in_order.new.order.ok.0, size, c.requires.room.links.1))

pub clear-requires-2 : goal.clear-requires-2
clear-requires-2 c =
    omega (arith, c.len-count.ensures, c.put_in_order.new.order.ok.0, order_size c.args.table.now c.put_in_order.new.order.items c.put_in_order.ensures.order, c.requires.room.packets)

pub clear-requires-3 : goal.clear-requires-3
clear-requires-3 c =
    omega (arith, c.len-count.ensures, c.put_in_order.new.order.ok.0, order_size c.args.table.now c.put_in_order.new.order.items c.put_in_order.ensures.order, c.requires.room.distortions)

pub least_of_all-self-requires-clause-order : goal.least_of_all-self-requires-clause-order
least_of_all-self-requires-clause-order c = subst (IsDueOrder c.args.table.now) (sym c.as_slice-2.ensures.value) c.put_in_order.ensures.order

pub returns-clause-tally : goal.returns-clause-tally
returns-clause-tally c =
    let order = c.put_in_order.new.order in
    let places = c.place_units.new.places in
    let links = c.clear.new.self in
    let same : c.as_slice.result.now ≡ order.items = c.as_slice.ensures.value in
    let are : ArePlaces order.items places.items (length order.items) =
    subst (λ (xs : List DueUnit). ArePlaces xs places.items (length xs)) same c.place_units.ensures.places in
    let least : c.least_of_all-self.result ≡ free_sum c.args.table.now order.items (unfixed c.args.table.now) =
    c.least_of_all-self.ensures ∙ ap (λ (xs : List DueUnit). free_sum c.args.table.now xs (unfixed c.args.table.now)) c.as_slice-2.ensures.value in
    let tally : Tally =
    record { order = order; places = places; links = links; packets = c.clear-2.new.self; distortions = c.clear-3.new.self; free_least = c.least_of_all-self.result } in
    started c.args.table.now tally c.len-count.result
    c.put_in_order.ensures.order (omega (arith, c.len-count.ensures, order.ok.0)) (c.place_units.ensures.size ∙ ap (length {A = DueUnit}) same) are c.clear.ensures.row
    c.clear-2.ensures.sums c.clear-2.ensures.count c.clear-2.ensures.zeros c.clear-3.ensures.sums c.clear-3.ensures.count c.clear-3.ensures.zeros least
