use Rattle.std.proofs.Common.{◌≡◌, ℕ, ◌<◌, List, length, get_or, sum_by, ap, ◌∙◌, arith}
use Rattle.std.proofs.lemmas.List.{take_all}
use Rattle.version_table.specs.declared.table.Unit.{Unit as CodedUnit}
use Rattle.version_table.specs.declared.table.Version.{Version}
use Rattle.version_table.specs.Table.{units_of}
use Rattle.certificate_checker.specs.declared.order.DueUnit.{DueUnit}
use Rattle.certificate_checker.specs.Private.Order.{unit_of}
use Rattle.certificate_checker.proofs.OrderCosts.{distortion_in_order, distortion_of_number, distortions_fit, fits_length, has_at_number, no_place, placed_at}
use Rattle.certificate_checker.proofs.costs.distortion_of_all.Goals as goal

pub bounds-choice-at : goal.bounds-choice-at
bounds-choice-at c =
    let placed = placed_at c.args.table.now c.args.order.now c.loop-at.at-index no_place c.requires.order c.loop-at-test.true in
    omega (arith, placed.number, fits_length (units_of c.args.table.now) c.args.choice.now c.requires.fits)

pub bounds-deref-from : goal.bounds-deref-from
bounds-deref-from c =
    let table = c.args.table.now in
    let placed = placed_at table c.args.order.now c.loop-at.at-index no_place c.requires.order c.loop-at-test.true in
    let unit : ℕ = (get_or c.args.order.now c.loop-at.at-index no_place).unit in
    let size : length c.deref.result.now ≡ length (unit_of table unit).versions.items =
    ap (length {A = Version}) c.deref.ensures.0 ∙ ap (λ (u : CodedUnit). length u.versions.items) c.unit_at.ensures in
    let has : get_or c.args.choice.now unit 0 < length (unit_of table unit).versions.items = has_at_number table c.args.choice.now unit c.requires.fits placed.number in
    omega (arith, c.from.ensures, size, has)

pub overflow_add-total : goal.overflow_add-total
overflow_add-total c =
    let table = c.args.table.now in
    let choice = c.args.choice.now in
    let none : Version = record { bytes = 0; distortion = 0 } in
    let unit : ℕ = (get_or c.args.order.now c.loop-at.at-index no_place).unit in
    let versions : c.deref.result.now ≡ (unit_of table unit).versions.items = c.deref.ensures.0 ∙ ap (λ (u : CodedUnit). u.versions.items) c.unit_at.ensures in
    let own : (get_or c.deref.result.now c.from.result none).distortion ≡ distortion_of_number table choice unit =
    ap (λ (vs : List Version). (get_or vs c.from.result none).distortion) versions ∙ ap (λ (k : ℕ). (get_or (unit_of table unit).versions.items k none).distortion) c.from.ensures in
    omega (arith, own, c.loop-at.invariant, distortions_fit table c.args.order.now choice c.loop-at.at-index no_place c.requires.valid c.requires.order c.requires.fits c.loop-at-test.true)

pub returns : goal.returns
returns c =
    let table = c.args.table.now in
    let choice = c.args.choice.now in
    let order = c.args.order.now in
    c.loop-at.invariant ∙ ap (λ (units : List DueUnit). sum_by (λ (at : DueUnit). distortion_of_number table choice at.unit) units) (take_all c.loop-at.at-index order c.loop-at-test.false)
    ∙ distortion_in_order table order choice c.requires.order c.requires.fits
