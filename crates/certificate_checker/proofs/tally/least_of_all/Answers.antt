use Rattle.std.proofs.Common.{◌≡◌, ℕ, [], List, length, get_or, sum_by, ap, ◌∙◌, arith}
use Rattle.std.proofs.lemmas.List.{take_all}
use Rattle.std.proofs.lemmas.List.Sums.{sum_by_more}
use Rattle.certificate_checker.specs.declared.order.DueUnit.{DueUnit}
use Rattle.version_table.specs.Table.{units_of}
use Rattle.certificate_checker.specs.Shown.{unfixed}
use Rattle.certificate_checker.proofs.FreeLeast.{all_free, charging_none, unfixed_cost}
use Rattle.certificate_checker.proofs.OrderCosts.{cost_of_number, costs_fit, no_place}
use Rattle.certificate_checker.proofs.Units.{fixes_nothing}
use Rattle.certificate_checker.proofs.tally.least_of_all.Goals as goal

pub overflow_add-total : goal.overflow_add-total
overflow_add-total c =
    let table = c.args.table.now in
    let order = c.args.order.now in
    let i = c.loop-at.at-index in
    omega (
      arith,
      c.from-total.ensures,
      c.least_of.ensures,
      c.loop-at.invariant,
      unfixed_cost table (get_or order i no_place).unit,
      costs_fit table order [] (unfixed table) i no_place c.requires.valid c.requires.order (fixes_nothing (units_of table)) charging_none c.loop-at-test.true,
    )

pub loop-at-preserved : goal.loop-at-preserved
loop-at-preserved c =
    let table = c.args.table.now in
    let order = c.args.order.now in
    let i = c.loop-at.at-index in
    omega (
      arith,
      c.from-total.ensures,
      c.least_of.ensures,
      c.loop-at.invariant,
      unfixed_cost table (get_or order i no_place).unit,
      sum_by_more (λ (at : DueUnit). cost_of_number table [] (unfixed table) at.unit) order i no_place c.loop-at-test.true,
    )

pub returns : goal.returns
returns c =
    let table = c.args.table.now in
    let order = c.args.order.now in
    c.loop-at.invariant
    ∙ ap (λ (units : List DueUnit). sum_by (λ (at : DueUnit). cost_of_number table [] (unfixed table) at.unit) units) (take_all c.loop-at.at-index order c.loop-at-test.false)
    ∙ all_free table order
