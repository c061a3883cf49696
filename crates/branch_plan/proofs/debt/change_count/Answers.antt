use Rattle.std.proofs.Common.{◌≡◌, ◌<◌, length, sym, ap, ◌∙◌, arith}
use Rattle.version_table.specs.declared.table.Unit.{Unit as CodedUnit}
use Rattle.version_table.specs.Table.{units_of}
use Rattle.certificate_checker.proofs.Units.{few_versions_of}
use Rattle.branch_plan.specs.Private.Changes.{changes_before}
use Rattle.branch_plan.proofs.Counting.{before_all, before_more, before_none}
use Rattle.branch_plan.proofs.debt.change_count.Goals as goal

pub loop-place-init : goal.loop-place-init
loop-place-init c = record {
  count = sym (before_none c.args.table.now);
  few = omega arith;
}

pub loop-place-preserved : goal.loop-place-preserved
loop-place-preserved c =
    let table = c.args.table.now in
    let place = c.loop-place.place in
    let unit = ap (λ (u : CodedUnit). length u.versions.items) c.unit_at-unit.ensures in
    let within : place < length (units_of table) = omega (arith, c.loop-place-test.true, c.requires.units) in
    record {
      count = omega (arith, c.loop-place.invariant.count, before_more table place within, unit, c.changes_of-changes.ensures.count);
      few = omega (arith, c.loop-place.invariant.few, few_versions_of table place c.requires.valid, unit, c.changes_of-changes.ensures.count);
    }

pub returns-clause-count : goal.returns-clause-count
returns-clause-count c =
    let table = c.args.table.now in
    let all : c.loop-place.place ≡ length (units_of table) = omega (arith, c.loop-place-test.false, c.loop-place.auto.place-end, c.requires.units) in
    c.loop-place.invariant.count ∙ ap (changes_before table) all ∙ before_all table
