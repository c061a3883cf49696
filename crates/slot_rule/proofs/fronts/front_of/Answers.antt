use Rattle.std.proofs.Common.{◌-◌, length, drop, subst, ap, length-drop, arith}
use Rattle.std.proofs.lemmas.List.{length-take-le}
use Rattle.version_table.specs.declared.table.ProgramRow.{ProgramRow}
use Rattle.slot_rule.specs.declared.queue_items.QueueItems.{QueueItems}
use Rattle.slot_rule.specs.Private.QueueItems.{IsPlace, program_at}
use Rattle.slot_rule.proofs.RuleVideo.{HasSizes-long}
use Rattle.slot_rule.proofs.fronts.front_of.Goals as goal

pub same_front-same-requires-clause-new : goal.same_front-same-requires-clause-new
same_front-same-requires-clause-new c =
    let place = subst (λ (items : QueueItems). IsPlace c.args.table.now c.args.new.now items) c.in-Units.is c.requires.place in
    let long = HasSizes-long (program_at c.args.table.now c.in-Units.program).units (drop c.in-Units.first c.args.new.now) place.2 in
    let units = ap (λ (row : ProgramRow). length row.units) c.program_at.ensures in
    let size = length-drop c.in-Units.first c.args.new.now in
    let all = length-take-le (length c.args.new.now - c.in-Units.first) (drop c.in-Units.first c.args.new.now) (omega (arith, size)) in
    omega (arith, long, c.len-units.ensures, units, size, all)

pub same_front-same-requires-clause-old : goal.same_front-same-requires-clause-old
same_front-same-requires-clause-old c =
    let place = subst (λ (items : QueueItems). IsPlace c.args.table.now c.args.new.now items) c.in-Units.is c.requires.place in
    let long = HasSizes-long (program_at c.args.table.now c.in-Units.program).units (drop c.in-Units.first c.args.new.now) place.2 in
    let units = ap (λ (row : ProgramRow). length row.units) c.program_at.ensures in
    let size = length-drop c.in-Units.first c.args.old.now in
    let size' = length-drop c.in-Units.first c.args.new.now in
    let all = length-take-le (length c.args.old.now - c.in-Units.first) (drop c.in-Units.first c.args.old.now) (omega (arith, size)) in
    omega (arith, long, c.len-units.ensures, units, size, size', all, c.requires.as_many)
