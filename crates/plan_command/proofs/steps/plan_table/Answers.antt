use Rattle.std.proofs.Common.{inl, refl}
use Rattle.shelf_io.specs.Facts.{shelf_facts}
use Rattle.command_words.proofs.Performed.{wants_uncalled}
use Rattle.plan_command.specs.PlanCommand.{plan_task_of}
use Rattle.plan_command.proofs.Held.{missed_ends}
use Rattle.plan_command.proofs.steps.plan_table.Goals as goal

pub write_plan-requires-clause-planned : goal.write_plan-requires-clause-planned
write_plan-requires-clause-planned g c = record { table = c.args.table.now; holds = c.requires.held; is_plan = c.in-Ok.ensures.plan }

pub returns-in-Err-Missed : goal.returns-in-Err-Missed
returns-in-Err-Missed g c =
    let files = c.args.files.now in
    missed_ends files.table.now files.certificate.now (shelf_facts g.K.Shelf.files g.K.Shelf.counts g.K.Shelf.asked g.K.Shelf.since_fault c.args.shelf.now)
    c.args.table.now c.end_with.result c.in-Err-Missed.field-0 c.in-Err-Missed.miss c.miss_report.result c.in-Err-Missed.field-0-is c.in-Err-Missed.ensures.missed
    c.requires.held c.end_with.ensures c.miss_report.ensures

pub returns-in-Err-OutOfMemory : goal.returns-in-Err-OutOfMemory
returns-in-Err-OutOfMemory g c =
    wants_uncalled (plan_task_of c.args.files.now) (shelf_facts g.K.Shelf.files g.K.Shelf.counts g.K.Shelf.asked g.K.Shelf.since_fault c.args.shelf.now) (λ held. inl refl)
