use Rattle.std.proofs.Common.{inl, refl}
use Rattle.shelf_io.specs.Facts.{shelf_facts}
use Rattle.command_words.proofs.Performed.{wants_uncalled}
use Rattle.run_command.specs.RunCommand.{run_task_of}
use Rattle.run_command.proofs.Missed.{missed_ends}
use Rattle.run_command.proofs.steps.plan_job.Goals as goal

pub plan_of_table-requires : goal.plan_of_table-requires
plan_of_table-requires g c = c.requires.valid_table

pub returns-in-Err-Missed : goal.returns-in-Err-Missed
returns-in-Err-Missed g c =
    let files = c.args.files.now in
    missed_ends files.job.now files.out.now files.certificate.now (shelf_facts g.K.Shelf.files g.K.Shelf.counts g.K.Shelf.asked g.K.Shelf.since_fault c.args.shelf.now)
    c.args.made.now c.end_with.result c.in-Err-Missed.field-0 c.in-Err-Missed.miss c.miss_report.result c.in-Err-Missed.field-0-is c.in-Err-Missed.ensures.missed
    c.requires.is c.end_with.ensures c.miss_report.ensures

pub returns-in-Err-OutOfMemory : goal.returns-in-Err-OutOfMemory
returns-in-Err-OutOfMemory g c =
    wants_uncalled (run_task_of c.args.files.now) (shelf_facts g.K.Shelf.files g.K.Shelf.counts g.K.Shelf.asked g.K.Shelf.since_fault c.args.shelf.now) (λ held. inl refl)
