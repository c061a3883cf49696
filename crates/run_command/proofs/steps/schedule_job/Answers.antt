use Rattle.std.proofs.Common.{inl, refl}
use Rattle.shelf_io.specs.Facts.{shelf_facts}
use Rattle.command_words.proofs.Performed.{wants_uncalled}
use Rattle.run_command.specs.RunCommand.{run_task_of}
use Rattle.run_command.proofs.RunSteps.{missed_never}
use Rattle.run_command.proofs.steps.schedule_job.Goals as goal

pub schedule-requires-clause-valid : goal.schedule-requires-clause-valid
schedule-requires-clause-valid g c = c.requires.read.valid_table

pub unreachable-requires : goal.unreachable-requires
unreachable-requires g c =
    missed_never c.args.made.now.table c.args.cert.now.choice c.in-Err-Missed.field-0-is c.in-Err-Missed.ensures.missed c.requires.plan.head.scheduled c.no_miss_where_scheduled.ensures

pub returns-in-Err-OutOfMemory : goal.returns-in-Err-OutOfMemory
returns-in-Err-OutOfMemory g c =
    wants_uncalled (run_task_of c.args.files.now) (shelf_facts g.K.Shelf.files g.K.Shelf.counts g.K.Shelf.asked g.K.Shelf.since_fault c.args.shelf.now) (λ held. inl refl)
