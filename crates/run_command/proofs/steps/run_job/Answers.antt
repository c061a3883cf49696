use Rattle.std.proofs.Common.{Option, sym, subst}
use Rattle.shelf_io.specs.Files.{Files}
use Rattle.command_words.specs.Ended.{answer_of}
use Rattle.shelf_io.specs.Facts.{shelf_facts}
use Rattle.command_words.proofs.Performed.{behind_reads}
use Rattle.job_files.specs.JobTable.{IsJobTable}
use Rattle.job_files.proofs.JobStopped.{stop_performs}
use Rattle.run_command.specs.RunCommand.{files_of_run, run_task_of}
use Rattle.run_command.proofs.Calls.{run_reads_job}
use Rattle.run_command.proofs.Missed.{asks_run}
use Rattle.run_command.proofs.steps.run_job.Goals as goal

pub plan_job-requires : goal.plan_job-requires
plan_job-requires g c =
    let files = c.args.files.now in
    let named = files_of_run files.job.now files.out.now files.certificate.now in
    record {
      is = subst (λ (told : Option Files). IsJobTable told files.job.now named c.in-Ok.made) (sym c.in-Ok.ensures.files) c.in-Ok.ensures.table;
      valid_job = c.in-Ok.ensures.job;
      valid_table = c.in-Ok.ensures.valid;
    }

pub returns-in-Ok : goal.returns-in-Ok
returns-in-Ok g c =
    let facts = shelf_facts g.K.Shelf.files g.K.Shelf.counts g.K.Shelf.asked g.K.Shelf.since_fault in
    behind_reads (run_task_of c.args.files.now) (facts c.args.shelf.now) (facts c.read_job_table.new.shelf) (facts c.plan_job.new.shelf) (answer_of c.plan_job.result)
    c.in-Ok.ensures.files (λ no. no) (λ no. no) c.in-Ok.ensures.counts c.in-Ok.ensures.ends (asks_run _ _ _ _ _ _ c.in-Ok.ensures.asked) c.plan_job.ensures

pub returns-in-Err : goal.returns-in-Err
returns-in-Err g c =
    let facts = shelf_facts g.K.Shelf.files g.K.Shelf.counts g.K.Shelf.asked g.K.Shelf.since_fault in
    let files = c.args.files.now in
    stop_performs (run_task_of files) files.job.now (files_of_run files.job.now files.out.now files.certificate.now) (facts c.args.shelf.now)
    (facts c.read_job_table.new.shelf) c.in-Err.stop c.end_stopped.result (run_reads_job files.job.now files.out.now files.certificate.now) c.in-Err.ensures.stop
    c.end_stopped.ensures c.in-Err.ensures.files c.in-Err.ensures.counts c.in-Err.ensures.ends (asks_run _ _ _ _ _ _ c.in-Err.ensures.asked)
