use Rattle.std.proofs.Common.{Option, sym, subst}
use Rattle.shelf_io.specs.Files.{Files}
use Rattle.command_words.specs.Ended.{answer_of}
use Rattle.shelf_io.specs.Facts.{shelf_facts}
use Rattle.command_words.proofs.Performed.{behind_reads}
use Rattle.job_files.proofs.JobStopped.{stop_performs}
use Rattle.check_command.specs.CheckCommand.{check_task_of, files_of_check}
use Rattle.check_command.specs.Private.Checked.{IsTableOn}
use Rattle.check_command.proofs.Asked.{asks_check_job}
use Rattle.check_command.proofs.Calls.{check_reads_job}
use Rattle.check_command.proofs.steps.check_job.Goals as goal

pub check_table-requires-clause-held : goal.check_table-requires-clause-held
check_table-requires-clause-held g c =
    let is = c.in-Ok.ensures.table in
    subst (λ (told : Option Files). IsTableOn told c.args.files.now c.in-Ok.passed.table) (sym c.in-Ok.ensures.files)
    (record { made = is.made; has = is.is_table; table_is = sym is.off.table_is })

pub returns-in-Ok : goal.returns-in-Ok
returns-in-Ok g c =
    let facts = shelf_facts g.K.Shelf.files g.K.Shelf.counts g.K.Shelf.asked g.K.Shelf.since_fault in
    behind_reads (check_task_of c.args.files.now) (facts c.args.shelf.now) (facts c.pass_job_table.new.shelf) (facts c.check_table.new.shelf) (answer_of c.check_table.result)
    c.in-Ok.ensures.files (λ no. no) (λ no. no) c.in-Ok.ensures.counts c.in-Ok.ensures.ends (asks_check_job _ _ _ _ _ c.requires c.in-Ok.ensures.asked) c.check_table.ensures

pub returns-in-Err : goal.returns-in-Err
returns-in-Err g c =
    let facts = shelf_facts g.K.Shelf.files g.K.Shelf.counts g.K.Shelf.asked g.K.Shelf.since_fault in
    let files = c.args.files.now in
    stop_performs (check_task_of files) files.job.now (files_of_check files.job.now files.certificate.now) (facts c.args.shelf.now) (facts c.pass_job_table.new.shelf)
    c.in-Err.stop c.end_stopped.result (check_reads_job files.job.now files.certificate.now) c.in-Err.ensures.stop c.end_stopped.ensures c.in-Err.ensures.files
    c.in-Err.ensures.counts c.in-Err.ensures.ends (asks_check_job _ _ _ _ _ c.requires c.in-Err.ensures.asked)
