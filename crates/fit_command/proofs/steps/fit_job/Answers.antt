use Rattle.std.proofs.Common.{subst, sym, Option}
use Rattle.shelf_io.specs.Files.{Files}
use Rattle.job_files.specs.JobFile.{HoldsJob}
use Rattle.command_words.specs.Ended.{answer_of}
use Rattle.shelf_io.specs.Facts.{shelf_facts}
use Rattle.command_words.proofs.Performed.{behind_reads}
use Rattle.fit_command.specs.FitCommand.{files_of_fit, fit_task_of}
use Rattle.fit_command.proofs.Asked.{asks_job}
use Rattle.fit_command.proofs.Stopped.{file_stop_performs}
use Rattle.fit_command.proofs.steps.fit_job.Goals as goal

pub fit_in_list-requires-clause-held : goal.fit_in_list-requires-clause-held
fit_in_list-requires-clause-held g c =
    let files = c.args.files.now in
    subst (λ (told : Option Files). HoldsJob told files.job.now (files_of_fit files.job.now files.list.now) c.in-Ok.job) (sym c.in-Ok.ensures.files) c.in-Ok.ensures.job

pub returns-in-Ok : goal.returns-in-Ok
returns-in-Ok g c =
    let facts = shelf_facts g.K.Shelf.files g.K.Shelf.counts g.K.Shelf.asked g.K.Shelf.since_fault in
    behind_reads (fit_task_of c.args.files.now) (facts c.args.shelf.now) (facts c.read_job_file.new.shelf) (facts c.fit_in_list.new.shelf) (answer_of c.fit_in_list.result)
    c.in-Ok.ensures.files (λ no. no) (λ no. no) c.in-Ok.ensures.counts c.in-Ok.ensures.ends (asks_job _ _ _ _ _ c.requires c.in-Ok.ensures.asked) c.fit_in_list.ensures

pub returns-in-Err : goal.returns-in-Err
returns-in-Err g c =
    let facts = shelf_facts g.K.Shelf.files g.K.Shelf.counts g.K.Shelf.asked g.K.Shelf.since_fault in
    let files = c.args.files.now in
    file_stop_performs files.job.now files.list.now (facts c.args.shelf.now) (facts c.read_job_file.new.shelf) c.in-Err.stop c.end_stopped.result c.in-Err.ensures.stop
    (record { so = c.end_stopped.ensures; same = c.in-Err.ensures.files; counts = c.in-Err.ensures.counts; ends = c.in-Err.ensures.ends })
    (asks_job _ _ _ _ _ c.requires c.in-Err.ensures.asked)
