use Rattle.std.proofs.Common.{ℕ, Option, IfSome, sym, subst}
use Rattle.job_report.specs.ValidJob.{IsValidJob}
use Rattle.job_files.specs.JobTable.{IsTableOfJob}
use Rattle.job_files.specs.Stops.{StopsJob}
use Rattle.shelf_io.specs.Files.{Files}
use Rattle.version_table.specs.declared.table.Table.{Table}
use Rattle.version_table.specs.Table.{IsValidTable, greatest}
use Rattle.rate_fit.specs.Fit.{in_slots}
use Rattle.command_words.specs.Ended.{answer_of}
use Rattle.shelf_io.specs.Facts.{shelf_facts}
use Rattle.command_words.proofs.Counted.{asks_same, counts_same}
use Rattle.command_words.proofs.Ends.{ends_uncalled}
use Rattle.command_words.proofs.Performed.{behind_reads}
use Rattle.fit_command.specs.FitCommand.{HoldsAsked, fit_task, fit_task_of, job_in}
use Rattle.fit_command.specs.Private.Judged.{EndsByVerdicts}
use Rattle.fit_command.proofs.Asked.{asks_programs}
use Rattle.fit_command.proofs.FitSteps.{longest_within, valid_in, valid_table, verdicts_perform}
use Rattle.fit_command.proofs.Stopped.{job_stop_performs}
use Rattle.fit_command.proofs.steps.fit_in_slots.Goals as goal

pub pass_table_of_job-requires : goal.pass_table_of_job-requires
pass_table_of_job-requires g c =
    let (least, most) = longest_within c.args.slots.now c.requires.some c.requires.stand.within in
    subst (λ (slot : ℕ). IsValidJob (job_in slot c.args.job)) (sym c.longest.ensures) (valid_in _ c.args.job least most c.requires.valid)

pub verdicts_on-requires-clause-valid : goal.verdicts_on-requires-clause-valid
verdicts_on-requires-clause-valid g c =
    let is = c.in-Ok.ensures.table in
    subst (λ (table : Table). IsValidTable (in_slots (greatest c.args.slots.now) table)) (sym is.off.table_is)
    (subst (λ (slot : ℕ). IsValidTable (in_slots slot is.made.table)) c.longest.ensures
    (valid_table (g.K.Shelf.files c.args.shelf.now) c.longest.result c.args.job is.made is.is_table (subst IsValidTable is.off.table_is c.in-Ok.ensures.valid)))

pub verdicts_on-requires-clause-slots : goal.verdicts_on-requires-clause-slots
verdicts_on-requires-clause-slots g c = λ k d lt. (c.requires.stand.within k d lt).0

pub returns-in-Ok : goal.returns-in-Ok
returns-in-Ok g c =
    let facts = shelf_facts g.K.Shelf.files g.K.Shelf.counts g.K.Shelf.asked g.K.Shelf.since_fault in
    let files = c.args.files.now in
    let name = files.job.now in
    let list = files.list.now in
    let old = facts c.args.shelf.now in
    let new = facts c.pass_table_of_job.new.shelf in
    let told = g.K.Shelf.files c.args.shelf.now in
    let slots = c.args.slots.now in
    let asked = subst (λ (t : Option Files). HoldsAsked t name list c.args.job slots) (sym c.in-Ok.ensures.files) c.requires.asked in
    let is = c.in-Ok.ensures.table in
    let table = subst (λ (slot : ℕ). IsTableOfJob told (job_in slot c.args.job) is.made) c.longest.ensures is.is_table in
    let later = subst (λ (t : Option Files). IsTableOfJob t (job_in (greatest slots) c.args.job) is.made) (sym c.in-Ok.ensures.files) table in
    behind_reads (fit_task_of files) old new new (answer_of c.verdicts_on.result) c.in-Ok.ensures.files (λ no. no) (λ no. no) c.in-Ok.ensures.counts c.in-Ok.ensures.ends
    (asks_programs told name list c.args.job old.asked new.asked c.requires.asked.job_is c.in-Ok.ensures.asked)
    (verdicts_perform c.smallest_choice_is_one.ensures name list new c.args.job slots is.made c.verdicts_on.result (record { asked = asked; table = later })
    (subst (λ (those : Table). IfSome c.verdicts_on.result (EndsByVerdicts those slots)) is.off.table_is c.verdicts_on.ensures) (ends_uncalled new (answer_of c.verdicts_on.result)) (counts_same new.counts) (asks_same (fit_task name list) new.files new.asked))

pub returns-in-Err : goal.returns-in-Err
returns-in-Err g c =
    let facts = shelf_facts g.K.Shelf.files g.K.Shelf.counts g.K.Shelf.asked g.K.Shelf.since_fault in
    let files = c.args.files.now in
    let name = files.job.now in
    let list = files.list.now in
    let old = facts c.args.shelf.now in
    let new = facts c.pass_table_of_job.new.shelf in
    let told = g.K.Shelf.files c.args.shelf.now in
    let stops = subst (λ (slot : ℕ). StopsJob told (job_in slot c.args.job) old.counts new.counts new.since_fault c.in-Err.stop) c.longest.ensures c.in-Err.ensures.stop in
    job_stop_performs name list c.args.job c.args.slots.now old new c.in-Err.stop c.end_stopped.result c.requires.asked stops
    (record { so = c.end_stopped.ensures; same = c.in-Err.ensures.files; counts = c.in-Err.ensures.counts; ends = c.in-Err.ensures.ends })
    (asks_programs told name list c.args.job old.asked new.asked c.requires.asked.job_is c.in-Err.ensures.asked)
