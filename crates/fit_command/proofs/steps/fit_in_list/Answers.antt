use Rattle.std.proofs.Common.{◌+◌, ◌∙◌, Option, Err, refl, ap, subst, sym, inl, inr}
use Rattle.job_files.specs.JobFile.{HoldsJob}
use Rattle.shelf_io.specs.Files.{Files}
use Rattle.shelf_io.proofs.Counted.{never_failed}
use Rattle.command_words.specs.Ended.{answer_of}
use Rattle.shelf_io.specs.Facts.{shelf_facts}
use Rattle.command_words.proofs.Ends.{failed_isnt_missing, missing_isnt_failed}
use Rattle.command_words.proofs.Performed.{absent, behind_read, unread, wants_bytes}
use Rattle.command_words.proofs.Texts.{found_text}
use Rattle.fit_command.specs.declared.limits.TheConstants.{LIST_BYTES_MOST}
use Rattle.fit_command.specs.FitCommand.{files_of_fit, fit_task_of}
use Rattle.fit_command.specs.Private.Judged.{HoldsListFront}
use Rattle.fit_command.proofs.Asked.{asks_list}
use Rattle.fit_command.proofs.steps.fit_in_list.Goals as goal

pub fit_in_text-requires-clause-held : goal.fit_in_text-requires-clause-held
fit_in_text-requires-clause-held g c =
    let files = c.args.files.now in
    subst (λ (told : Option Files). HoldsJob told files.job.now (files_of_fit files.job.now files.list.now) c.args.job) (sym c.in-Ok.ensures.files) c.requires.held

pub fit_in_text-requires-clause-list : goal.fit_in_text-requires-clause-list
fit_in_text-requires-clause-list g c =
    let list = c.args.files.now.list.now in
    let found = found_text (g.K.Shelf.files c.args.shelf.now) list c.in-Ok.text (LIST_BYTES_MOST + 1) c.in-Ok.ensures.length c.in-Ok.ensures.told in
    subst (λ (told : Option Files). HoldsListFront told list c.as_slice.result.now) (sym c.in-Ok.ensures.files)
    (record { text = found.0; held = found.1; front_is = c.as_slice.ensures ∙ found.2 })

pub returns-in-Ok : goal.returns-in-Ok
returns-in-Ok g c =
    let facts = shelf_facts g.K.Shelf.files g.K.Shelf.counts g.K.Shelf.asked g.K.Shelf.since_fault in
    behind_read (fit_task_of c.args.files.now) (facts c.args.shelf.now) (facts c.read_file.new.shelf) (facts c.fit_in_text.new.shelf) (answer_of c.fit_in_text.result)
    c.in-Ok.ensures.files (never_failed c.in-Ok.text) (never_failed c.in-Ok.text) c.in-Ok.ensures.causes (asks_list _ _ _ _ _ c.requires.apart c.in-Ok.ensures.asked) c.fit_in_text.ensures

pub returns-in-Err-Failed : goal.returns-in-Err-Failed
returns-in-Err-Failed g c =
    let facts = shelf_facts g.K.Shelf.files g.K.Shelf.counts g.K.Shelf.asked g.K.Shelf.since_fault in
    let is = c.in-Err-Failed.ensures in
    unread (fit_task_of c.args.files.now) (facts c.args.shelf.now) (facts c.read_file.new.shelf) c.end_unread.result c.args.files.now.list.now LIST_BYTES_MOST
    c.end_unread.ensures is.files (λ held. refl) (inr (refl, refl)) is.causes (ap Err c.in-Err-Failed.field-0-is)
    (failed_isnt_missing c.in-Err-Failed.field-0 c.in-Err-Failed.field-0-is) is.failed_last (asks_list _ _ _ _ _ c.requires.apart is.asked)

pub returns-in-Err-Missing : goal.returns-in-Err-Missing
returns-in-Err-Missing g c =
    let facts = shelf_facts g.K.Shelf.files g.K.Shelf.counts g.K.Shelf.asked g.K.Shelf.since_fault in
    let is = c.in-Err-Missing.ensures in
    let files = c.args.files.now in
    absent (fit_task_of files) (facts c.args.shelf.now) (facts c.read_file.new.shelf) c.end_missing.result files.list.now LIST_BYTES_MOST
    c.end_missing.ensures is.files (λ held. refl) (inr (refl, refl)) (is.lacking (ap Err c.in-Err-Missing.field-0-is))
    (λ held told lacks. (
      files.list.now,
      inr (inl (c.args.job, subst (λ (t : Option Files). HoldsJob t files.job.now (files_of_fit files.job.now files.list.now) c.args.job) told c.requires.held, refl)),
      lacks,
    ))
    is.causes (ap Err c.in-Err-Missing.field-0-is) (missing_isnt_failed c.in-Err-Missing.field-0 c.in-Err-Missing.field-0-is) is.missing_last
    (asks_list _ _ _ _ _ c.requires.apart is.asked)

pub returns : goal.returns
returns g c =
    let facts = shelf_facts g.K.Shelf.files g.K.Shelf.counts g.K.Shelf.asked g.K.Shelf.since_fault in
    let is = c.in-Err-OutOfMemory.ensures in
    wants_bytes (fit_task_of c.args.files.now) (facts c.args.shelf.now) (facts c.read_file.new.shelf) is.files (λ held. refl) is.causes is.failed_last is.missing_last
    (asks_list _ _ _ _ _ c.requires.apart is.asked)
