use Rattle.std.proofs.Common.{◌≡◌, ◌∙◌, Err, refl, ap}
use Rattle.bound_certificate.specs.Spelling.{cert_spelling}
use Rattle.shelf_io.proofs.Counted.{never_failed}
use Rattle.shelf_io.specs.Facts.{shelf_facts}
use Rattle.command_words.proofs.Performed.{unwritten, wants_within, written}
use Rattle.plan_command.specs.PlanCommand.{plan_task_of}
use Rattle.plan_command.specs.Report.{plan_report}
use Rattle.plan_command.proofs.Held.{part_written, whole_written}
use Rattle.plan_command.proofs.steps.write_plan.Goals as goal

pub returns-in-Ok-write_file : goal.returns-in-Ok-write_file
returns-in-Ok-write_file g c =
    let facts = shelf_facts g.K.Shelf.files g.K.Shelf.counts g.K.Shelf.asked g.K.Shelf.since_fault in
    let files = c.args.files.now in
    let bytes : c.as_slice.result.now ≡ cert_spelling c.args.plan = c.as_slice.ensures ∙ c.in-Ok.ensures.bytes in
    let old = g.K.Shelf.files c.args.shelf.now in
    written (plan_task_of files) (facts c.args.shelf.now) (facts c.write_file.new.shelf) c.in_ok-done.done c.plan_report.result (plan_report c.args.plan)
    c.in_ok-done.ensures c.plan_report.ensures
    (whole_written old (g.K.Shelf.files c.write_file.new.shelf) files.table.now files.certificate.now c.args.plan c.as_slice.result.now bytes c.requires.planned
    c.in-Ok-write_file.ensures.ok)
    (c.args.plan, c.requires.planned, refl) c.in-Ok-write_file.ensures.causes (never_failed tt) c.in-Ok-write_file.ensures.asked

pub returns-in-Err-Failed : goal.returns-in-Err-Failed
returns-in-Err-Failed g c =
    let facts = shelf_facts g.K.Shelf.files g.K.Shelf.counts g.K.Shelf.asked g.K.Shelf.since_fault in
    let files = c.args.files.now in
    let bytes : c.as_slice.result.now ≡ cert_spelling c.args.plan = c.as_slice.ensures ∙ c.in-Ok.ensures.bytes in
    unwritten (plan_task_of files) (facts c.args.shelf.now) (facts c.write_file.new.shelf) c.end_unwritten.result files.certificate.now c.end_unwritten.ensures
    (part_written (g.K.Shelf.files c.args.shelf.now) (g.K.Shelf.files c.write_file.new.shelf) files.table.now files.certificate.now c.args.plan c.as_slice.result.now bytes
    c.requires.planned c.in-Err-Failed.ensures.err)
    refl c.in-Err-Failed.ensures.causes (ap Err c.in-Err-Failed.field-0-is) c.in-Err-Failed.ensures.fault_last c.in-Err-Failed.ensures.asked

pub returns-in-Err-OutOfMemory : goal.returns-in-Err-OutOfMemory
returns-in-Err-OutOfMemory g c =
    let facts = shelf_facts g.K.Shelf.files g.K.Shelf.counts g.K.Shelf.asked g.K.Shelf.since_fault in
    let files = c.args.files.now in
    let bytes : c.as_slice.result.now ≡ cert_spelling c.args.plan = c.as_slice.ensures ∙ c.in-Ok.ensures.bytes in
    wants_within (plan_task_of files) (facts c.args.shelf.now) (facts c.write_file.new.shelf)
    (part_written (g.K.Shelf.files c.args.shelf.now) (g.K.Shelf.files c.write_file.new.shelf) files.table.now files.certificate.now c.args.plan c.as_slice.result.now bytes
    c.requires.planned c.in-Err-OutOfMemory.ensures.err)
    c.in-Err-OutOfMemory.ensures.causes (λ it. c.in-Err-OutOfMemory.ensures.fault_last) c.in-Err-OutOfMemory.ensures.asked
