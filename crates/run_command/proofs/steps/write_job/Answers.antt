use Rattle.std.proofs.Common.{Err, ap, inl, refl}
use Rattle.shelf_io.proofs.Counted.{never_failed}
use Rattle.shelf_io.specs.Facts.{shelf_facts}
use Rattle.command_words.proofs.Performed.{unwritten, wants_within}
use Rattle.run_command.specs.RunCommand.{run_task_of}
use Rattle.run_command.proofs.RunSteps.{run_performs, stream_broken}
use Rattle.run_command.proofs.steps.write_job.Goals as goal

pub returns-in-Ok : goal.returns-in-Ok
returns-in-Ok g c =
    let facts = shelf_facts g.K.Shelf.files g.K.Shelf.counts g.K.Shelf.asked g.K.Shelf.since_fault in
    let files = c.args.files.now in
    run_performs files.job.now files.out.now files.certificate.now (facts c.args.shelf.now) (facts c.write_stream_file.new.shelf) (facts c.write_certificate.new.shelf)
    c.args.made.now c.args.cert.now c.args.slots.now c.in_ok-prepared.prepared c.write_certificate.result
    (record { has = c.requires.read.is; is_plan = c.requires.plan; are = c.requires.slots }) c.in-Ok.ensures.ok c.in_ok-prepared.ensures c.in-Ok.ensures.causes
    (never_failed tt) c.in-Ok.ensures.asked c.write_certificate.ensures

pub returns-in-Err-Failed : goal.returns-in-Err-Failed
returns-in-Err-Failed g c =
    let facts = shelf_facts g.K.Shelf.files g.K.Shelf.counts g.K.Shelf.asked g.K.Shelf.since_fault in
    let files = c.args.files.now in
    let is = c.in-Err-Failed.ensures in
    unwritten (run_task_of files) (facts c.args.shelf.now) (facts c.write_stream_file.new.shelf) c.end_unwritten.result files.out.now c.end_unwritten.ensures
    (stream_broken files.job.now files.out.now files.certificate.now (g.K.Shelf.files c.args.shelf.now) (g.K.Shelf.files c.write_stream_file.new.shelf)
    c.args.made.now c.args.cert.now c.args.slots.now (record { has = c.requires.read.is; is_plan = c.requires.plan; are = c.requires.slots }) is.err)
    (inl refl) is.causes (ap Err c.in-Err-Failed.field-0-is) (is.failed_last (ap Err c.in-Err-Failed.field-0-is)) is.asked

pub returns-in-Err-OutOfMemory : goal.returns-in-Err-OutOfMemory
returns-in-Err-OutOfMemory g c =
    let facts = shelf_facts g.K.Shelf.files g.K.Shelf.counts g.K.Shelf.asked g.K.Shelf.since_fault in
    let files = c.args.files.now in
    let is = c.in-Err-OutOfMemory.ensures in
    wants_within (run_task_of files) (facts c.args.shelf.now) (facts c.write_stream_file.new.shelf)
    (stream_broken files.job.now files.out.now files.certificate.now (g.K.Shelf.files c.args.shelf.now) (g.K.Shelf.files c.write_stream_file.new.shelf)
    c.args.made.now c.args.cert.now c.args.slots.now (record { has = c.requires.read.is; is_plan = c.requires.plan; are = c.requires.slots }) is.err)
    is.causes is.failed_last is.asked
