use Rattle.std.proofs.Common.{Err, refl, ap}
use Rattle.shelf_io.proofs.Counted.{never_failed}
use Rattle.shelf_io.specs.Facts.{shelf_facts}
use Rattle.command_words.proofs.Performed.{unwritten, wants_within, written}
use Rattle.probe_command.specs.ProbeCommand.{probe_task_of}
use Rattle.probe_command.specs.Report.{probe_report}
use Rattle.probe_command.proofs.ProbeSteps.{has_probed, part_left, whole_written}
use Rattle.probe_command.proofs.steps.write_probed.Goals as goal

pub prepare-requires : goal.prepare-requires
prepare-requires g c = (c.args.words.now.program, c.requires.program, c.requires.probed.read, c.requires.off)

pub returns-in-Ok : goal.returns-in-Ok
returns-in-Ok g c =
    let facts = shelf_facts g.K.Shelf.files g.K.Shelf.counts g.K.Shelf.asked g.K.Shelf.since_fault in
    let words = c.args.words.now in
    let program = c.requires.program in
    let probed = c.in_ok-probed.probed in
    let is = c.in_ok-probed.ensures program c.requires.off in
    let old = g.K.Shelf.files c.args.shelf.now in
    written (probe_task_of words) (facts c.args.shelf.now) (facts c.write_file.new.shelf) probed.done (probe_report program) (probe_report program) is.ends refl
    (whole_written words.file.now words.program words.table.now old (g.K.Shelf.files c.write_file.new.shelf) program probed c.as_slice.result.now is c.as_slice.ensures
    c.requires.probed c.in-Ok.ensures.ok)
    (program, is.made, has_probed old words.file.now words.program program probed is c.requires.probed, refl) c.in-Ok.ensures.causes (never_failed tt) c.in-Ok.ensures.asked

pub returns-in-Err-Failed : goal.returns-in-Err-Failed
returns-in-Err-Failed g c =
    let facts = shelf_facts g.K.Shelf.files g.K.Shelf.counts g.K.Shelf.asked g.K.Shelf.since_fault in
    let words = c.args.words.now in
    unwritten (probe_task_of words) (facts c.args.shelf.now) (facts c.write_file.new.shelf) c.end_unwritten.result words.table.now c.end_unwritten.ensures
    (part_left words.file.now words.program words.table.now (g.K.Shelf.files c.args.shelf.now) (g.K.Shelf.files c.write_file.new.shelf) c.requires.program
    c.in_ok-probed.probed c.as_slice.result.now (c.in_ok-probed.ensures c.requires.program c.requires.off) c.as_slice.ensures c.requires.probed c.in-Err-Failed.ensures.err)
    refl c.in-Err-Failed.ensures.causes (ap Err c.in-Err-Failed.field-0-is) c.in-Err-Failed.ensures.fault_last c.in-Err-Failed.ensures.asked

pub returns-in-Err-OutOfMemory : goal.returns-in-Err-OutOfMemory
returns-in-Err-OutOfMemory g c =
    let facts = shelf_facts g.K.Shelf.files g.K.Shelf.counts g.K.Shelf.asked g.K.Shelf.since_fault in
    let words = c.args.words.now in
    wants_within (probe_task_of words) (facts c.args.shelf.now) (facts c.write_file.new.shelf)
    (part_left words.file.now words.program words.table.now (g.K.Shelf.files c.args.shelf.now) (g.K.Shelf.files c.write_file.new.shelf) c.requires.program
    c.in_ok-probed.probed c.as_slice.result.now (c.in_ok-probed.ensures c.requires.program c.requires.off) c.as_slice.ensures c.requires.probed c.in-Err-OutOfMemory.ensures.err)
    c.in-Err-OutOfMemory.ensures.causes (λ it. c.in-Err-OutOfMemory.ensures.fault_last) c.in-Err-OutOfMemory.ensures.asked
