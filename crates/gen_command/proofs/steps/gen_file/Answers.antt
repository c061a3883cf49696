use Rattle.std.proofs.Common.{◌∙◌, ℕ, List, Err, ap, refl, sym, subst}
use Rattle.program_maker.specs.Program.{IsGeneratedProgram}
use Rattle.shelf_io.proofs.Counted.{never_failed}
use Rattle.shelf_io.specs.Facts.{shelf_facts}
use Rattle.command_words.proofs.Performed.{unwritten, wants_within, written}
use Rattle.gen_command.specs.GenCommand.{gen_task_of}
use Rattle.gen_command.specs.Report.{gen_report}
use Rattle.gen_command.proofs.Made.{part_left, whole_written}
use Rattle.gen_command.proofs.steps.gen_file.Goals as goal

pub returns-in-Ok-write_file : goal.returns-in-Ok-write_file
returns-in-Ok-write_file g c =
    let facts = shelf_facts g.K.Shelf.files g.K.Shelf.counts g.K.Shelf.asked g.K.Shelf.since_fault in
    let words = c.args.words.now in
    let program = c.as_slice-2.result.now in
    let is : IsGeneratedProgram words.seed words.pictures program = subst (IsGeneratedProgram words.seed words.pictures) (sym c.as_slice-2.ensures) c.in-Ok.ensures in
    let says = c.gen_report.ensures ∙ ap (λ (bytes : List ℕ). gen_report bytes words.pictures) (c.as_slice.ensures ∙ sym c.as_slice-2.ensures) in
    written (gen_task_of words) (facts c.args.shelf.now) (facts c.write_file.new.shelf) c.in_ok-done.done c.gen_report.result (gen_report program words.pictures)
    c.in_ok-done.ensures says
    (whole_written words.seed words.pictures words.out.now program (g.K.Shelf.files c.args.shelf.now) (g.K.Shelf.files c.write_file.new.shelf) is
    c.in-Ok-write_file.ensures.ok)
    (program, is, refl) c.in-Ok-write_file.ensures.causes (never_failed tt) c.in-Ok-write_file.ensures.asked

pub returns-in-Err-Failed : goal.returns-in-Err-Failed
returns-in-Err-Failed g c =
    let facts = shelf_facts g.K.Shelf.files g.K.Shelf.counts g.K.Shelf.asked g.K.Shelf.since_fault in
    let words = c.args.words.now in
    let program = c.as_slice-2.result.now in
    let is : IsGeneratedProgram words.seed words.pictures program = subst (IsGeneratedProgram words.seed words.pictures) (sym c.as_slice-2.ensures) c.in-Ok.ensures in
    unwritten (gen_task_of words) (facts c.args.shelf.now) (facts c.write_file.new.shelf) c.end_unwritten.result words.out.now c.end_unwritten.ensures
    (part_left words.seed words.pictures words.out.now program (g.K.Shelf.files c.args.shelf.now) (g.K.Shelf.files c.write_file.new.shelf) is c.in-Err-Failed.ensures.err)
    refl c.in-Err-Failed.ensures.causes (ap Err c.in-Err-Failed.field-0-is) c.in-Err-Failed.ensures.fault_last c.in-Err-Failed.ensures.asked

pub returns-in-Err-OutOfMemory : goal.returns-in-Err-OutOfMemory
returns-in-Err-OutOfMemory g c =
    let facts = shelf_facts g.K.Shelf.files g.K.Shelf.counts g.K.Shelf.asked g.K.Shelf.since_fault in
    let words = c.args.words.now in
    let program = c.as_slice-2.result.now in
    let is : IsGeneratedProgram words.seed words.pictures program = subst (IsGeneratedProgram words.seed words.pictures) (sym c.as_slice-2.ensures) c.in-Ok.ensures in
    wants_within (gen_task_of words) (facts c.args.shelf.now) (facts c.write_file.new.shelf)
    (part_left words.seed words.pictures words.out.now program (g.K.Shelf.files c.args.shelf.now) (g.K.Shelf.files c.write_file.new.shelf) is
    c.in-Err-OutOfMemory.ensures.err)
    c.in-Err-OutOfMemory.ensures.causes (λ it. c.in-Err-OutOfMemory.ensures.fault_last) c.in-Err-OutOfMemory.ensures.asked
