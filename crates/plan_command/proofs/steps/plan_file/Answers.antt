use Rattle.std.proofs.Common.{◌+◌, ◌∙◌, Option, Err, refl, ap, sym, subst, inl}
use Rattle.shelf_io.specs.Files.{Files}
use Rattle.shelf_io.proofs.Counted.{never_failed}
use Rattle.version_table.specs.declared.limits.TheConstants.{TABLE_TEXT_MOST}
use Rattle.command_words.specs.Ended.{answer_of}
use Rattle.shelf_io.specs.Facts.{shelf_facts}
use Rattle.command_words.proofs.Ends.{failed_isnt_missing, missing_isnt_failed}
use Rattle.command_words.proofs.Performed.{absent, behind_read, unread, wants_bytes}
use Rattle.command_words.proofs.Texts.{found_text}
use Rattle.plan_command.specs.PlanCommand.{plan_task_of}
use Rattle.plan_command.specs.Private.Front.{HoldsFront}
use Rattle.plan_command.proofs.Held.{asks_table}
use Rattle.plan_command.proofs.steps.plan_file.Goals as goal

pub plan_text-requires : goal.plan_text-requires
plan_text-requires g c =
    let table = c.args.files.now.table.now in
    let found = found_text (g.K.Shelf.files c.args.shelf.now) table c.in-Ok.text (TABLE_TEXT_MOST + 1) c.in-Ok.ensures.length c.in-Ok.ensures.told in
    subst (λ (told : Option Files). HoldsFront told table c.in-Ok.text) (sym c.in-Ok.ensures.files)
    (record { text = found.0; held = found.1; front_is = found.2 })

pub returns-in-Ok : goal.returns-in-Ok
returns-in-Ok g c =
    let facts = shelf_facts g.K.Shelf.files g.K.Shelf.counts g.K.Shelf.asked g.K.Shelf.since_fault in
    behind_read (plan_task_of c.args.files.now) (facts c.args.shelf.now) (facts c.read_file.new.shelf) (facts c.plan_text.new.shelf) (answer_of c.plan_text.result)
    c.in-Ok.ensures.files (never_failed c.in-Ok.text) (never_failed c.in-Ok.text) c.in-Ok.ensures.causes (asks_table _ _ _ _ _ c.in-Ok.ensures.asked) c.plan_text.ensures

pub returns-in-Err-Failed : goal.returns-in-Err-Failed
returns-in-Err-Failed g c =
    let facts = shelf_facts g.K.Shelf.files g.K.Shelf.counts g.K.Shelf.asked g.K.Shelf.since_fault in
    let is = c.in-Err-Failed.ensures in
    unread (plan_task_of c.args.files.now) (facts c.args.shelf.now) (facts c.read_file.new.shelf) c.end_unread.result c.args.files.now.table.now TABLE_TEXT_MOST
    c.end_unread.ensures is.files (λ held. inl refl) (refl, refl) is.causes (ap Err c.in-Err-Failed.field-0-is)
    (failed_isnt_missing c.in-Err-Failed.field-0 c.in-Err-Failed.field-0-is) is.failed_last (asks_table _ _ _ _ _ is.asked)

pub returns-in-Err-Missing : goal.returns-in-Err-Missing
returns-in-Err-Missing g c =
    let facts = shelf_facts g.K.Shelf.files g.K.Shelf.counts g.K.Shelf.asked g.K.Shelf.since_fault in
    let is = c.in-Err-Missing.ensures in
    absent (plan_task_of c.args.files.now) (facts c.args.shelf.now) (facts c.read_file.new.shelf) c.end_missing.result c.args.files.now.table.now TABLE_TEXT_MOST
    c.end_missing.ensures is.files (λ held. inl refl) (refl, refl) (is.lacking (ap Err c.in-Err-Missing.field-0-is)) (λ held told lacks. lacks)
    is.causes (ap Err c.in-Err-Missing.field-0-is) (missing_isnt_failed c.in-Err-Missing.field-0 c.in-Err-Missing.field-0-is) is.missing_last
    (asks_table _ _ _ _ _ is.asked)

pub returns-in-Err-OutOfMemory : goal.returns-in-Err-OutOfMemory
returns-in-Err-OutOfMemory g c =
    let facts = shelf_facts g.K.Shelf.files g.K.Shelf.counts g.K.Shelf.asked g.K.Shelf.since_fault in
    let is = c.in-Err-OutOfMemory.ensures in
    wants_bytes (plan_task_of c.args.files.now) (facts c.args.shelf.now) (facts c.read_file.new.shelf) is.files (λ held. inl refl) is.causes is.failed_last is.missing_last
    (asks_table _ _ _ _ _ is.asked)
