use Rattle.std.proofs.Common.{◌+◌, ◌∙◌, Option, Err, refl, ap, subst, inr}
use Rattle.bound_certificate.specs.declared.limits.TheConstants.{CERT_BYTES_MOST}
use Rattle.shelf_io.specs.Files.{Files}
use Rattle.shelf_io.proofs.Counted.{never_failed}
use Rattle.command_words.specs.Ended.{answer_of}
use Rattle.shelf_io.specs.Facts.{shelf_facts}
use Rattle.command_words.proofs.Counted.{read_grows}
use Rattle.command_words.proofs.Ends.{ends_by_read, failed_isnt_missing, missing_isnt_failed}
use Rattle.command_words.proofs.Performed.{absent, unread, wants_bytes}
use Rattle.command_words.proofs.Texts.{found_text}
use Rattle.plan_command.specs.PlanCommand.{HoldsTable}
use Rattle.check_plan_command.specs.CheckPlanCommand.{check_plan_task_of}
use Rattle.check_plan_command.proofs.Asked.{asks_cert}
use Rattle.check_plan_command.proofs.Judged.{verdict_on_performs}
use Rattle.check_plan_command.proofs.steps.check_table.Goals as goal

pub returns-in-Ok : goal.returns-in-Ok
returns-in-Ok g c =
    let facts = shelf_facts g.K.Shelf.files g.K.Shelf.counts g.K.Shelf.asked g.K.Shelf.since_fault in
    let files = c.args.files.now in
    let is = c.in-Ok.ensures in
    let found = found_text (g.K.Shelf.files c.args.shelf.now) files.certificate.now c.in-Ok.bytes (CERT_BYTES_MOST + 1) is.length is.told in
    verdict_on_performs files.table.now files.certificate.now (facts c.args.shelf.now) (facts c.read_file.new.shelf) c.args.table.now found.0 c.as_slice.result.now c.verdict.result
    (record { has = c.requires.held; stands = found.1 }) (c.as_slice.ensures ∙ found.2) c.verdict.ensures is.files
    (ends_by_read (facts c.args.shelf.now) (facts c.read_file.new.shelf) (answer_of c.verdict.result) is.causes is.failed_last is.missing_last
    (λ it. absurd (never_failed c.in-Ok.bytes it)) (λ it. absurd (never_failed c.in-Ok.bytes it)))
    (read_grows is.causes) (asks_cert _ _ _ _ _ c.requires.apart is.asked)

pub returns-in-Err-Failed : goal.returns-in-Err-Failed
returns-in-Err-Failed g c =
    let facts = shelf_facts g.K.Shelf.files g.K.Shelf.counts g.K.Shelf.asked g.K.Shelf.since_fault in
    let is = c.in-Err-Failed.ensures in
    unread (check_plan_task_of c.args.files.now) (facts c.args.shelf.now) (facts c.read_file.new.shelf) c.end_unread.result c.args.files.now.certificate.now CERT_BYTES_MOST
    c.end_unread.ensures is.files (λ held. refl) (inr (refl, refl)) is.causes (ap Err c.in-Err-Failed.field-0-is)
    (failed_isnt_missing c.in-Err-Failed.field-0 c.in-Err-Failed.field-0-is) is.failed_last (asks_cert _ _ _ _ _ c.requires.apart is.asked)

pub returns-in-Err-Missing : goal.returns-in-Err-Missing
returns-in-Err-Missing g c =
    let facts = shelf_facts g.K.Shelf.files g.K.Shelf.counts g.K.Shelf.asked g.K.Shelf.since_fault in
    let is = c.in-Err-Missing.ensures in
    let files = c.args.files.now in
    absent (check_plan_task_of files) (facts c.args.shelf.now) (facts c.read_file.new.shelf) c.end_missing.result files.certificate.now CERT_BYTES_MOST
    c.end_missing.ensures is.files (λ held. refl) (inr (refl, refl)) (is.lacking (ap Err c.in-Err-Missing.field-0-is))
    (λ held told lacks. inr (c.args.table.now, subst (λ (t : Option Files). HoldsTable t files.table.now c.args.table.now) told c.requires.held, lacks))
    is.causes (ap Err c.in-Err-Missing.field-0-is) (missing_isnt_failed c.in-Err-Missing.field-0 c.in-Err-Missing.field-0-is) is.missing_last
    (asks_cert _ _ _ _ _ c.requires.apart is.asked)

pub returns-in-Err-OutOfMemory : goal.returns-in-Err-OutOfMemory
returns-in-Err-OutOfMemory g c =
    let facts = shelf_facts g.K.Shelf.files g.K.Shelf.counts g.K.Shelf.asked g.K.Shelf.since_fault in
    let is = c.in-Err-OutOfMemory.ensures in
    wants_bytes (check_plan_task_of c.args.files.now) (facts c.args.shelf.now) (facts c.read_file.new.shelf) is.files (λ held. refl) is.causes is.failed_last is.missing_last
    (asks_cert _ _ _ _ _ c.requires.apart is.asked)
