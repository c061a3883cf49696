use Rattle.std.proofs.Common.{Option, None, refl, sym, subst, inl}
use Rattle.job_programs.specs.Alone.{HasAloneCause, IsAloneOn, IsAloneRefusedOn}
use Rattle.job_programs.specs.declared.source_fault.ProgramsFault.{ProgramsFault}
use Rattle.job_report.specs.declared.limits.TheConstants.{START_DEFAULT}
use Rattle.job_report.specs.declared.report.Report.TheVariants as reports
use Rattle.program_reader.specs.declared.limits.TheConstants.{FILE_BYTES_MOST}
use Rattle.run_report.specs.Report.{source_report}
use Rattle.shelf_io.specs.Files.{Files, Lacks}
use Rattle.command_words.specs.declared.status.Status.TheVariants.{SourceRefused, ReadFault, Missing}
use Rattle.command_words.specs.Ended.{answer_of}
use Rattle.shelf_io.specs.Facts.{shelf_facts}
use Rattle.command_words.proofs.Counted.{programs_grow}
use Rattle.command_words.proofs.Ends.{ends_by_reads, programs_end, tells}
use Rattle.command_words.proofs.Performed.{behind_reads, performs_so, wants}
use Rattle.audit_command.specs.AuditCommand.{IsAuditRefused, audit_task_of}
use Rattle.audit_command.specs.AuditCommand.IsAuditRefused.{unread}
use Rattle.audit_command.proofs.AuditEnds.{asks_file, audit_ends}
use Rattle.audit_command.proofs.steps.audit_file.Goals as goal

pub returns-in-Ok : goal.returns-in-Ok
returns-in-Ok g c =
    let facts = shelf_facts g.K.Shelf.files g.K.Shelf.counts g.K.Shelf.asked g.K.Shelf.since_fault in
    let words = c.args.words.now in
    let old = facts c.args.shelf.now in
    let new = facts c.read_alone.new.shelf in
    let read = c.in-Ok.read in
    let holds = subst (λ (told : Option Files). IsAloneOn told words.file.now words.slot START_DEFAULT words.program read.content read.program)
    (sym c.in-Ok.ensures.files) c.in-Ok.ensures.program in
    behind_reads (audit_task_of words) old new new (answer_of c.audit_read.result) c.in-Ok.ensures.files (λ no. no) (λ no. no) c.in-Ok.ensures.counts c.in-Ok.ensures.ends
    (asks_file _ _ _ _ _ _ c.in-Ok.ensures.asked)
    (audit_ends words.file.now words.program words.slot new read.content read.program c.audit_read.result holds c.audit_read.ensures)

pub returns-in-Err-Refused : goal.returns-in-Err-Refused
returns-in-Err-Refused g c =
    let words = c.args.words.now in
    let facts = shelf_facts g.K.Shelf.files g.K.Shelf.counts g.K.Shelf.asked g.K.Shelf.since_fault in
    let old = facts c.args.shelf.now in
    let new = facts c.read_alone.new.shelf in
    let is = c.in-Err-Refused.ensures in
    let fault = c.in-Err-Refused.fault in
    let refused : IsAloneRefusedOn old.files words.file.now words.slot START_DEFAULT words.program fault =
    subst (λ (f : ProgramsFault). HasAloneCause old.files words.file.now words.slot START_DEFAULT words.program old.counts new.counts new.since_fault f)
    c.in-Err-Refused.field-0-is is.cause in
    performs_so (audit_task_of words) old new c.end_refused_source.result (SourceRefused fault) (source_report fault) (source_report fault)
    c.end_refused_source.ensures refl is.files
    (λ held told. (unread (subst (λ (t : Option Files). IsAloneRefusedOn t words.file.now words.slot START_DEFAULT words.program fault) told refused), refl))
    (λ held. refl) (record { may = tt; says = refl; called = unread refused })
    (ends_by_reads old new (answer_of c.end_refused_source.result) is.counts.same_write_faults
    (programs_end old.counts new.counts new.since_fault c.in-Err-Refused.field-0-is (λ it. it) (λ it. it) is.ends) (λ no. absurd no) (λ no. absurd no))
    (programs_grow is.counts) (asks_file _ _ _ _ _ _ is.asked)

pub returns-in-Err-Failed : goal.returns-in-Err-Failed
returns-in-Err-Failed g c =
    let words = c.args.words.now in
    let facts = shelf_facts g.K.Shelf.files g.K.Shelf.counts g.K.Shelf.asked g.K.Shelf.since_fault in
    let old = facts c.args.shelf.now in
    let new = facts c.read_alone.new.shelf in
    let is = c.in-Err-Failed.ensures in
    let file = words.file.now in
    let (first, rose, last) = subst (λ (f : ProgramsFault). HasAloneCause old.files words.file.now words.slot START_DEFAULT words.program old.counts new.counts new.since_fault f)
    c.in-Err-Failed.field-0-is is.cause in
    performs_so (audit_task_of words) old new c.end_unread.result ReadFault (reports.ReadFault file) (reports.ReadFault file) c.end_unread.ensures refl is.files
    (λ held told. refl) (λ held. refl)
    (record { name = file; asked = (FILE_BYTES_MOST, (refl, refl)); rises = rose; last = last; names = refl })
    (ends_by_reads old new (answer_of c.end_unread.result) is.counts.same_write_faults
    (programs_end old.counts new.counts new.since_fault c.in-Err-Failed.field-0-is (λ it. it) (λ it. it) is.ends) (λ it. tells c.end_unread.result ReadFault (reports.ReadFault file) c.end_unread.ensures) (λ no. absurd no))
    (programs_grow is.counts) (asks_file _ _ _ _ _ _ is.asked)

pub returns-in-Err-Missing : goal.returns-in-Err-Missing
returns-in-Err-Missing g c =
    let words = c.args.words.now in
    let facts = shelf_facts g.K.Shelf.files g.K.Shelf.counts g.K.Shelf.asked g.K.Shelf.since_fault in
    let old = facts c.args.shelf.now in
    let new = facts c.read_alone.new.shelf in
    let is = c.in-Err-Missing.ensures in
    let file = words.file.now in
    let (first, lacks, rose, last) = subst (λ (f : ProgramsFault). HasAloneCause old.files words.file.now words.slot START_DEFAULT words.program old.counts new.counts new.since_fault f)
    c.in-Err-Missing.field-0-is is.cause in
    performs_so (audit_task_of words) old new c.end_missing.result Missing (reports.Missing file) (reports.Missing file) c.end_missing.ensures refl is.files
    (λ held told. (subst (λ (t : Option Files). Lacks t file) told lacks, refl)) (λ held. refl)
    (record { name = file; asked = ((FILE_BYTES_MOST, (refl, refl)), lacks); rises = rose; last = last; names = refl })
    (ends_by_reads old new (answer_of c.end_missing.result) is.counts.same_write_faults
    (programs_end old.counts new.counts new.since_fault c.in-Err-Missing.field-0-is (λ it. it) (λ it. it) is.ends) (λ no. absurd no) (λ it. tells c.end_missing.result Missing (reports.Missing file) c.end_missing.ensures))
    (programs_grow is.counts) (asks_file _ _ _ _ _ _ is.asked)

pub returns-in-Err-OutOfMemory : goal.returns-in-Err-OutOfMemory
returns-in-Err-OutOfMemory g c =
    let words = c.args.words.now in
    let facts = shelf_facts g.K.Shelf.files g.K.Shelf.counts g.K.Shelf.asked g.K.Shelf.since_fault in
    let old = facts c.args.shelf.now in
    let new = facts c.read_alone.new.shelf in
    let is = c.in-Err-OutOfMemory.ensures in
    wants (audit_task_of words) old new is.files (λ held. refl)
    (ends_by_reads old new None is.counts.same_write_faults
    (programs_end old.counts new.counts new.since_fault c.in-Err-OutOfMemory.field-0-is (λ it. it) (λ it. it) is.ends) (λ no. absurd no) (λ no. absurd no))
    (programs_grow is.counts) (asks_file _ _ _ _ _ _ is.asked)
