-- How the audit of a file's program ends the command.
use Rattle.std.proofs.Common.{◌≡◌, ◌+◌, ℕ, List, Option, Some, None, IfSome, refl, sym, subst}
use Rattle.job_programs.specs.Alone.{IsAlone, IsAloneOn}
use Rattle.job_programs.specs.declared.source_fault.SourceFault.{SourceFault}
use Rattle.job_report.specs.declared.limits.TheConstants.{START_DEFAULT}
use Rattle.job_report.specs.declared.report.Report.TheVariants as reports
use Rattle.program_reader.specs.declared.limits.TheConstants.{FILE_BYTES_MOST}
use Rattle.program_reader.specs.declared.program.Program.{Program}
use Rattle.program_reader.specs.declared.program_fault.ProgramFault.TheVariants.{Refused}
use Rattle.run_report.specs.Report.{finding_report, source_report}
use Rattle.shelf_io.specs.Asked.{AsksUpTo}
use Rattle.shelf_io.specs.Files.{Files}
use Rattle.stream_audit.specs.declared.audit_stop.AuditStop.{AuditStop}
use Rattle.stream_audit.specs.declared.finding.Finding.{Finding}
use Rattle.stream_audit.specs.Audit.{IsAudited}
use Rattle.stream_audit.specs.Refusals.{IsAuditStopped}
use Rattle.command_words.specs.declared.ended.Ended.{Ended}
use Rattle.command_words.specs.declared.status.Status.TheVariants.{Ok, SourceRefused, AuditFault}
use Rattle.command_words.specs.Ended.{EndsBy, Performs, answer_of}
use Rattle.shelf_io.specs.Facts.{ShelfFacts}
use Rattle.command_words.specs.Task.{AsksOnly}
use Rattle.command_words.proofs.Counted.{asks_one}
use Rattle.command_words.proofs.Performed.{performs_uncalled, wants_uncalled}
use Rattle.audit_command.specs.AuditCommand.{HoldsAudited, IsAuditOf, IsAuditRefused, IsStoppedFor, audit_task, kept_units, refusal_of}
use Rattle.audit_command.specs.Private.Audited.{EndsByAudit, EndsByFinding, EndsByStop, clean, found, stopped}

-- what a shelf holds, its told files hold
on_held : (told : Option Files) (file : List ℕ) (number slot : ℕ) (content : List ℕ) (program : Program) (held : Files) → told ≡ Some held
    → HoldsAudited told file number slot content program → HoldsAudited (Some held) file number slot content program
on_held told file number slot content program held is holds = subst (λ (t : Option Files). HoldsAudited t file number slot content program) is holds

-- nothing is found
clean_ends : (file : List ℕ) (number slot : ℕ) (facts : ShelfFacts) (content : List ℕ) (program : Program) (ended : Ended) → HoldsAudited facts.files file number slot content program
    → IsAudited content number slot (kept_units program) None → EndsBy Ok reports.AuditClean ended → Performs (audit_task file number slot) facts facts (answer_of (Some ended))
clean_ends file number slot facts content program ended holds audited ends =
    performs_uncalled (audit_task file number slot) facts (Some ended) Ok reports.AuditClean reports.AuditClean ends refl
    (λ held told. (
      (record { content = content; program = program; holds = on_held facts.files file number slot content program held told holds; audited = audited }, refl),
      refl,
    )) (λ held. refl)
    (record { content = content; program = program; holds = holds; audited = audited }, refl)

-- this is found first
found_ends : (file : List ℕ) (number slot : ℕ) (facts : ShelfFacts) (content : List ℕ) (program : Program) (ended : Ended) (finding : Finding)
    → HoldsAudited facts.files file number slot content program → IsAudited content number slot (kept_units program) (Some finding)
    → EndsBy (AuditFault finding) (finding_report finding) ended → Performs (audit_task file number slot) facts facts (answer_of (Some ended))
found_ends file number slot facts content program ended finding holds audited ends =
    performs_uncalled (audit_task file number slot) facts (Some ended) (AuditFault finding) (finding_report finding) (finding_report finding) ends refl
    (λ held told. (
      record { content = content; program = program; holds = on_held facts.files file number slot content program held told holds; audited = audited },
      refl,
    )) (λ held. refl)
    (record { may = tt; says = refl; called = record { content = content; program = program; holds = holds; audited = audited } })

-- the audit is stopped
refused_for : (told : Option Files) (file : List ℕ) (number slot : ℕ) (content : List ℕ) (program : Program) (stop : AuditStop) (fault : SourceFault)
    → HoldsAudited told file number slot content program → IsAuditStopped content number slot (kept_units program) stop → fault.program ≡ 0
    → refusal_of stop ≡ Refused fault.kind fault.at → IsAuditRefused told file number slot fault
refused_for told file number slot content program stop fault holds is first says =
    IsAuditRefused.stopped (record { first = first; content = content; program = program; holds = holds; stop = stop; stopped = is; refusal = says })

stopped_ends : (file : List ℕ) (number slot : ℕ) (facts : ShelfFacts) (content : List ℕ) (program : Program) (ended : Ended) (stop : AuditStop) (fault : SourceFault)
    → HoldsAudited facts.files file number slot content program → IsAuditStopped content number slot (kept_units program) stop → fault.program ≡ 0
    → refusal_of stop ≡ Refused fault.kind fault.at → EndsBy (SourceRefused fault) (source_report fault) ended
    → Performs (audit_task file number slot) facts facts (answer_of (Some ended))
stopped_ends file number slot facts content program ended stop fault holds is first says ends =
    performs_uncalled (audit_task file number slot) facts (Some ended) (SourceRefused fault) (source_report fault) (source_report fault) ends refl
    (λ held told. (
      refused_for (Some held) file number slot content program stop fault (on_held facts.files file number slot content program held told holds) is first says,
      refl,
    )) (λ held. refl)
    (record { may = tt; says = refl; called = refused_for facts.files file number slot content program stop fault holds is first says })

-- the audit of the program that FILE holds ends the command
pub audit_ends : (file : List ℕ) (number slot : ℕ) (facts : ShelfFacts) (content : List ℕ) (program : Program) (result : Option Ended)
    → HoldsAudited facts.files file number slot content program → IfSome result (EndsByAudit slot number content program)
    → Performs (audit_task file number slot) facts facts (answer_of result)
audit_ends file number slot facts content program None holds so = wants_uncalled (audit_task file number slot) facts (λ held. refl)
audit_ends file number slot facts content program (Some ended) holds (clean audited ends) = clean_ends file number slot facts content program ended holds audited ends
audit_ends file number slot facts content program (Some ended) holds (found finding audited ends) =
    found_ends file number slot facts content program ended finding holds audited ends
audit_ends file number slot facts content program (Some ended) holds (stopped stop is (fault, first, says, ends)) =
    stopped_ends file number slot facts content program ended stop fault holds is first says ends

-- ---- by what the audit answers

pub found_so : (slot number : ℕ) (content : List ℕ) (program : Program) (finding : Finding) (result : Option Ended) → IsAudited content number slot (kept_units program) (Some finding)
    → IfSome result (EndsByFinding finding) → IfSome result (EndsByAudit slot number content program)
found_so slot number content program finding None audited so = tt
found_so slot number content program finding (Some ended) audited so = found finding audited so

pub stopped_so : (slot number : ℕ) (content : List ℕ) (program : Program) (stop : AuditStop) (result : Option Ended) → IsAuditStopped content number slot (kept_units program) stop
    → IfSome result (EndsByStop stop) → IfSome result (EndsByAudit slot number content program)
stopped_so slot number content program stop None is so = tt
stopped_so slot number content program stop (Some ended) is so = stopped stop is so

-- `audit` asks for FILE alone
pub asks_file : (file : List ℕ) (number slot : ℕ) (told : Option Files) (old new : List ℕ → ℕ) → AsksUpTo file (FILE_BYTES_MOST + 1) old new
    → AsksOnly (audit_task file number slot) told old new
asks_file file number slot told old new asks = asks_one (audit_task file number slot) told file FILE_BYTES_MOST old new (refl, refl) (λ name limit is. is) asks
