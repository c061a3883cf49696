-- How the audit of a program ends the command.
use Rattle.std.specs.Prelude.{◌≡◌, ℕ, List, Some, None}
use Rattle.job_programs.specs.declared.source_fault.SourceFault.{SourceFault}
use Rattle.job_report.specs.declared.report.Report.TheVariants as reports
use Rattle.program_reader.specs.declared.program.Program.{Program}
use Rattle.program_reader.specs.declared.program_fault.ProgramFault.TheVariants.{Refused}
use Rattle.run_report.specs.Report.{finding_report, source_report}
use Rattle.stream_audit.specs.declared.audit_stop.AuditStop.{AuditStop}
use Rattle.stream_audit.specs.declared.finding.Finding.{Finding}
use Rattle.stream_audit.specs.Audit.{IsAudited}
use Rattle.stream_audit.specs.Refusals.{IsAuditStopped}
use Rattle.command_words.specs.declared.ended.Ended.{Ended}
use Rattle.command_words.specs.declared.status.Status.TheVariants.{Ok, SourceRefused, AuditFault}
use Rattle.command_words.specs.Ended.{EndsBy}
use Rattle.audit_command.specs.AuditCommand.{kept_units, refusal_of}

-- a command ends by a finding
abbrev pub EndsByFinding : Finding → Ended → Type 0
EndsByFinding finding ended = EndsBy (AuditFault finding) (finding_report finding) ended

-- a command ends by what stops an audit, as a refusal of the first program
abbrev pub EndsByStop : AuditStop → Ended → Type 0
EndsByStop stop ended =
    (fault : SourceFault) × (fault.program ≡ 0) × (refusal_of stop ≡ Refused fault.kind fault.at) × EndsBy (SourceRefused fault) (source_report fault) ended

-- a command ends by the audit of this program of a content: by nothing, by what is found first, or by what stops it
pub data EndsByAudit (slot number : ℕ) (content : List ℕ) (program : Program) (ended : Ended) : Type 0 where
  clean : IsAudited content number slot (kept_units program) None → EndsBy Ok reports.AuditClean ended → EndsByAudit slot number content program ended
  found : (finding : Finding) → IsAudited content number slot (kept_units program) (Some finding) → EndsByFinding finding ended
      → EndsByAudit slot number content program ended
  stopped : (stop : AuditStop) → IsAuditStopped content number slot (kept_units program) stop → EndsByStop stop ended
      → EndsByAudit slot number content program ended
