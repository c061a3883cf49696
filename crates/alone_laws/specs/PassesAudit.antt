-- What the command `audit` makes of a program of a file that it reads by itself (ISO/IEC 13818-1, 2.4.2).
use Rattle.std.specs.Prelude.{◌≡◌, ℕ, List, Option}
use Rattle.job_report.specs.declared.limits.TheConstants.{START_DEFAULT}
use Rattle.program_reader.specs.declared.program.Program.{Program}
use Rattle.job_programs.specs.Alone.{IsAlone}
use Rattle.stream_audit.specs.declared.audit_stop.AuditStop.{AuditStop}
use Rattle.stream_audit.specs.declared.audit_stop.AuditStop.TheVariants.{OutOfMemory}
use Rattle.stream_audit.specs.declared.finding.FaultName.TheVariants.{Full}
use Rattle.stream_audit.specs.declared.finding.Finding.{Finding}
use Rattle.stream_audit.specs.Audit.{IsAudited}
use Rattle.stream_audit.specs.Refusals.{IsAuditStopped}
use Rattle.command_words.specs.declared.status.Status.{Status}
use Rattle.command_words.specs.declared.status.Status.TheVariants.{Ok, AuditFault}
use Rattle.audit_command.specs.AuditCommand.{kept_units}
use Rattle.audit_laws.specs.Found.{IsFullAtMost}

-- A file holds a program of this number, as `audit` reads it by itself: nothing refuses it, and none of its times is past the last one of slots of this length. In
-- the audit of its units nothing is found but a transport buffer that isn't empty for a second, and nothing stops it but want of memory.
pub record PassesAudit (file : List ℕ) (slot number : ℕ) : Type 0 where
  pub program : Program
  pub alone : IsAlone slot START_DEFAULT number file program
  pub found : (found : Option Finding) → IsAudited file number slot (kept_units program) found → IsFullAtMost found
  pub not_stopped : (stop : AuditStop) → IsAuditStopped file number slot (kept_units program) stop → stop ≡ OutOfMemory

-- the status says that nothing is found, or a transport buffer that isn't empty for a second
abbrev pub IsPassed : Status → Type 0
IsPassed Ok = Unit {0}
IsPassed (AuditFault finding) = finding.fault ≡ Full
IsPassed status = ⊥
