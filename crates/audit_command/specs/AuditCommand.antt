-- What `audit FILE PROGRAM SLOT` does.
use Rattle.std.specs.Prelude.{◌≡◌, ◌-◌, ℕ, List, map, Option, Some, None}
use Rattle.job_programs.specs.Alone.{IsAloneOn, IsAloneRefusedOn}
use Rattle.job_programs.specs.declared.source_fault.SourceFault.{SourceFault}
use Rattle.job_report.specs.declared.limits.TheConstants.{START_DEFAULT}
use Rattle.job_report.specs.declared.report.Report.TheVariants as reports
use Rattle.job_report.specs.Report.{report_line}
use Rattle.program_reader.specs.declared.limits.TheConstants.{FILE_BYTES_MOST}
use Rattle.program_reader.specs.declared.program.Program.{Program}
use Rattle.program_reader.specs.declared.program_fault.ProgramFault.{ProgramFault}
use Rattle.program_reader.specs.declared.program_fault.ProgramFault.TheVariants.{Refused, OutOfMemory}
use Rattle.program_reader.specs.declared.program_fault.SourceKind.TheVariants as kinds
use Rattle.program_reader.specs.Faults.{of_audio, of_demux, of_pes}
use Rattle.shelf_io.specs.Files.{Files, Lacks}
use Rattle.stream_audit.specs.declared.audit_stop.AuditStop.{AuditStop}
use Rattle.stream_audit.specs.declared.audit_stop.AuditStop.TheVariants as stops
use Rattle.stream_audit.specs.declared.finding.Finding.{Finding}
use Rattle.stream_audit.specs.declared.kept_units.KeptUnits.{KeptUnits}
use Rattle.stream_audit.specs.Audit.{IsAudited}
use Rattle.stream_audit.specs.Refusals.{IsAuditStopped}
use Rattle.command_words.specs.declared.command.AuditWords.{AuditWords}
use Rattle.command_words.specs.declared.status.Status.{Status}
use Rattle.command_words.specs.declared.status.Status.TheVariants.{Ok, SourceRefused, AuditFault, Missing}
use Rattle.command_words.specs.Task.{Task}

-- ---- what is audited

-- the units of a program as an audit takes them: when each is due, and how many bytes it has
abbrev pub kept_units : Program → KeptUnits
kept_units program = record {
  base = program.base;
  vbv = program.vbv;
  units = map (λ unit. record { due = unit.due; bytes = unit.end - unit.begin }) program.units;
}

-- FILE holds this content and this program of a number, read by itself for a stream of such slots, with the start of a job that says nothing
abbrev pub HoldsAudited : Option Files → (file : List ℕ) → (number slot : ℕ) → (content : List ℕ) → Program → Type 0
HoldsAudited told file number slot content program = IsAloneOn told file slot START_DEFAULT number content program

-- FILE holds such a program, in whose audit this is found first, or nothing.
pub record IsAuditOf (told : Option Files) (file : List ℕ) (number slot : ℕ) (found : Option Finding) : Type 0 where
  pub content : List ℕ
  pub program : Program
  pub holds : HoldsAudited told file number slot content program
  pub audited : IsAudited content number slot (kept_units program) found

-- ---- what is refused

-- what stops an audit, as a refusal of its program
abbrev pub refusal_of : AuditStop → ProgramFault
refusal_of (stops.Demux fault) = of_demux fault
refusal_of (stops.Pes at fault) = of_pes at fault
refusal_of stops.NoSequence = Refused kinds.NoSequence 0
refusal_of (stops.Audio pid fault) = of_audio fault
refusal_of stops.NoPcr = Refused kinds.NoPcr 0
refusal_of stops.ProgramLimit = Refused kinds.ProgramLimit 0
refusal_of stops.OutOfMemory = OutOfMemory

-- FILE holds such a program, whose audit is stopped for this.
pub record IsStoppedFor (told : Option Files) (file : List ℕ) (number slot : ℕ) (fault : SourceFault) : Type 0 where
  pub first : fault.program ≡ 0
  pub content : List ℕ
  pub program : Program
  pub holds : HoldsAudited told file number slot content program
  pub stop : AuditStop
  pub stopped : IsAuditStopped content number slot (kept_units program) stop
  pub refusal : refusal_of stop ≡ Refused fault.kind fault.at

-- What refuses FILE: that it isn't read, else what stops the audit of its program.
pub data IsAuditRefused (told : Option Files) (file : List ℕ) (number slot : ℕ) (fault : SourceFault) : Type 0 where
  unread : IsAloneRefusedOn told file slot START_DEFAULT number fault → IsAuditRefused told file number slot fault
  stopped : IsStoppedFor told file number slot fault → IsAuditRefused told file number slot fault

-- ---- what is done

-- what FILE holds calls for this status: nothing is found in the audit of its program, or this is first; or the file is refused, or isn't there
abbrev pub AuditCallsFor : (file : List ℕ) → (number slot : ℕ) → Option Files → Status → Type 0
AuditCallsFor file number slot told Ok = IsAuditOf told file number slot None
AuditCallsFor file number slot told (AuditFault finding) = IsAuditOf told file number slot (Some finding)
AuditCallsFor file number slot told (SourceRefused fault) = IsAuditRefused told file number slot fault
AuditCallsFor file number slot told Missing = Lacks told file
AuditCallsFor file number slot told status = ⊥

-- `audit` may refuse the program, and the stream
abbrev pub AuditMayRefuse : Status → Type 0
AuditMayRefuse (SourceRefused fault) = Unit {0}
AuditMayRefuse (AuditFault finding) = Unit {0}
AuditMayRefuse status = ⊥

-- the line says that nothing is found in the audit of FILE's program
abbrev pub TellsAudit : (file : List ℕ) → (number slot : ℕ) → Option Files → (line : List ℕ) → Type 0
TellsAudit file number slot told line = IsAuditOf told file number slot None × (line ≡ report_line reports.AuditClean)

-- it says so, and every file stays
abbrev pub AuditDone : (file : List ℕ) → (number slot : ℕ) → Files → (line : List ℕ) → (after : Files) → Type 0
AuditDone file number slot files line after = TellsAudit file number slot (Some files) line × (after ≡ files)

-- what `audit` has to do: it reads FILE, up to one byte past the limit of files, and changes no file
abbrev pub audit_task : (file : List ℕ) → (number slot : ℕ) → Task
audit_task file number slot = record {
  calls_for = AuditCallsFor file number slot;
  may_refuse = AuditMayRefuse;
  tells_work = TellsAudit file number slot;
  fits_none = λ told slots. ⊥;
  is_done = AuditDone file number slot;
  leaves = λ files after. after ≡ files;
  reads = λ told name limit. (name ≡ file) × (limit ≡ FILE_BYTES_MOST);
  writes = λ name. ⊥;
}

-- that of the words that were read
abbrev pub audit_task_of : AuditWords → Task
audit_task_of words = audit_task words.file.now words.program words.slot
