-- What `probe` is called for is one status.
use Rattle.std.proofs.Common.{◌≡◌, ℕ, List, [], Option, None, Some, refl, ap}
use Rattle.std.specs.FinMap.{get}
use Rattle.std.specs.Option.{IsSomeAnd}
use Rattle.job_programs.specs.declared.source_fault.SourceFault.{SourceFault}
use Rattle.job_programs.specs.Probe.{IsProbed, IsProbeRefused}
use Rattle.job_programs.specs.Told.{IsProbedOn, IsProbeRefusedOn}
use Rattle.job_report.specs.declared.limits.TheConstants.{PROBE_SLOT, START_DEFAULT}
use Rattle.program_reader.specs.declared.program.Program.{Program}
use Rattle.shelf_io.specs.Files.{Files}
use Rattle.command_words.specs.declared.status.Status.{Status}
use Rattle.command_words.specs.declared.status.Status.TheVariants.{Ok, Usage, JobRefused, SourceRefused, Unschedulable, ReadFault, WriteFault, CertRefused, Missing, OutOfMemory, AuditFault, NoFit}
use Rattle.command_words.specs.Status.{IsSameStatus}
use Rattle.probe_command.specs.ProbeCommand.{ProbeCallsFor}

-- the laws of files that are probed: one has one program, or one refusal
pub record ProbeLaws : Type 0 where
  pub refused : (files : Files) (name : List ℕ) (slot start number : ℕ) (drop : List ℕ) (one other : SourceFault) → IsProbeRefusedOn (Some files) name slot start number drop one
      → IsProbeRefusedOn (Some files) name slot start number drop other → one ≡ other
  pub never_both : (files : Files) (name : List ℕ) (slot start number : ℕ) (drop : List ℕ) (program : Program) (fault : SourceFault)
      → IsProbedOn (Some files) name slot start number drop program → IsProbeRefusedOn (Some files) name slot start number drop fault → ⊥

-- of a file that isn't held nothing holds
held_nowhere : (made : Option (List ℕ)) (P : List ℕ → Type 0) → IsSomeAnd made P → made ≡ None → ⊥
held_nowhere None P holds none = holds
held_nowhere (Some content) P holds none = cc

-- what `probe` is called for is one
pub probe_calls_for_one : ProbeLaws → (file : List ℕ) (number : ℕ) (files : Files) (s t : Status) → ProbeCallsFor file number (Some files) s → ProbeCallsFor file number (Some files) t → IsSameStatus s t
probe_calls_for_one laws file number files Ok Ok a b = refl
probe_calls_for_one laws file number files Ok (SourceRefused fault) a b = absurd (laws.never_both files file PROBE_SLOT START_DEFAULT number [] a.0 fault a.1 b)
probe_calls_for_one laws file number files Ok Missing a b = absurd (held_nowhere (get files file) (λ content. IsProbed PROBE_SLOT START_DEFAULT number [] content a.0) a.1.held b)
probe_calls_for_one laws file number files (SourceRefused fault) Ok a b = absurd (laws.never_both files file PROBE_SLOT START_DEFAULT number [] b.0 fault b.1 a)
probe_calls_for_one laws file number files (SourceRefused fault) (SourceRefused other) a b =
    ap SourceRefused (laws.refused files file PROBE_SLOT START_DEFAULT number [] fault other a b)
probe_calls_for_one laws file number files (SourceRefused fault) Missing a b = absurd (held_nowhere (get files file) (λ content. IsProbeRefused PROBE_SLOT START_DEFAULT number [] content fault.kind fault.at) a.held b)
probe_calls_for_one laws file number files Missing Ok a b = absurd (held_nowhere (get files file) (λ content. IsProbed PROBE_SLOT START_DEFAULT number [] content b.0) b.1.held a)
probe_calls_for_one laws file number files Missing (SourceRefused fault) a b = absurd (held_nowhere (get files file) (λ content. IsProbeRefused PROBE_SLOT START_DEFAULT number [] content fault.kind fault.at) b.held a)
probe_calls_for_one laws file number files Missing Missing a b = refl
probe_calls_for_one laws file number files Usage t a b = absurd a
probe_calls_for_one laws file number files (JobRefused refusal) t a b = absurd a
probe_calls_for_one laws file number files (Unschedulable miss) t a b = absurd a
probe_calls_for_one laws file number files ReadFault t a b = absurd a
probe_calls_for_one laws file number files WriteFault t a b = absurd a
probe_calls_for_one laws file number files (CertRefused refusal) t a b = absurd a
probe_calls_for_one laws file number files OutOfMemory t a b = absurd a
probe_calls_for_one laws file number files (AuditFault finding) t a b = absurd a
probe_calls_for_one laws file number files NoFit t a b = absurd a
probe_calls_for_one laws file number files s Usage a b = absurd b
probe_calls_for_one laws file number files s (JobRefused refusal) a b = absurd b
probe_calls_for_one laws file number files s (Unschedulable miss) a b = absurd b
probe_calls_for_one laws file number files s ReadFault a b = absurd b
probe_calls_for_one laws file number files s WriteFault a b = absurd b
probe_calls_for_one laws file number files s (CertRefused refusal) a b = absurd b
probe_calls_for_one laws file number files s OutOfMemory a b = absurd b
probe_calls_for_one laws file number files s (AuditFault finding) a b = absurd b
probe_calls_for_one laws file number files s NoFit a b = absurd b
