-- A file whose program passes an audit calls for no status but that nothing is found, or a transport buffer that isn't empty for a second.
use Rattle.std.proofs.Common.{◌≡◌, ℕ, List, Some, None, sym, ap, subst, ◌∙◌}
use Rattle.std.specs.FinMap.{get}
use Rattle.shelf_io.specs.Files.{Files}
use Rattle.job_programs.specs.Alone.{IsAloneOn, IsAloneRefusedOn}
use Rattle.job_programs.specs.declared.source_fault.SourceFault.{SourceFault}
use Rattle.program_reader.specs.declared.program.Program.{Program}
use Rattle.program_reader.specs.declared.program_fault.ProgramFault.TheVariants.{Refused, OutOfMemory}
use Rattle.stream_audit.specs.Audit.{IsAudited}
use Rattle.stream_audit.specs.Refusals.{IsAuditStopped}
use Rattle.command_words.specs.declared.status.Status.{Status}
use Rattle.command_words.specs.declared.status.Status.TheVariants.{Ok, Usage, JobRefused, SourceRefused, Unschedulable, ReadFault, WriteFault, CertRefused, Missing, OutOfMemory as NoMemory, AuditFault, NoFit}
use Rattle.audit_command.specs.AuditCommand.{AuditCallsFor, kept_units, refusal_of}
use Rattle.audit_command.specs.AuditCommand.IsAuditRefused.{unread, stopped}
use Rattle.alone_laws.specs.PassesAudit.{IsPassed, PassesAudit}

-- the laws of files whose program is read by itself
pub record LoneLaws : Type 0 where
  pub program : (files : Files) (name : List ℕ) (slot start number : ℕ) (content held : List ℕ) (one other : Program) → IsAloneOn (Some files) name slot start number content one
      → IsAloneOn (Some files) name slot start number held other → (content ≡ held) × (one ≡ other)
  pub never_both : (files : Files) (name : List ℕ) (slot start number : ℕ) (content : List ℕ) (program : Program) (fault : SourceFault)
      → IsAloneOn (Some files) name slot start number content program → IsAloneRefusedOn (Some files) name slot start number fault → ⊥

module _ (laws : LoneLaws) (stream : List ℕ) (slot number : ℕ) (passes : PassesAudit stream slot number) (files : Files) (name : List ℕ) (holds : get files name ≡ Some stream) where
  mine : IsAloneOn (Some files) name slot 13500000 number stream passes.program
  mine = record { held = holds; alone = passes.alone }

  pub passed : (status : Status) → AuditCallsFor name number slot (Some files) status → IsPassed status
  passed Ok called = tt
  passed (AuditFault finding) called =
      let same = laws.program files name slot 13500000 number called.content stream called.program passes.program called.holds mine in
      passes.found (Some finding)
      (subst (λ (p : Program). IsAudited stream number slot (kept_units p) (Some finding)) same.1
      (subst (λ (c : List ℕ). IsAudited c number slot (kept_units called.program) (Some finding)) same.0 called.audited))
  passed (SourceRefused fault) (unread refused) = laws.never_both files name slot 13500000 number stream passes.program fault mine refused
  passed (SourceRefused fault) (stopped called) =
      let same = laws.program files name slot 13500000 number called.content stream called.program passes.program called.holds mine in
      let wanted = passes.not_stopped called.stop
      (subst (λ (p : Program). IsAuditStopped stream number slot (kept_units p) called.stop) same.1
      (subst (λ (c : List ℕ). IsAuditStopped c number slot (kept_units called.program) called.stop) same.0 called.stopped)) in
      let both : OutOfMemory ≡ Refused fault.kind fault.at = sym (ap refusal_of wanted) ∙ called.refusal in
      absurd cc
  passed Missing lacks = let both : None ≡ Some stream = sym lacks ∙ holds in absurd cc
  passed Usage called = absurd called
  passed (JobRefused refusal) called = absurd called
  passed (Unschedulable miss) called = absurd called
  passed ReadFault called = absurd called
  passed WriteFault called = absurd called
  passed (CertRefused refusal) called = absurd called
  passed NoMemory called = absurd called
  passed NoFit called = absurd called
