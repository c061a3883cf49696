-- What `audit` is called for is one status.
use Rattle.std.proofs.Common.{◌≡◌, ◌≢◌, ℕ, List, Option, Some, None, refl, sym, ap, subst, ◌∙◌}
use Rattle.std.specs.FinMap.{get}
use Rattle.job_programs.specs.Alone.{IsAloneOn, IsAloneRefusedOn}
use Rattle.job_programs.specs.declared.source_fault.SourceFault.{SourceFault}
use Rattle.job_report.specs.declared.limits.TheConstants.{START_DEFAULT}
use Rattle.program_reader.specs.declared.program.Program.{Program}
use Rattle.program_reader.specs.declared.program_fault.ProgramFault.{ProgramFault}
use Rattle.program_reader.specs.declared.program_fault.ProgramFault.TheVariants.{Refused, OutOfMemory}
use Rattle.program_reader.specs.declared.program_fault.SourceKind.{SourceKind}
use Rattle.shelf_io.specs.Files.{Files}
use Rattle.stream_audit.specs.declared.audit_stop.AuditStop.{AuditStop}
use Rattle.stream_audit.specs.declared.audit_stop.AuditStop.TheVariants as stops
use Rattle.stream_audit.specs.declared.finding.Finding.{Finding}
use Rattle.stream_audit.specs.declared.kept_units.KeptUnits.{KeptUnits}
use Rattle.stream_audit.specs.Audit.{IsAudited}
use Rattle.stream_audit.specs.Refusals.{IsAuditStopped}
use Rattle.command_words.specs.declared.status.Status.{Status}
use Rattle.command_words.specs.declared.status.Status.TheVariants.{Ok, Usage, JobRefused, SourceRefused, Unschedulable, ReadFault, WriteFault, CertRefused, Missing, OutOfMemory as NoMemory, AuditFault, NoFit}
use Rattle.command_words.specs.Status.{IsSameStatus}
use Rattle.audit_command.specs.AuditCommand.{AuditCallsFor, IsAuditOf, IsAuditRefused, IsStoppedFor, kept_units, refusal_of}
use Rattle.audit_command.specs.AuditCommand.IsAuditRefused.{unread, stopped}

-- the laws of files whose program is read by itself, and of audits
pub record AuditLaws : Type 0 where
  pub program : (files : Files) (name : List ℕ) (slot start number : ℕ) (content held : List ℕ) (one other : Program) → IsAloneOn (Some files) name slot start number content one
      → IsAloneOn (Some files) name slot start number held other → (content ≡ held) × (one ≡ other)
  pub refused : (files : Files) (name : List ℕ) (slot start number : ℕ) (one other : SourceFault) → IsAloneRefusedOn (Some files) name slot start number one
      → IsAloneRefusedOn (Some files) name slot start number other → one ≡ other
  pub never_both : (files : Files) (name : List ℕ) (slot start number : ℕ) (content : List ℕ) (program : Program) (fault : SourceFault)
      → IsAloneOn (Some files) name slot start number content program → IsAloneRefusedOn (Some files) name slot start number fault → ⊥
  pub found : (file : List ℕ) (program slot : ℕ) (kept : KeptUnits) (one other : Option Finding) → IsAudited file program slot kept one → IsAudited file program slot kept other → one ≡ other
  pub stopped : (file : List ℕ) (program slot : ℕ) (kept : KeptUnits) (one other : AuditStop) → one ≢ stops.OutOfMemory → other ≢ stops.OutOfMemory
      → IsAuditStopped file program slot kept one → IsAuditStopped file program slot kept other → one ≡ other
  pub found_or_stopped : (file : List ℕ) (program slot : ℕ) (kept : KeptUnits) (found : Option Finding) (stop : AuditStop) → IsAudited file program slot kept found
      → IsAuditStopped file program slot kept stop → stop ≢ stops.OutOfMemory → ⊥

-- what stops an audit as a refusal isn't want of memory
no_memory : (stop : AuditStop) (kind : SourceKind) (at : ℕ) → refusal_of stop ≡ Refused kind at → stop ≢ stops.OutOfMemory
no_memory stop kind at is wanted = let both : OutOfMemory ≡ Refused kind at = ap refusal_of (sym wanted) ∙ is in cc

same_fault : (p q : ℕ) (k l : SourceKind) (at to : ℕ) → p ≡ q → Refused k at ≡ Refused l to
    → let one : SourceFault = record { program = p; kind = k; at = at } in let other : SourceFault = record { program = q; kind = l; at = to } in one ≡ other
same_fault p q k l at to programs faults =
    let kinds : k ≡ l = cc in
    let places : at ≡ to = cc in
    cc

module _ (laws : AuditLaws) (file : List ℕ) (number slot : ℕ) (files : Files) where
  one_found : (one other : Option Finding) → IsAuditOf (Some files) file number slot one → IsAuditOf (Some files) file number slot other → one ≡ other
  one_found one other a b =
      let same = laws.program files file slot START_DEFAULT number a.content b.content a.program b.program a.holds b.holds in
      let content = subst (λ (c : List ℕ). IsAudited c number slot (kept_units a.program) one) same.0 a.audited in
      let program = subst (λ (p : Program). IsAudited b.content number slot (kept_units p) one) same.1 content in
      laws.found b.content number slot (kept_units b.program) one other program b.audited

  found_or_refused : (found : Option Finding) (fault : SourceFault) → IsAuditOf (Some files) file number slot found → IsAuditRefused (Some files) file number slot fault → ⊥
  found_or_refused found fault a (unread refused) = laws.never_both files file slot START_DEFAULT number a.content a.program fault a.holds refused
  found_or_refused found fault a (stopped b) =
      let same = laws.program files file slot START_DEFAULT number a.content b.content a.program b.program a.holds b.holds in
      let content = subst (λ (c : List ℕ). IsAudited c number slot (kept_units a.program) found) same.0 a.audited in
      let program = subst (λ (p : Program). IsAudited b.content number slot (kept_units p) found) same.1 content in
      laws.found_or_stopped b.content number slot (kept_units b.program) found b.stop program b.stopped (no_memory b.stop fault.kind fault.at b.refusal)

  one_stop : (one other : SourceFault) → IsStoppedFor (Some files) file number slot one → IsStoppedFor (Some files) file number slot other → one ≡ other
  one_stop one other a b =
      let same = laws.program files file slot START_DEFAULT number a.content b.content a.program b.program a.holds b.holds in
      let content = subst (λ (c : List ℕ). IsAuditStopped c number slot (kept_units a.program) a.stop) same.0 a.stopped in
      let program = subst (λ (p : Program). IsAuditStopped b.content number slot (kept_units p) a.stop) same.1 content in
      let stop : a.stop ≡ b.stop =
      laws.stopped b.content number slot (kept_units b.program) a.stop b.stop (no_memory a.stop one.kind one.at a.refusal) (no_memory b.stop other.kind other.at b.refusal) program b.stopped in
      same_fault one.program other.program one.kind other.kind one.at other.at (a.first ∙ sym b.first) (sym a.refusal ∙ ap refusal_of stop ∙ b.refusal)

  one_refused : (one other : SourceFault) → IsAuditRefused (Some files) file number slot one → IsAuditRefused (Some files) file number slot other → one ≡ other
  one_refused one other (unread a) (unread b) = laws.refused files file slot START_DEFAULT number one other a b
  one_refused one other (unread a) (stopped b) = absurd (laws.never_both files file slot START_DEFAULT number b.content b.program one b.holds a)
  one_refused one other (stopped a) (unread b) = absurd (laws.never_both files file slot START_DEFAULT number a.content a.program other a.holds b)
  one_refused one other (stopped a) (stopped b) = one_stop one other a b

  -- a file that isn't there is neither
  not_found : (found : Option Finding) → IsAuditOf (Some files) file number slot found → get files file ≡ None → ⊥
  not_found found a none = let x = a.holds.held in cc

  not_refused : (fault : SourceFault) → IsAuditRefused (Some files) file number slot fault → get files file ≡ None → ⊥
  not_refused fault (unread a) none = let x = a.held in cc
  not_refused fault (stopped a) none = let x = a.holds.held in cc

  found_or_other : (finding : Finding) → Some finding ≡ None → ⊥
  found_or_other finding is = cc

  pub audit_calls_for_one : (s t : Status) → AuditCallsFor file number slot (Some files) s → AuditCallsFor file number slot (Some files) t → IsSameStatus s t
  audit_calls_for_one Ok Ok a b = refl
  audit_calls_for_one Ok (AuditFault finding) a b = absurd (found_or_other finding (one_found (Some finding) None b a))
  audit_calls_for_one Ok (SourceRefused fault) a b = absurd (found_or_refused None fault a b)
  audit_calls_for_one Ok Missing a b = absurd (not_found None a b)
  audit_calls_for_one (AuditFault finding) Ok a b = absurd (found_or_other finding (one_found (Some finding) None a b))
  audit_calls_for_one (AuditFault finding) (AuditFault other) a b =
      let both : Some finding ≡ Some other = one_found (Some finding) (Some other) a b in
      let same : finding ≡ other = cc in
      ap AuditFault same
  audit_calls_for_one (AuditFault finding) (SourceRefused fault) a b = absurd (found_or_refused (Some finding) fault a b)
  audit_calls_for_one (AuditFault finding) Missing a b = absurd (not_found (Some finding) a b)
  audit_calls_for_one (SourceRefused fault) Ok a b = absurd (found_or_refused None fault b a)
  audit_calls_for_one (SourceRefused fault) (AuditFault finding) a b = absurd (found_or_refused (Some finding) fault b a)
  audit_calls_for_one (SourceRefused fault) (SourceRefused other) a b = ap SourceRefused (one_refused fault other a b)
  audit_calls_for_one (SourceRefused fault) Missing a b = absurd (not_refused fault a b)
  audit_calls_for_one Missing Ok a b = absurd (not_found None b a)
  audit_calls_for_one Missing (AuditFault finding) a b = absurd (not_found (Some finding) b a)
  audit_calls_for_one Missing (SourceRefused fault) a b = absurd (not_refused fault b a)
  audit_calls_for_one Missing Missing a b = refl
  audit_calls_for_one Usage t a b = absurd a
  audit_calls_for_one (JobRefused refusal) t a b = absurd a
  audit_calls_for_one (Unschedulable miss) t a b = absurd a
  audit_calls_for_one ReadFault t a b = absurd a
  audit_calls_for_one WriteFault t a b = absurd a
  audit_calls_for_one (CertRefused refusal) t a b = absurd a
  audit_calls_for_one NoMemory t a b = absurd a
  audit_calls_for_one NoFit t a b = absurd a
  audit_calls_for_one s Usage a b = absurd b
  audit_calls_for_one s (JobRefused refusal) a b = absurd b
  audit_calls_for_one s (Unschedulable miss) a b = absurd b
  audit_calls_for_one s ReadFault a b = absurd b
  audit_calls_for_one s WriteFault a b = absurd b
  audit_calls_for_one s (CertRefused refusal) a b = absurd b
  audit_calls_for_one s NoMemory a b = absurd b
  audit_calls_for_one s NoFit a b = absurd b
