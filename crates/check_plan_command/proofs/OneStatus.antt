-- What TABLE and CERT hold calls for one status.
use Rattle.std.proofs.Common.{◌≡◌, ℕ, List, Some, refl, sym, ap, subst, ◌∙◌, inl, inr}
use Rattle.std.proofs.lemmas.Option.{none-some}
use Rattle.std.specs.FinMap.{get}
use Rattle.bound_certificate.specs.declared.cert.Cert.{Cert}
use Rattle.certificate_checker.specs.Checked.{IsFirstFault}
use Rattle.certificate_checker.specs.declared.why.CertFault.{CertFault}
use Rattle.shelf_io.specs.Files.{Files}
use Rattle.version_table.specs.declared.table.Table.{Table}
use Rattle.command_words.specs.declared.status.JobRefusal.{JobRefusal}
use Rattle.command_words.specs.declared.status.Status.{Status}
use Rattle.command_words.specs.declared.status.Status.TheVariants as statuses
use Rattle.command_words.specs.declared.status.CertRefusal.TheVariants.{Syntax, Fault}
use Rattle.command_words.specs.Status.{IsSameStatus}
use Rattle.plan_command.specs.PlanCommand.{HoldsTable, IsTableRefused}
use Rattle.plan_command.proofs.OneStatus.{OneReading, one_refusal, one_table, table_or_refusal}
use Rattle.check_command.specs.CheckCommand.{HoldsCert}
use Rattle.check_command.proofs.OneStatus.{CertLaws, cert_or_refused, one_byte, one_cert}
use Rattle.check_plan_command.specs.CheckPlanCommand.{CheckPlanCallsFor}

-- TABLE holds a table, and CERT is there
there_or_missing : (table certificate : List ℕ) (files : Files) (made : Table) (bytes : List ℕ) → HoldsTable (Some files) table made
    → get files certificate ≡ Some bytes → CheckPlanCallsFor table certificate (Some files) statuses.Missing → ⊥
there_or_missing table certificate files made bytes holds held (inl lacks) = none-some holds.text (sym lacks ∙ holds.held)
there_or_missing table certificate files made bytes holds held (inr (other, has, lacks)) = none-some bytes (sym lacks ∙ held)

-- a text that is refused is there, and is no table's
refused_or_missing : OneReading → (table certificate : List ℕ) (files : Files) (refusal : JobRefusal)
    → (text : List ℕ) × (get files table ≡ Some text) × IsTableRefused text refusal → CheckPlanCallsFor table certificate (Some files) statuses.Missing → ⊥
refused_or_missing reading table certificate files refusal (text, held, refused) (inl lacks) = none-some text (sym lacks ∙ held)
refused_or_missing reading table certificate files refusal refused (inr (made, has, lacks)) = table_or_refusal reading files table made refusal has refused

-- TABLE and CERT hold one table and one certificate
moved_fault : OneReading → CertLaws → (table certificate : List ℕ) (files : Files) (made other : Table) (cert second : Cert) (fault : CertFault)
    → HoldsTable (Some files) table made → HoldsTable (Some files) table other → HoldsCert (Some files) certificate cert
    → HoldsCert (Some files) certificate second → IsFirstFault other second fault → IsFirstFault made cert fault
moved_fault reading certs table certificate files made other cert second fault a b x y first =
    let tables : other ≡ made = one_table reading files table other made b a in
    let same : second ≡ cert = one_cert certs files certificate second cert y x in
    subst (λ (c : Cert). IsFirstFault made c fault) same (subst (λ (t : Table). IsFirstFault t second fault) tables first)

-- a certificate without fault has no first fault
accepted_or_faulty : OneReading → CertLaws → (table certificate : List ℕ) (files : Files) (fault : CertFault) → CheckPlanCallsFor table certificate (Some files) statuses.Ok
    → CheckPlanCallsFor table certificate (Some files) (statuses.CertRefused (Fault fault)) → ⊥
accepted_or_faulty reading certs table certificate files fault (made, cert, is, holds, faultless) (other, second, has, held, first) =
    certs.faultless made cert fault faultless (moved_fault reading certs table certificate files made other cert second fault is has holds held first)

-- a certificate has one first fault
one_fault : OneReading → CertLaws → (table certificate : List ℕ) (files : Files) (a b : CertFault) → CheckPlanCallsFor table certificate (Some files) (statuses.CertRefused (Fault a))
    → CheckPlanCallsFor table certificate (Some files) (statuses.CertRefused (Fault b)) → a ≡ b
one_fault reading certs table certificate files a b (made, cert, is, holds, first) (other, second, has, held, last) =
    certs.fault made cert a b first (moved_fault reading certs table certificate files made other cert second b is has holds held last)

-- what `check-plan` is called for is one
pub check_plan_calls_for_one : OneReading → CertLaws → (table certificate : List ℕ) (files : Files) (s t : Status) → CheckPlanCallsFor table certificate (Some files) s
    → CheckPlanCallsFor table certificate (Some files) t → IsSameStatus s t
check_plan_calls_for_one reading certs table certificate files statuses.Ok statuses.Ok a b = refl
check_plan_calls_for_one reading certs table certificate files statuses.Ok (statuses.JobRefused refusal) a b = absurd (table_or_refusal reading files table a.0 refusal a.2 b)
check_plan_calls_for_one reading certs table certificate files statuses.Ok (statuses.CertRefused (Syntax n)) a b =
    absurd (cert_or_refused certs files certificate b.1 a.1 n a.3 b.3 b.4)
check_plan_calls_for_one reading certs table certificate files statuses.Ok (statuses.CertRefused (Fault fault)) a b =
    absurd (accepted_or_faulty reading certs table certificate files fault a b)
check_plan_calls_for_one reading certs table certificate files statuses.Ok statuses.Missing a b =
    absurd (there_or_missing table certificate files a.0 a.3.bytes a.2 a.3.held b)
check_plan_calls_for_one reading certs table certificate files (statuses.JobRefused refusal) statuses.Ok a b = absurd (table_or_refusal reading files table b.0 refusal b.2 a)
check_plan_calls_for_one reading certs table certificate files (statuses.JobRefused refusal) (statuses.JobRefused other) (text, held, refused) (same, holds, is) =
    let texts : same ≡ text = cc in
    one_refusal reading text refusal other refused (subst (λ (x : List ℕ). IsTableRefused x other) texts is)
check_plan_calls_for_one reading certs table certificate files (statuses.JobRefused refusal) (statuses.CertRefused (Syntax n)) a b =
    absurd (table_or_refusal reading files table b.0 refusal b.2 a)
check_plan_calls_for_one reading certs table certificate files (statuses.JobRefused refusal) (statuses.CertRefused (Fault fault)) a b =
    absurd (table_or_refusal reading files table b.0 refusal b.2 a)
check_plan_calls_for_one reading certs table certificate files (statuses.JobRefused refusal) statuses.Missing a b =
    absurd (refused_or_missing reading table certificate files refusal a b)
check_plan_calls_for_one reading certs table certificate files (statuses.CertRefused (Syntax n)) statuses.Ok a b =
    absurd (cert_or_refused certs files certificate a.1 b.1 n b.3 a.3 a.4)
check_plan_calls_for_one reading certs table certificate files (statuses.CertRefused (Syntax n)) (statuses.JobRefused refusal) a b =
    absurd (table_or_refusal reading files table a.0 refusal a.2 b)
check_plan_calls_for_one reading certs table certificate files (statuses.CertRefused (Syntax n)) (statuses.CertRefused (Syntax m)) a b =
    ap (λ k. statuses.CertRefused (Syntax k)) (one_byte certs files certificate a.1 b.1 n m a.3 a.4 b.3 b.4)
check_plan_calls_for_one reading certs table certificate files (statuses.CertRefused (Syntax n)) (statuses.CertRefused (Fault fault)) a b =
    absurd (cert_or_refused certs files certificate a.1 b.1 n b.3 a.3 a.4)
check_plan_calls_for_one reading certs table certificate files (statuses.CertRefused (Syntax n)) statuses.Missing a b =
    absurd (there_or_missing table certificate files a.0 a.1 a.2 a.3 b)
check_plan_calls_for_one reading certs table certificate files (statuses.CertRefused (Fault fault)) statuses.Ok a b =
    absurd (accepted_or_faulty reading certs table certificate files fault b a)
check_plan_calls_for_one reading certs table certificate files (statuses.CertRefused (Fault fault)) (statuses.JobRefused refusal) a b =
    absurd (table_or_refusal reading files table a.0 refusal a.2 b)
check_plan_calls_for_one reading certs table certificate files (statuses.CertRefused (Fault fault)) (statuses.CertRefused (Syntax m)) a b =
    absurd (cert_or_refused certs files certificate b.1 a.1 m a.3 b.3 b.4)
check_plan_calls_for_one reading certs table certificate files (statuses.CertRefused (Fault fault)) (statuses.CertRefused (Fault other)) a b =
    ap (λ f. statuses.CertRefused (Fault f)) (one_fault reading certs table certificate files fault other a b)
check_plan_calls_for_one reading certs table certificate files (statuses.CertRefused (Fault fault)) statuses.Missing a b =
    absurd (there_or_missing table certificate files a.0 a.3.bytes a.2 a.3.held b)
check_plan_calls_for_one reading certs table certificate files statuses.Missing statuses.Ok a b =
    absurd (there_or_missing table certificate files b.0 b.3.bytes b.2 b.3.held a)
check_plan_calls_for_one reading certs table certificate files statuses.Missing (statuses.JobRefused refusal) a b =
    absurd (refused_or_missing reading table certificate files refusal b a)
check_plan_calls_for_one reading certs table certificate files statuses.Missing (statuses.CertRefused (Syntax m)) a b =
    absurd (there_or_missing table certificate files b.0 b.1 b.2 b.3 a)
check_plan_calls_for_one reading certs table certificate files statuses.Missing (statuses.CertRefused (Fault fault)) a b =
    absurd (there_or_missing table certificate files b.0 b.3.bytes b.2 b.3.held a)
check_plan_calls_for_one reading certs table certificate files statuses.Missing statuses.Missing a b = refl
check_plan_calls_for_one reading certs table certificate files statuses.Usage t a b = absurd a
check_plan_calls_for_one reading certs table certificate files (statuses.SourceRefused fault) t a b = absurd a
check_plan_calls_for_one reading certs table certificate files (statuses.Unschedulable miss) t a b = absurd a
check_plan_calls_for_one reading certs table certificate files statuses.ReadFault t a b = absurd a
check_plan_calls_for_one reading certs table certificate files statuses.WriteFault t a b = absurd a
check_plan_calls_for_one reading certs table certificate files statuses.OutOfMemory t a b = absurd a
check_plan_calls_for_one reading certs table certificate files (statuses.AuditFault finding) t a b = absurd a
check_plan_calls_for_one reading certs table certificate files statuses.NoFit t a b = absurd a
check_plan_calls_for_one reading certs table certificate files s statuses.Usage a b = absurd b
check_plan_calls_for_one reading certs table certificate files s (statuses.SourceRefused fault) a b = absurd b
check_plan_calls_for_one reading certs table certificate files s (statuses.Unschedulable miss) a b = absurd b
check_plan_calls_for_one reading certs table certificate files s statuses.ReadFault a b = absurd b
check_plan_calls_for_one reading certs table certificate files s statuses.WriteFault a b = absurd b
check_plan_calls_for_one reading certs table certificate files s statuses.OutOfMemory a b = absurd b
check_plan_calls_for_one reading certs table certificate files s (statuses.AuditFault finding) a b = absurd b
check_plan_calls_for_one reading certs table certificate files s statuses.NoFit a b = absurd b
