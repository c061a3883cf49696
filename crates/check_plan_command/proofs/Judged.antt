-- What becomes of the text of TABLE and the bytes of CERT.
use Rattle.std.proofs.Common.{◌≡◌, ◌+◌, ℕ, List, take, Option, Some, None, IfSome, refl, subst}
use Rattle.bound_certificate.specs.declared.cert.Cert.{Cert}
use Rattle.bound_certificate.specs.declared.limits.TheConstants.{CERT_BYTES_MOST}
use Rattle.bound_certificate.specs.Reading.{IsCertRead, Holds, RefusedAt}
use Rattle.version_table.specs.declared.fault.TableFault.{TableFault}
use Rattle.version_table.specs.declared.fault.TableFault.TheVariants as faults
use Rattle.version_table.specs.declared.table.Table.{Table}
use Rattle.version_table.specs.Text.{IsFaultOf}
use Rattle.job_report.specs.declared.report.Report.TheVariants as reports
use Rattle.shelf_io.specs.Files.{Files}
use Rattle.command_words.specs.declared.ended.Ended.{Ended}
use Rattle.command_words.specs.declared.status.Status.TheVariants as statuses
use Rattle.command_words.specs.declared.status.CertRefusal.TheVariants.{Syntax, Fault}
use Rattle.command_words.specs.declared.status.JobRefusal.{JobRefusal}
use Rattle.command_words.specs.declared.status.JobRefusal.TheVariants.{TableSyntax, TableLimit}
use Rattle.command_words.specs.Ended.{EndsAtFault, EndsBy, Performs, answer_of}
use Rattle.command_words.specs.Held.{HoldsText}
use Rattle.shelf_io.specs.Facts.{ShelfFacts}
use Rattle.command_words.specs.Outside.{CountsGrow}
use Rattle.command_words.specs.Report.{cert_report, refusal_report}
use Rattle.command_words.specs.Task.{AsksOnly}
use Rattle.command_words.proofs.Performed.{performs_so, performs_uncalled, wants, wants_uncalled}
use Rattle.plan_command.specs.PlanCommand.{HoldsTable}
use Rattle.plan_command.specs.Private.Front.{HoldsFront}
use Rattle.plan_command.specs.Refused.{refusal_by, IsRefusedFor}
use Rattle.plan_command.proofs.Held.{text_is_refused}
use Rattle.check_command.specs.CheckCommand.{HoldsCert}
use Rattle.check_command.specs.Verdict.{IsVerdict, accepted, refused, IsVerdictOn, spelled, unspelled}
use Rattle.check_command.proofs.CheckSteps.{whole_cert}
use Rattle.check_plan_command.specs.CheckPlanCommand.{CheckPlanMayRefuse, check_plan_task}

-- ---- the text of TABLE

-- a refusal of a table's text is one of line or limit
may_refuse : (refusal : JobRefusal) (fault : TableFault) → refusal_by fault ≡ Some refusal → CheckPlanMayRefuse (statuses.JobRefused refusal)
may_refuse refusal (faults.TableSyntax n) by = let same : TableSyntax n ≡ refusal = cc in subst (λ (r : JobRefusal). CheckPlanMayRefuse (statuses.JobRefused r)) same tt
may_refuse refusal (faults.TableLimit name) by = let same : TableLimit name ≡ refusal = cc in subst (λ (r : JobRefusal). CheckPlanMayRefuse (statuses.JobRefused r)) same tt
may_refuse refusal faults.OutOfMemory by = cc

refused_with : (table certificate : List ℕ) (facts : ShelfFacts) (front : List ℕ) (result : Option Ended) (fault : TableFault) (refusal : JobRefusal)
    → refusal_by fault ≡ Some refusal → HoldsFront facts.files table front → IsFaultOf front fault
    → IfSome result (EndsBy (statuses.JobRefused refusal) (refusal_report refusal)) → Performs (check_plan_task table certificate) facts facts (answer_of result)
refused_with table certificate facts front result fault refusal by holds is so =
    let refused = text_is_refused holds.text front refusal fault holds.front_is by is in
    performs_uncalled (check_plan_task table certificate) facts result (statuses.JobRefused refusal) (refusal_report refusal) (refusal_report refusal) so refl
    (λ held told. ((holds.text, subst (λ (t : Option Files). HoldsText t table holds.text) told holds.held, refused), refl)) (λ held. refl)
    (record { may = may_refuse refusal fault by; says = refl; called = (holds.text, holds.held, refused) })

-- a refused text ends the command
pub refused_ends : (table certificate : List ℕ) (facts : ShelfFacts) (front : List ℕ) (result : Option Ended) (fault : TableFault)
    → HoldsFront facts.files table front → IsFaultOf front fault → IfSome result (IsRefusedFor (refusal_by fault))
    → Performs (check_plan_task table certificate) facts facts (answer_of result)
refused_ends table certificate facts front None fault holds is so = wants_uncalled (check_plan_task table certificate) facts (λ held. refl)
refused_ends table certificate facts front (Some ended) (faults.TableSyntax n) holds is so =
    refused_with table certificate facts front (Some ended) (faults.TableSyntax n) (TableSyntax n) refl holds is so
refused_ends table certificate facts front (Some ended) (faults.TableLimit name) holds is so =
    refused_with table certificate facts front (Some ended) (faults.TableLimit name) (TableLimit name) refl holds is so
refused_ends table certificate facts front (Some ended) faults.OutOfMemory holds is so = absurd so

-- ---- the bytes of CERT

-- TABLE holds this table, and CERT these bytes: what `check-plan` knows of its files once both are read
pub record Knows (told : Option Files) (table certificate : List ℕ) (made : Table) (bytes : List ℕ) : Type 0 where
  pub has : HoldsTable told table made
  pub stands : HoldsText told certificate bytes

-- so do the files that are told
on_held : (told : Option Files) (table certificate : List ℕ) (made : Table) (bytes : List ℕ) (held : Files) → told ≡ Some held
    → Knows told table certificate made bytes → Knows (Some held) table certificate made bytes
on_held told table certificate made bytes held is knows = subst (λ (t : Option Files). Knows t table certificate made bytes) is knows

holds_cert : (told : Option Files) (certificate : List ℕ) (cert : Cert) (bytes : List ℕ) → HoldsText told certificate bytes → IsCertRead bytes (Holds cert)
    → HoldsCert told certificate cert
holds_cert told certificate cert bytes stands read = record { bytes = bytes; held = stands; read = read }

-- what becomes of a certificate
verdict_performs : (table certificate : List ℕ) (old new : ShelfFacts) (made : Table) (cert : Cert) (bytes : List ℕ) (ended : Ended)
    → Knows old.files table certificate made bytes → IsCertRead bytes (Holds cert) → IsVerdict made cert ended → new.files ≡ old.files
    → EndsAtFault old new (answer_of (Some ended)) → CountsGrow old.counts new.counts → AsksOnly (check_plan_task table certificate) old.files old.asked new.asked
    → Performs (check_plan_task table certificate) old new (answer_of (Some ended))
verdict_performs table certificate old new made cert bytes ended knows read (accepted faultless bound ends) same at_fault counts asks =
    let report = reports.Check cert.bound in
    performs_so (check_plan_task table certificate) old new (Some ended) statuses.Ok report report ends refl same
    (λ held told. let on = on_held old.files table certificate made bytes held told knows in (
      made,
      cert,
      record { table_is = on.has; cert_is = holds_cert (Some held) certificate cert bytes on.stands read; faultless = faultless; bound = bound },
      refl,
      refl,
    ))
    (λ held. refl)
    (made, cert, record { table_is = knows.has; cert_is = holds_cert old.files certificate cert bytes knows.stands read; faultless = faultless; bound = bound }, refl)
    at_fault counts asks
verdict_performs table certificate old new made cert bytes ended knows read (refused fault first ends) same at_fault counts asks =
    let report = cert_report (Fault fault) in
    performs_so (check_plan_task table certificate) old new (Some ended) (statuses.CertRefused (Fault fault)) report report ends refl same
    (λ held told. let on = on_held old.files table certificate made bytes held told knows in
    ((made, cert, on.has, holds_cert (Some held) certificate cert bytes on.stands read, first), refl))
    (λ held. refl)
    (record { may = tt; says = refl; called = (made, cert, knows.has, holds_cert old.files certificate cert bytes knows.stands read, first) })
    at_fault counts asks

-- what becomes of bytes whose front was read
pub verdict_on_performs : (table certificate : List ℕ) (old new : ShelfFacts) (made : Table) (bytes front : List ℕ) (result : Option Ended)
    → Knows old.files table certificate made bytes → front ≡ take (CERT_BYTES_MOST + 1) bytes → IfSome result (IsVerdictOn made front) → new.files ≡ old.files
    → EndsAtFault old new (answer_of result) → CountsGrow old.counts new.counts → AsksOnly (check_plan_task table certificate) old.files old.asked new.asked
    → Performs (check_plan_task table certificate) old new (answer_of result)
verdict_on_performs table certificate old new made bytes front None knows is so same at_fault counts asks =
    wants (check_plan_task table certificate) old new same (λ held. refl) at_fault counts asks
verdict_on_performs table certificate old new made bytes front (Some ended) knows is (spelled cert read verdict) same at_fault counts asks =
    verdict_performs table certificate old new made cert bytes ended knows (whole_cert bytes front (Holds cert) is read) verdict same at_fault counts asks
verdict_on_performs table certificate old new made bytes front (Some ended) knows is (unspelled byte read ends) same at_fault counts asks =
    let report = cert_report (Syntax byte) in
    let refused_at = whole_cert bytes front (RefusedAt byte) is read in
    performs_so (check_plan_task table certificate) old new (Some ended) (statuses.CertRefused (Syntax byte)) report report ends refl same
    (λ held told. let on = on_held old.files table certificate made bytes held told knows in ((made, bytes, on.has, on.stands, refused_at), refl))
    (λ held. refl)
    (record { may = tt; says = refl; called = (made, bytes, knows.has, knows.stands, refused_at) })
    at_fault counts asks
