-- What becomes of the bytes of CERT.
use Rattle.std.proofs.Common.{◌≡◌, ◌+◌, ◌≤◌, ℕ, List, length, take, Option, Some, None, IfSome, refl, sym, ap, subst, ◌∙◌, inl, inr, arith}
use Rattle.std.proofs.lemmas.List.{length-take}
use Rattle.bound_certificate.specs.declared.cert.Cert.{Cert}
use Rattle.bound_certificate.specs.declared.limits.TheConstants.{CERT_BYTES_MOST}
use Rattle.bound_certificate.specs.Reading.{CertReading, IsCertRead, Holds, RefusedAt}
use Rattle.branch_plan.specs.Plan.{BoundsAll}
use Rattle.certificate_checker.specs.Checked.{IsFaultless, IsFirstFault}
use Rattle.certificate_checker.specs.declared.why.CertFault.{CertFault}
use Rattle.version_table.specs.declared.table.Table.{Table}
use Rattle.job_report.specs.Report.{report_line}
use Rattle.job_report.specs.declared.report.Report.{Report}
use Rattle.job_report.specs.declared.report.Report.TheVariants as reports
use Rattle.shelf_io.specs.Files.{Files}
use Rattle.command_words.specs.declared.ended.Ended.{Ended}
use Rattle.command_words.specs.declared.status.Status.TheVariants as statuses
use Rattle.command_words.specs.declared.status.CertRefusal.TheVariants.{Syntax, Fault}
use Rattle.command_words.specs.Ended.{EndsAtFault, EndsBy, Performs, answer_of}
use Rattle.command_words.specs.Held.{HoldsText}
use Rattle.shelf_io.specs.Facts.{ShelfFacts}
use Rattle.command_words.specs.Outside.{CountsGrow}
use Rattle.command_words.specs.Report.{cert_report}
use Rattle.command_words.specs.Task.{AsksOnly}
use Rattle.command_words.proofs.Performed.{performs_so, wants}
use Rattle.command_words.proofs.Texts.{take_all_of}
use Rattle.job_files.specs.declared.job_table.JobTable.{JobTable}
use Rattle.job_files.specs.JobTable.{IsJobTable}
use Rattle.check_command.specs.CheckCommand.{check_task, files_of_check, HoldsBoth}
use Rattle.check_command.specs.Verdict.{IsVerdict, accepted, refused, IsVerdictOn, spelled, unspelled}

-- bytes are read as their front of one byte past the limit
pub whole_cert : (bytes front : List ℕ) (reading : CertReading) → front ≡ take (CERT_BYTES_MOST + 1) bytes → IsCertRead front reading → IsCertRead bytes reading
whole_cert bytes front (Holds cert) is (short, cert_is, spelled_so) =
    let whole : front ≡ bytes = take_all_of CERT_BYTES_MOST bytes front is short in
    subst (λ (b : List ℕ). IsCertRead b (Holds cert)) whole (short, cert_is, spelled_so)
whole_cert bytes front (RefusedAt n) is (inl (long, place)) =
    let cut : length front ≤ length bytes = subst (λ (b : List ℕ). length b ≤ length bytes) (sym is) (omega (arith, length-take (CERT_BYTES_MOST + 1) bytes)) in
    inl (omega arith, place)
whole_cert bytes front (RefusedAt n) is (inr (short, refusal)) =
    let whole : front ≡ bytes = take_all_of CERT_BYTES_MOST bytes front is short in
    subst (λ (b : List ℕ). IsCertRead b (RefusedAt n)) whole (inr (short, refusal))

both_hold : (told : Option Files) (job certificate : List ℕ) (made : JobTable) (cert : Cert) (bytes : List ℕ) → IsJobTable told job (files_of_check job certificate) made
    → HoldsText told certificate bytes → IsCertRead bytes (Holds cert) → HoldsBoth told job certificate made cert
both_hold told job certificate made cert bytes has stands read = record { made_is = has; cert_is = record { bytes = bytes; held = stands; read = read } }

-- JOB has this table, and CERT these bytes: what `check` knows of its files once both are read
pub record Knows (told : Option Files) (job certificate : List ℕ) (made : JobTable) (bytes : List ℕ) : Type 0 where
  pub has : IsJobTable told job (files_of_check job certificate) made
  pub stands : HoldsText told certificate bytes

-- so do the files that are told
on_held : (told : Option Files) (job certificate : List ℕ) (made : JobTable) (bytes : List ℕ) (held : Files) → told ≡ Some held
    → Knows told job certificate made bytes → Knows (Some held) job certificate made bytes
on_held told job certificate made bytes held is knows = subst (λ (t : Option Files). Knows t job certificate made bytes) is knows

-- what becomes of a certificate
verdict_performs : (job certificate : List ℕ) (old new : ShelfFacts) (made : JobTable) (cert : Cert) (bytes : List ℕ) (ended : Ended)
    → Knows old.files job certificate made bytes → IsCertRead bytes (Holds cert) → IsVerdict made.table cert ended → new.files ≡ old.files
    → EndsAtFault old new (answer_of (Some ended)) → CountsGrow old.counts new.counts → AsksOnly (check_task job certificate) old.files old.asked new.asked
    → Performs (check_task job certificate) old new (answer_of (Some ended))
verdict_performs job certificate old new made cert bytes ended knows read (accepted faultless bound ends) same at_fault counts asks =
    let report = reports.Check cert.bound in
    performs_so (check_task job certificate) old new (Some ended) statuses.Ok report report ends refl same
    (λ held told. let on = on_held old.files job certificate made bytes held told knows in (
      made,
      cert,
      record { holds = both_hold (Some held) job certificate made cert bytes on.has on.stands read; faultless = faultless; bound = bound },
      refl,
      refl,
    ))
    (λ held. refl)
    (made, cert, record { holds = both_hold old.files job certificate made cert bytes knows.has knows.stands read; faultless = faultless; bound = bound }, refl)
    at_fault counts asks
verdict_performs job certificate old new made cert bytes ended knows read (refused fault first ends) same at_fault counts asks =
    let report = cert_report (Fault fault) in
    performs_so (check_task job certificate) old new (Some ended) (statuses.CertRefused (Fault fault)) report report ends refl same
    (λ held told. let on = on_held old.files job certificate made bytes held told knows in
    ((made, cert, both_hold (Some held) job certificate made cert bytes on.has on.stands read, first), refl))
    (λ held. refl)
    (record { may = tt; says = refl; called = (made, cert, both_hold old.files job certificate made cert bytes knows.has knows.stands read, first) })
    at_fault counts asks

-- what becomes of bytes whose front was read
pub verdict_on_performs : (job certificate : List ℕ) (old new : ShelfFacts) (made : JobTable) (bytes front : List ℕ) (result : Option Ended)
    → Knows old.files job certificate made bytes → front ≡ take (CERT_BYTES_MOST + 1) bytes → IfSome result (IsVerdictOn made.table front) → new.files ≡ old.files
    → EndsAtFault old new (answer_of result) → CountsGrow old.counts new.counts → AsksOnly (check_task job certificate) old.files old.asked new.asked
    → Performs (check_task job certificate) old new (answer_of result)
verdict_on_performs job certificate old new made bytes front None knows is so same at_fault counts asks =
    wants (check_task job certificate) old new same (λ held. refl) at_fault counts asks
verdict_on_performs job certificate old new made bytes front (Some ended) knows is (spelled cert read verdict) same at_fault counts asks =
    verdict_performs job certificate old new made cert bytes ended knows (whole_cert bytes front (Holds cert) is read) verdict same at_fault counts asks
verdict_on_performs job certificate old new made bytes front (Some ended) knows is (unspelled byte read ends) same at_fault counts asks =
    let report = cert_report (Syntax byte) in
    let refused_at = whole_cert bytes front (RefusedAt byte) is read in
    performs_so (check_task job certificate) old new (Some ended) (statuses.CertRefused (Syntax byte)) report report ends refl same
    (λ held told. let on = on_held old.files job certificate made bytes held told knows in ((made, bytes, on.has, on.stands, refused_at), refl))
    (λ held. refl)
    (record { may = tt; says = refl; called = (made, bytes, knows.has, knows.stands, refused_at) })
    at_fault counts asks

-- bytes of a certificate
pub verdict_spelled : (table : Table) (bytes : List ℕ) (cert : Cert) (result : Option Ended) → IsCertRead bytes (Holds cert)
    → IfSome result (IsVerdict table cert) → IfSome result (IsVerdictOn table bytes)
verdict_spelled table bytes cert None read so = tt
verdict_spelled table bytes cert (Some ended) read so = spelled cert read so

-- bytes of no certificate
pub verdict_unspelled : (table : Table) (bytes : List ℕ) (byte : ℕ) (told : Report) (result : Option Ended) → IsCertRead bytes (RefusedAt byte)
    → IfSome result (EndsBy (statuses.CertRefused (Syntax byte)) told) → report_line told ≡ report_line (cert_report (Syntax byte))
    → IfSome result (IsVerdictOn table bytes)
verdict_unspelled table bytes byte told None read so is = tt
verdict_unspelled table bytes byte told (Some ended) read so is = unspelled byte read (so.0, so.1 ∙ is)

-- a certificate without fault
pub verdict_accepted : (table : Table) (cert : Cert) (bound : ℕ) (result : Option Ended) → IsFaultless table cert → BoundsAll table bound
    → IfSome result (EndsBy statuses.Ok (reports.Check bound)) → bound ≡ cert.bound → IfSome result (IsVerdict table cert)
verdict_accepted table cert bound None faultless bounds so is = tt
verdict_accepted table cert bound (Some ended) faultless bounds so is =
    accepted faultless (subst (λ (n : ℕ). BoundsAll table n) is bounds) (so.0, so.1 ∙ ap (λ (n : ℕ). report_line (reports.Check n)) is)

-- a certificate with a fault
pub verdict_refused : (table : Table) (cert : Cert) (fault : CertFault) (told : Report) (result : Option Ended) → IsFirstFault table cert fault
    → IfSome result (EndsBy (statuses.CertRefused (Fault fault)) told) → report_line told ≡ report_line (cert_report (Fault fault))
    → IfSome result (IsVerdict table cert)
verdict_refused table cert fault told None first so is = tt
verdict_refused table cert fault told (Some ended) first so is = refused fault first (so.0, so.1 ∙ is)
