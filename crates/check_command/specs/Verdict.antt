-- What becomes of a certificate, by the table that it is checked against.
use Rattle.std.specs.Prelude.{ℕ, List}
use Rattle.bound_certificate.specs.declared.cert.Cert.{Cert}
use Rattle.bound_certificate.specs.Reading.{IsCertRead, Holds, RefusedAt}
use Rattle.branch_plan.specs.Plan.{BoundsAll}
use Rattle.certificate_checker.specs.Checked.{IsFaultless, IsFirstFault}
use Rattle.certificate_checker.specs.declared.why.CertFault.{CertFault}
use Rattle.job_report.specs.declared.report.Report.TheVariants as reports
use Rattle.version_table.specs.declared.table.Table.{Table}
use Rattle.command_words.specs.declared.ended.Ended.{Ended}
use Rattle.command_words.specs.declared.status.Status.TheVariants as statuses
use Rattle.command_words.specs.declared.status.CertRefusal.TheVariants.{Syntax, Fault}
use Rattle.command_words.specs.Ended.{EndsBy}
use Rattle.command_words.specs.Report.{cert_report}

-- a certificate is accepted with its bound, or refused for its first fault
pub data IsVerdict (table : Table) (cert : Cert) (ended : Ended) : Type 0 where
  accepted : IsFaultless table cert → BoundsAll table cert.bound → EndsBy statuses.Ok (reports.Check cert.bound) ended → IsVerdict table cert ended
  refused : (fault : CertFault) → IsFirstFault table cert fault → EndsBy (statuses.CertRefused (Fault fault)) (cert_report (Fault fault)) ended
      → IsVerdict table cert ended

-- bytes are those of a certificate that is accepted or refused, or no certificate's
pub data IsVerdictOn (table : Table) (bytes : List ℕ) (ended : Ended) : Type 0 where
  spelled : (cert : Cert) → IsCertRead bytes (Holds cert) → IsVerdict table cert ended → IsVerdictOn table bytes ended
  unspelled : (byte : ℕ) → IsCertRead bytes (RefusedAt byte) → EndsBy (statuses.CertRefused (Syntax byte)) (cert_report (Syntax byte)) ended
      → IsVerdictOn table bytes ended
