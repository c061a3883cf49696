-- What is reported of a plan.
use Rattle.std.specs.Prelude.{◌==◌, length}
use Rattle.bound_certificate.specs.declared.cert.Cert.{Cert}
use Rattle.job_report.specs.declared.report.Report.{Report}
use Rattle.job_report.specs.declared.report.Report.TheVariants as reports

-- a plan: its bound, choice, distortion and number of nodes, and that it is optimal where its bound is reached
abbrev pub plan_report : Cert → Report
plan_report plan = reports.Plan plan.bound plan.choice plan.distortion (length plan.nodes) (plan.bound == plan.distortion)
