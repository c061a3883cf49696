-- What is reported of a generated program.
use Rattle.std.specs.Prelude.{ℕ, List, length}
use Rattle.job_report.specs.declared.report.Report.{Report}
use Rattle.job_report.specs.declared.report.Report.TheVariants as reports

-- a generated program: how many bytes and pictures it has
abbrev pub gen_report : (program : List ℕ) → (pictures : ℕ) → Report
gen_report program pictures = reports.Gen (length program) pictures
