-- What is known of the files of `fit` once they are read.
use Rattle.std.specs.Prelude.{◌≡◌, ◌+◌, ℕ, List, Option, Some, None, take}
use Rattle.job_report.specs.declared.report.Report.{Report}
use Rattle.job_report.specs.declared.report.Report.TheVariants as reports
use Rattle.rate_fit.specs.declared.verdict.Verdict.{Verdict}
use Rattle.rate_fit.specs.Fit.{AreVerdicts, IsGreatestFit}
use Rattle.shelf_io.specs.Files.{Files}
use Rattle.version_table.specs.declared.table.Table.{Table}
use Rattle.command_words.specs.declared.ended.Ended.{Ended}
use Rattle.command_words.specs.declared.status.Status.{Status}
use Rattle.command_words.specs.declared.status.Status.TheVariants.{Ok, NoFit}
use Rattle.command_words.specs.Ended.{EndsBy}
use Rattle.command_words.specs.Held.{HoldsText}
use Rattle.fit_command.specs.declared.limits.TheConstants.{LIST_BYTES_MOST}
use Rattle.fit_command.specs.Report.{slot_reports}

-- the status of what was found, and its report
abbrev pub status_of : Option ℕ → Status
status_of (Some fit) = Ok
status_of None = NoFit

abbrev pub report_of : Option ℕ → (slots : List ℕ) → List Verdict → Report
report_of (Some fit) slots verdicts = reports.Fit fit (slot_reports slots verdicts)
report_of None slots verdicts = reports.NoFit (slot_reports slots verdicts)

-- a command ends by the verdicts on a table
abbrev pub EndsByVerdicts : Table → (slots : List ℕ) → Ended → Type 0
EndsByVerdicts table slots ended =
    (verdicts : List Verdict) × (found : Option ℕ) × AreVerdicts table slots verdicts × IsGreatestFit table slots found
    × EndsBy (status_of found) (report_of found slots verdicts) ended

-- LIST holds a text with this front of one byte past the limit
pub record HoldsListFront (told : Option Files) (list front : List ℕ) : Type 0 where
  pub text : List ℕ
  pub held : HoldsText told list text
  pub front_is : front ≡ take (LIST_BYTES_MOST + 1) text
