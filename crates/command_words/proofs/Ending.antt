-- How a status and its report end a command.
use Rattle.std.proofs.Common.{◌≡◌, List, ℕ, Option, Some, None, IfSome, sym, ap, subst, ◌∙◌}
use Rattle.job_report.specs.Report.{report_line}
use Rattle.job_report.specs.declared.report.Report.{Report}
use Rattle.command_words.specs.declared.ended.Ended.{Ended}
use Rattle.command_words.specs.declared.status.Status.{Status}
use Rattle.command_words.specs.Answer.{Answer}
use Rattle.command_words.specs.Ended.{answer_of, EndsBy}

-- what holds of a status with the line of this report, and of want of memory, holds of a command that ends so
pub ends_so : (P : Option Answer → Type 0) (result : Option Ended) (status : Status) (report told : Report) → IfSome result (EndsBy status report)
    → report ≡ told → P (Some (record { status = status; line = report_line told })) → P None → P (answer_of result)
ends_so P None status report told so is holds none = none
ends_so P (Some ended) status report told so is holds none =
    let says : report_line told ≡ ended.line.items = sym (so.1 ∙ ap report_line is) in
    subst (λ (s : Status). P (Some (record { status = s; line = ended.line.items }))) (sym so.0)
    (subst (λ (l : List ℕ). P (Some (record { status = status; line = l }))) says holds)
