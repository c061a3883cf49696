use Rattle.std.proofs.Common.{[]}
use Rattle.job_report.specs.declared.job.Form.TheVariants.{Ts}
use Rattle.audit_command.proofs.ReadLaws.{stopped_for}
use Rattle.audit_command.proofs.laws.audits_stop_before_streams.Goals as goal

pub returns : goal.returns
returns c = λ slot start number content program stop is stopped some.
    stopped_for slot start number content program stop some is (c.programs_can_be_sent.ensures.of_file Ts content number [] start program is.holds) stopped
