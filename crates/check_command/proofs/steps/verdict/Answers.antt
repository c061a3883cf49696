use Rattle.std.proofs.Common.{subst}
use Rattle.bound_certificate.specs.declared.fault.CertFormat.{CertFormat}
use Rattle.bound_certificate.specs.Reading.{IsFaultOf}
use Rattle.check_command.proofs.CheckSteps.{verdict_spelled, verdict_unspelled}
use Rattle.check_command.proofs.steps.verdict.Goals as goal

pub returns-in-Ok : goal.returns-in-Ok
returns-in-Ok c = verdict_spelled c.args.table.now c.args.bytes.now c.in-Ok.cert c.verdict_of.result c.in-Ok.ensures.cert c.verdict_of.ensures

pub returns-in-Err-CertSyntax : goal.returns-in-Err-CertSyntax
returns-in-Err-CertSyntax c =
    verdict_unspelled c.args.table.now c.args.bytes.now c.in-Err-CertSyntax.byte c.cert_report.result c.end_with.result
    (subst (λ (fault : CertFormat). IsFaultOf c.args.bytes.now fault) c.in-Err-CertSyntax.field-0-is c.in-Err-CertSyntax.ensures.refusal)
    c.end_with.ensures c.cert_report.ensures
