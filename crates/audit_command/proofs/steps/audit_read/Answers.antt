use Rattle.std.proofs.Common.{ℕ, List, [], Option, Some, sym, subst}
use Rattle.job_report.specs.declared.job.Form.TheVariants.{Ts}
use Rattle.job_report.specs.declared.limits.TheConstants.{START_DEFAULT}
use Rattle.stream_audit.specs.declared.finding.Finding.{Finding}
use Rattle.stream_audit.specs.declared.kept_units.KeptUnits.{KeptUnits}
use Rattle.stream_audit.specs.Audit.{AreAuditable, IsAudited}
use Rattle.stream_audit.specs.Refusals.{IsAuditStopped}
use Rattle.audit_command.specs.AuditCommand.{kept_units}
use Rattle.audit_command.proofs.Auditable.{auditable}
use Rattle.audit_command.proofs.AuditEnds.{found_so, stopped_so}
use Rattle.audit_command.proofs.steps.audit_read.Goals as goal

pub kept_units-requires : goal.kept_units-requires
kept_units-requires c =
    let read = c.args.read in
    (c.programs_can_be_sent.ensures.of_file Ts read.content c.args.words.now.program [] START_DEFAULT read.program c.requires.alone.holds).units

pub audit-requires-clause-kept : goal.audit-requires-clause-kept
audit-requires-clause-kept c =
    let read = c.args.read in
    subst AreAuditable (sym c.in-Ok.ensures) (auditable c.args.words.now.slot START_DEFAULT c.args.words.now.program read.content read.program c.requires.alone)

pub returns-in-Ok-Some : goal.returns-in-Ok-Some
returns-in-Ok-Some c =
    let words = c.args.words.now in
    let read = c.args.read in
    let finding = c.in-Ok-Some.finding in
    let some = subst (λ (f : Option Finding). IsAudited c.as_slice.result.now words.program words.slot c.in-Ok.kept f) c.in-Ok-Some.field-0-is c.in-Ok-Some.ensures in
    let units = subst (λ (k : KeptUnits). IsAudited c.as_slice.result.now words.program words.slot k (Some finding)) c.in-Ok.ensures some in
    let audited = subst (λ (l : List ℕ). IsAudited l words.program words.slot (kept_units read.program) (Some finding)) c.as_slice.ensures units in
    found_so words.slot words.program read.content read.program finding c.end_found.result audited c.end_found.ensures

pub returns : goal.returns
returns c =
    let words = c.args.words.now in
    let read = c.args.read in
    let stop = c.in-Err.stop in
    let units = subst (λ (k : KeptUnits). IsAuditStopped c.as_slice.result.now words.program words.slot k stop) c.in-Ok.ensures c.in-Err.ensures in
    let stopped = subst (λ (l : List ℕ). IsAuditStopped l words.program words.slot (kept_units read.program) stop) c.as_slice.ensures units in
    stopped_so words.slot words.program read.content read.program stop c.end_stopped.result stopped c.end_stopped.ensures
