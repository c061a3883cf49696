use Rattle.audit_command.proofs.OneStatus.{AuditLaws}
use Rattle.audit_command.proofs.OneStatus as one
use Rattle.audit_command.proofs.laws.audit_calls_for_one.Goals as goal

pub returns : goal.returns
returns c =
    let laws : AuditLaws = record {
      program = c.lone_program_has_one_answer.ensures.program;
      refused = c.lone_program_has_one_answer.ensures.refused;
      never_both = c.lone_program_has_one_answer.ensures.never_both;
      found = c.one_audit.ensures.found;
      stopped = c.one_audit.ensures.stopped;
      found_or_stopped = c.one_audit.ensures.never_both;
    } in
    one.audit_calls_for_one laws
