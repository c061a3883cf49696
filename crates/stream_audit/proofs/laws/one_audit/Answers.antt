use Rattle.stream_audit.proofs.OneAudit as one
use Rattle.stream_audit.proofs.laws.one_audit.Goals as goal

pub returns-clause-found : goal.returns-clause-found
returns-clause-found c = one.audit_one

pub returns-clause-stopped : goal.returns-clause-stopped
returns-clause-stopped c = one.audit_stop_one

pub returns-clause-never_both : goal.returns-clause-never_both
returns-clause-never_both c = one.audit_never_both
