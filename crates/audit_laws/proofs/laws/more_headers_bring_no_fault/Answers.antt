use Rattle.audit_laws.proofs.Headers.{fault-there}
use Rattle.audit_laws.proofs.laws.more_headers_bring_no_fault.Goals as goal

pub returns : goal.returns
returns c slot more fewer removals fault have = fault-there slot more fewer removals have fault
