use Rattle.audit_laws.proofs.Sections.{sections-found}
use Rattle.audit_laws.proofs.laws.sections_are_clean.Goals as goal

pub returns : goal.returns
returns c = sections-found (record { stands = c.packets_stand_in_order.ensures.packet; carries = c.counted_payloads_are_carried.ensures.carried })
