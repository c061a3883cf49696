use Rattle.audit_laws.proofs.Clock.{has-clock}
use Rattle.audit_laws.proofs.laws.clock_is_read.Goals as goal

pub returns-clause-zero : goal.returns-clause-zero
returns-clause-zero c file list slot pid base read counted clock =
    (has-clock (record { stands = c.packets_stand_in_order.ensures.packet; carries = c.counted_payloads_are_carried.ensures.carried })
    file list slot pid base read counted clock).zero_is

pub returns-clause-off : goal.returns-clause-off
returns-clause-off c file list slot pid base read counted clock =
    (has-clock (record { stands = c.packets_stand_in_order.ensures.packet; carries = c.counted_payloads_are_carried.ensures.carried })
    file list slot pid base read counted clock).off_is
