use Rattle.layer_laws.proofs.CountedPackets.{as_many, stands}
use Rattle.layer_laws.proofs.packets.packets_stand_in_order.Goals as goal

pub returns-clause-count : goal.returns-clause-count
returns-clause-count c = as_many

pub returns-clause-packet : goal.returns-clause-packet
returns-clause-packet c = stands
