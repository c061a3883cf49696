use Rattle.std.proofs.Common.{◌≡◌, fold, map, max, take}
use Rattle.slot_rule.proofs.distance.later_packet.Given as goal

abbrev pub invariant-loop-packet : goal.invariant-loop-packet
invariant-loop-packet l = l.latest ≡ fold max l.time (map (λ packet. packet.due) (take l.packet-index l.packets))
