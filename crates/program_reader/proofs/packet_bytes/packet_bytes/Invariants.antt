use Rattle.std.proofs.Common.{◌≡◌, take}
use Rattle.std.specs.List.{flat_map}
use Rattle.program_reader.proofs.packet_bytes.packet_bytes.Given as goal

abbrev pub invariant-loop-packet : goal.invariant-loop-packet
invariant-loop-packet l = l.bytes.items ≡ flat_map (λ packet. packet.bytes) (take l.packet-index (take l.count l.packets))
