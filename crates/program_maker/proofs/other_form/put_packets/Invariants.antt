use Rattle.std.proofs.Common.{◌≡◌, ◌++◌, take}
use Rattle.std.specs.List.{flat_map}
use Rattle.program_maker.specs.ProgramStream.{packet_element}
use Rattle.program_maker.proofs.other_form.put_packets.Given as goal

abbrev pub invariant-loop-packet : goal.invariant-loop-packet
invariant-loop-packet l = l.stream.items ≡ l.initial.stream.items ++ flat_map packet_element (take l.packet-index l.packets)
