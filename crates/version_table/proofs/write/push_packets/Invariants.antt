use Rattle.std.proofs.Common.{◌≡◌, ◌++◌, take, map}
use Rattle.version_table.specs.Lines.{line_of_packet}
use Rattle.version_table.specs.Text.{text_of_lines}
use Rattle.version_table.proofs.write.push_packets.Given as goal

abbrev pub invariant-loop-packet : goal.invariant-loop-packet
invariant-loop-packet l = l.out.items ≡ l.initial.out.items ++ text_of_lines (map line_of_packet (take l.packet-index l.packets))
