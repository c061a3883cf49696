-- What a reader of the packets of a PID does with the next one.
use Rattle.std.specs.Prelude.{◌+◌, ◌%◌, ◌==◌, nat_lt, Bool, true, false, not, ◌&&◌, ◌||◌, length, Option, Some, None, if◌then◌else◌}
use Rattle.std.specs.Option.{option_map_or}
use Rattle.std.specs.Str.{bytes_eq}
use Rattle.ts_packets.specs.declared.pid_fault.PidFault.{PidFault}
use Rattle.ts_packets.specs.declared.pid_fault.PidFault.TheVariants.{Gap}
use Rattle.ts_packets.specs.Packet.{PacketRecord}
use Rattle.ts_packets.specs.LastPayload.{Numbered}

-- counter and payload come again
abbrev pub repeats : PacketRecord → Numbered → Bool
repeats packet before = (packet.counter == before.counter) && bytes_eq packet.payload before.payload

-- the counter is the next one
abbrev pub counts_on : PacketRecord → Numbered → Bool
counts_on packet before = packet.counter == (before.counter + 1) % 16

-- a gap behind the last packet with payload
abbrev pub gap_fault : PacketRecord → Option Numbered → Option PidFault
gap_fault packet last = if nat_lt 0 (length packet.payload) && option_map_or (λ before. not (counts_on packet before || repeats packet before)) last false then Some Gap else None

-- the packet, if it has payload that doesn't come again
abbrev pub taken_packet : PacketRecord → Option Numbered → Option PacketRecord
taken_packet packet last = if nat_lt 0 (length packet.payload) && not (option_map_or (repeats packet) last false) then Some packet else None
