use Rattle.std.proofs.Common.{◌≡◌, ◌++◌, List, length, min, ◌*◌, ◌/◌}
use Rattle.std.specs.List.{flat_map, range_with_len}
use Rattle.ts_packets.specs.Packet.{PacketRecord}
use Rattle.program_maker.specs.Program.{packets_at}
use Rattle.program_maker.specs.Streams.{drawn_frames}
use Rattle.program_maker.specs.Private.Output.{IsBehind}
use Rattle.program_maker.specs.Private.Program.{frames_state, first_frame}
use Rattle.program_maker.proofs.program.put_units.Given as goal

abbrev pub invariant-loop-k : goal.invariant-loop-k
invariant-loop-k l =
    (packets : List PacketRecord) → IsBehind packets l.fn.out
    → IsBehind (packets ++ flat_map (packets_at l.units (drawn_frames (length l.units) l.fn.draws.state).0) (range_with_len 0 l.k)) l.out
    × (l.draws.state ≡ frames_state l.fn.draws.state (min (first_frame l.k) (5 * length l.units / 3)))
