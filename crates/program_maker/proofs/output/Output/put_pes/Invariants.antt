use Rattle.std.proofs.Common.{◌++◌, List, map}
use Rattle.std.specs.List.{range_with_len}
use Rattle.ts_packets.specs.Packet.{PacketRecord}
use Rattle.program_maker.specs.Packets.{pes_piece}
use Rattle.program_maker.specs.Private.Output.{IsBehind, pid_of}
use Rattle.program_maker.proofs.output.Output.put_pes.Given as goal

abbrev pub invariant-loop-n : goal.invariant-loop-n
invariant-loop-n l =
    (packets : List PacketRecord) → IsBehind packets l.fn.self → IsBehind (packets ++ map (pes_piece (pid_of l.carried) l.bytes) (range_with_len 0 l.n)) l.self
