use Rattle.std.proofs.Common.{◌≡◌, ◌-◌, ◌++◌, ℕ, List}
use Rattle.ts_packets.specs.Packet.{PacketRecord}
use Rattle.program_maker.specs.Private.Output.{IsBehind}
use Rattle.program_maker.specs.Private.Program.{frames_state, frames_packets}
use Rattle.program_maker.proofs.program.put_frames.Given as goal

abbrev pub invariant-loop-j : goal.invariant-loop-j
invariant-loop-j l =
    (packets : List PacketRecord) (start : ℕ) → IsBehind packets l.fn.out → l.fn.draws.state ≡ frames_state start l.first
    → IsBehind (packets ++ frames_packets start l.first (l.j - l.first)) l.out × (l.draws.state ≡ frames_state start l.j)
