use Rattle.std.proofs.Common.{◌≡◌, ℕ, List, map, take, slice_get, Some}
use Rattle.psi_tables.specs.declared.stream.Stream.{Stream}
use Rattle.ts_packets.specs.TransportStream.{pid_pieces}
use Rattle.ts_packets.specs.PidReader.{IsBehind}
use Rattle.ts_demux.specs.declared.carried_packets.CarriedPid.{CarriedPid}
use Rattle.ts_demux.proofs.CarriedSteps.{pids_in}
use Rattle.ts_demux.proofs.carried_packets.CarriedPackets.new.Given as goal

abbrev pub invariant-loop-stream : goal.invariant-loop-stream
invariant-loop-stream l = record {
  pids : pids_in l.read.items ≡ map (λ (stream : Stream). stream.pid) (take l.stream-index l.streams);
  stand : (file : List ℕ) (k : ℕ) (stream : CarriedPid) → slice_get l.read.items k ≡ Some stream → IsBehind (pid_pieces file stream.pid 0 0) stream.packets;
}
