use Rattle.std.proofs.Common.{◌<◌, ◌≢◌, ℕ, map, slice_get, Some}
use Rattle.ts_demux.specs.declared.carried_packets.CarriedPid.{CarriedPid}
use Rattle.ts_demux.proofs.carried_packets.index_of.Given as goal

abbrev pub invariant-loop-index : goal.invariant-loop-index
invariant-loop-index l = (k : ℕ) → k < l.index → slice_get (map (λ (stream : CarriedPid). stream.pid) l.streams) k ≢ Some l.pid
