use Rattle.std.proofs.Common.{◌≡◌, drop}
use Rattle.ts_demux.specs.Streams.{is_among}
use Rattle.ts_demux.specs.Private.CarriedStreams.{pids_in}
use Rattle.ts_demux.proofs.carried_streams.has_pid.Given as goal

abbrev pub invariant-loop-stream : goal.invariant-loop-stream
invariant-loop-stream l = is_among (pids_in l.streams) l.pid ≡ is_among (pids_in (drop l.stream-index l.streams)) l.pid
