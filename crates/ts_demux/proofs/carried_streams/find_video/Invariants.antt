use Rattle.ts_demux.proofs.CarrySteps.{NoVideoBefore}
use Rattle.ts_demux.proofs.carried_streams.find_video.Given as goal

abbrev pub invariant-loop-at : goal.invariant-loop-at
invariant-loop-at l = NoVideoBefore l.streams l.at
