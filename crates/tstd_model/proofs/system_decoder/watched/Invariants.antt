use Rattle.std.proofs.Common.{length, All}
use Rattle.tstd_model.specs.PacketBytes.{HasHeaderWithin}
use Rattle.tstd_model.proofs.WatchGoes.{WatchedSoFar}
use Rattle.tstd_model.proofs.system_decoder.watched.Given as goal

abbrev pub invariant-packets : goal.invariant-packets
invariant-packets l = record {
  so_far : WatchedSoFar l.slot l.fn.kind l.removals l.arrivals l.later l.watch;
  within : All HasHeaderWithin l.later;
}

abbrev pub decreases-packets : goal.decreases-packets
decreases-packets l = length l.later
