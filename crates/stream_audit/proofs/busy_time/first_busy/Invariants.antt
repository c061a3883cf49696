use Rattle.std.proofs.Common.{◌≡◌, ◌^◌, ◌≤◌, drop}
use Rattle.tstd_model.specs.PacketBytes.{arrives}
use Rattle.stream_audit.specs.Private.BusyTime.{IsShort, busy_behind, busy_by}
use Rattle.stream_audit.proofs.busy_time.first_busy.Given as goal

abbrev pub invariant-loop-arrival : goal.invariant-loop-arrival
invariant-loop-arrival l = record {
  subticks : l.time.subticks ≡ l.rate;
  short : IsShort l.time;
  from : l.time.from ≤ 2 ^ 60;
  same : busy_by l.rate 0 0 (arrives l.slot l.arrivals) ≡ busy_behind l.time (arrives l.slot (drop l.arrival-index l.arrivals));
}
