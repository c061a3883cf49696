use Rattle.std.proofs.Common.{◌≡◌, ◌^◌, ◌≤◌, map, drop}
use Rattle.tstd_model.specs.PacketBytes.{arrives}
use Rattle.stream_audit.specs.NeverEmpty.{packet_in}
use Rattle.stream_audit.specs.Private.BusyTime.{IsShort, busy_behind, busy_by}
use Rattle.stream_audit.proofs.busy_time.first_full.Given as goal

abbrev pub invariant-loop-slot_no : goal.invariant-loop-slot_no
invariant-loop-slot_no l = record {
  subticks : l.time.subticks ≡ l.rate;
  short : IsShort l.time;
  from : l.time.from ≤ 2 ^ 60;
  same : busy_by l.rate 0 0 (arrives l.slot (map packet_in l.packets)) ≡ busy_behind l.time (arrives l.slot (map packet_in (drop l.slot_no-index l.packets)));
}
