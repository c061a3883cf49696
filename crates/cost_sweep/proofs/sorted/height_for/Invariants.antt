use Rattle.std.proofs.Common.{◌≡◌, ◌+◌, ◌-◌, ◌^◌, ◌≤◌}
use Rattle.cost_sweep.proofs.sorted.height_for.Given as goal

abbrev pub invariant-loop-room : goal.invariant-loop-room
invariant-loop-room l = record {
  power : l.room ≡ 2 ^ l.height;
  some : 1 ≤ l.room;
  few : l.height ≤ 39;
}

abbrev pub decreases-loop-room : goal.decreases-loop-room
decreases-loop-room l = (l.places + 1) - l.room
