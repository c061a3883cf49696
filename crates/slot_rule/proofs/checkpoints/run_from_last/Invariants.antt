use Rattle.std.proofs.Common.{◌≡◌, ◌-◌, ◌*◌, ◌≤◌, length, vec_capacity, vec_len}
use Rattle.slot_rule.specs.declared.checkpoints.TheConstants.{CHECKPOINTS_MOST}
use Rattle.slot_rule.specs.SlotRun.{slots_apart}
use Rattle.slot_rule.specs.Private.Checkpoints.{AreCheckpoints, IsCheckpoint}
use Rattle.slot_rule.proofs.checkpoints.run_from_last.Given as goal

abbrev pub invariant-loop-from : goal.invariant-loop-from
invariant-loop-from l = record {
  room : vec_capacity l.fn.checkpoints ≤ vec_capacity l.checkpoints;
  some : 1 ≤ length l.checkpoints.items;
  few : vec_len l.checkpoints ≤ CHECKPOINTS_MOST;
  are : AreCheckpoints l.table l.choice l.checkpoints.items;
  from : l.from ≡ slots_apart l.table * (length l.checkpoints.items - 1);
  last : IsCheckpoint l.table l.choice l.from l.run;
}

abbrev pub decreases-loop-from : goal.decreases-loop-from
decreases-loop-from l = l.end - l.from
