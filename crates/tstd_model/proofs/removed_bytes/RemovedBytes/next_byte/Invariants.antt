use Rattle.std.proofs.Common.{◌≡◌, ◌+◌, ◌^◌, ◌<◌, ◌≤◌, ◌++◌, length, replicate, All}
use Rattle.tstd_model.specs.Private.Scans.{taken_from}
use Rattle.tstd_model.proofs.removed_bytes.RemovedBytes.next_byte.Given as goal

abbrev pub invariant-removals : goal.invariant-removals
invariant-removals l = record {
  same : replicate l.self-inside.count l.self-inside.byte ++ taken_from l.self-inside.number l.self-inside.later.now
      ≡ replicate l.initial.self-inside.count l.initial.self-inside.byte ++ taken_from l.initial.self-inside.number l.initial.self-inside.later.now;
  few : l.self-inside.number + length l.self-inside.later.now < 2 ^ 32;
  in_time : All (λ removal. removal.due ≤ 2 ^ 53) l.self-inside.later.now;
}

abbrev pub decreases-removals : goal.decreases-removals
decreases-removals l = length l.self-inside.later.now
