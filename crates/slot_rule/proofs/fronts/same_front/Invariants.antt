use Rattle.std.proofs.Common.{◌≡◌, ◌-◌, ◌≤◌, take}
use Rattle.slot_rule.proofs.fronts.same_front.Given as goal

abbrev pub invariant-loop-same : goal.invariant-loop-same
invariant-loop-same l = record { upto : l.same ≤ l.most; same : take l.same l.old ≡ take l.same l.new }

abbrev pub decreases-loop-same : goal.decreases-loop-same
decreases-loop-same l = l.most - l.same
