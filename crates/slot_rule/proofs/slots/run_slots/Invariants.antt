use Rattle.std.proofs.Common.{◌-◌, ◌≤◌}
use Rattle.slot_rule.specs.Private.Runs.{Reached, Waits}
use Rattle.slot_rule.proofs.slots.run_slots.Given as goal

abbrev pub invariant-loop-n : goal.invariant-loop-n
invariant-loop-n l = record { from : l.first ≤ l.n; upto : l.n ≤ l.end; reached : Reached l.table l.choice l.n l.run; waits : Waits l.fn.run → Waits l.run }

abbrev pub decreases-loop-n : goal.decreases-loop-n
decreases-loop-n l = l.end - l.n
