use Rattle.slot_rule.proofs.ListedLaws.{Listed}
use Rattle.slot_rule.proofs.schedules.schedule_of.Given as goal

abbrev pub invariant-loop-n : goal.invariant-loop-n
invariant-loop-n l = Listed l.table l.choice l.n l.run l.rows
