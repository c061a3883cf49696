use Rattle.std.proofs.Common.{◌≡◌, ◌≢◌, ◌↔◌, ℕ, List, Err, subst}
use Rattle.slot_rule.specs.declared.schedules.ScheduleFault.TheVariants.{Missed, OutOfMemory}
use Rattle.slot_rule.specs.declared.sent.Miss.{Miss}
use Rattle.slot_rule.specs.Schedule.{IsFirstMiss}
use Rattle.slot_rule.proofs.schedules.schedule.Goals as goal

pub returns-clause-missed : goal.returns-clause-missed
returns-clause-missed c =
    subst (λ (choice : List ℕ). c.schedule_of.result ≢ Err OutOfMemory → (miss : Miss) → (c.schedule_of.result ≡ Err (Missed miss)) ↔ IsFirstMiss c.args.table.now choice miss)
    c.as_slice.ensures c.schedule_of.ensures.missed
