use Rattle.std.proofs.Common.{◌≡◌, ◌↔◌, ℕ, List, Some, subst}
use Rattle.slot_rule.specs.declared.sent.Miss.{Miss}
use Rattle.slot_rule.specs.Schedule.{IsFirstMiss}
use Rattle.slot_rule.proofs.misses.first_miss.Goals as goal

pub returns-clause-missed : goal.returns-clause-missed
returns-clause-missed c =
    subst (λ (choice : List ℕ). (miss : Miss) → (c.first_miss_of.result ≡ Some miss) ↔ IsFirstMiss c.args.table.now choice miss) c.as_slice.ensures c.first_miss_of.ensures.missed
