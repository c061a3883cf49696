use Rattle.std.proofs.Common.{◌≡◌, ℕ, ◌+◌, ◌++◌}
use Rattle.slot_rule.specs.Private.IdleSlots.{idle_slots}
use Rattle.slot_rule.proofs.slot_list.SlotList.fill.Given as goal

abbrev pub invariant-loop-n : goal.invariant-loop-n
invariant-loop-n l =
    (idle : ℕ) × (l.n ≡ l.last + 1 + idle) × (l.rows ≡ l.initial.rows ++ idle_slots l.timetable.slot l.timetable.programs (l.last + 1) idle)
