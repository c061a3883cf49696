use Rattle.std.proofs.Common.{ℕ, ◌-◌, ◌<◌}
use Rattle.window_slots.specs.LongestSlot.{HasRoom}
use Rattle.window_slots.proofs.slots.longest_slot.Given as goal

-- no longer slot has room
abbrev pub invariant-loop-shorter : goal.invariant-loop-shorter
invariant-loop-shorter l = (less : ℕ) → less < l.shorter → HasRoom l.table l.from l.due l.packets (l.table.slot - less) → ⊥
