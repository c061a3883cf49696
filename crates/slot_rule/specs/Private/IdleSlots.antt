-- How the code ends a list of slots, once all packets are sent; no public clause cites these.
use Rattle.std.specs.Prelude.{◌≡◌, ℕ, zero, suc, ◌+◌, ◌*◌, ◌/◌, List, [], ◌∷◌, ◌++◌, unwrap_or}
use Rattle.slot_rule.specs.declared.sent.Sent.{Sent}
use Rattle.slot_rule.specs.declared.sent.Sent.TheVariants.{Null}
use Rattle.slot_rule.specs.declared.slot_list.SlotList.{SlotList}
use Rattle.slot_rule.specs.Timetable.{period, reserved}

-- what stands in slot n once all packets are sent
abbrev pub idle_sent : (slot programs n : ℕ) → Sent
idle_sent slot programs n = unwrap_or (reserved slot programs n) Null

-- so many slots from the first on, once all packets are sent
abbrev pub idle_slots : (slot programs first count : ℕ) → List Sent
idle_slots slot programs first zero = []
idle_slots slot programs first (suc count) = idle_slots slot programs first count ++ idle_sent slot programs (first + count) ∷ []

-- these slots, of which the last has this number, and idle ones up to the end of the period
pub record FillsPeriod (slot programs last : ℕ) (rows : List Sent) (list : SlotList) : Type 0 where
  pub whole : list.slots ≡ (last / period slot + 1) * period slot
  pub idle : ℕ
  pub ends : list.slots ≡ last + 1 + idle
  pub rows_are : list.rows ≡ rows ++ idle_slots slot programs (last + 1) idle
