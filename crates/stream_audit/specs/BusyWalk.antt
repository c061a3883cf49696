-- How long a server is busy on end, byte by byte.
use Rattle.std.specs.Prelude.{ℕ, ◌+◌, nat_le, List, [], ◌∷◌, Option, Some, None, if◌then◌else◌}
use Rattle.stream_constants.specs.declared.clock.TheConstants.{SUBTICKS_PER_SECOND}
use Rattle.stream_audit.specs.declared.busy_time.BusyTime.{BusyTime}

-- The first instant at which it was busy for a second, where it is busy from one instant on until another, and bytes come at these later instants: one that comes
-- while it is busy makes that longer, and one that comes later begins anew.
unfoldable pub busy_by : (subticks from until : ℕ) → (comes : List ℕ) → Option ℕ
busy_by subticks from until [] = if nat_le (from + SUBTICKS_PER_SECOND) until then Some (from + SUBTICKS_PER_SECOND) else None
busy_by subticks from until (comes ∷ later) =
    if nat_le (from + SUBTICKS_PER_SECOND) until then Some (from + SUBTICKS_PER_SECOND)
    else if nat_le comes until then busy_by subticks from (until + subticks) later
    else busy_by subticks comes (comes + subticks) later

-- the same, from where a busy time stands
abbrev pub busy_behind : BusyTime → List ℕ → Option ℕ
busy_behind time comes = busy_by time.subticks time.from time.until comes
