-- Which slots are reserved, and for whom.
use Rattle.std.specs.Prelude.{ℕ, ◌-◌, ◌*◌, ◌/◌, ◌%◌, ◌==◌, nat_le, Option, Some, None, if◌then◌else◌}
use Rattle.slot_rule.specs.declared.constants.TheConstants.{PERIOD_TICKS}
use Rattle.slot_rule.specs.declared.sent.Sent.{Sent}
use Rattle.slot_rule.specs.declared.sent.Sent.TheVariants.{Pat, Pmt, Pcr}

-- slots after which the timetable begins again, where a slot lasts this many ticks
abbrev pub period : ℕ → ℕ
period slot = PERIOD_TICKS / slot

-- what a slot at this offset within the period is reserved for: the PAT, then the PMTs, then the PCRs
abbrev pub reserved_at : (programs offset : ℕ) → Option Sent
reserved_at programs offset =
    if offset == 0 then Some Pat
    else if nat_le offset programs then Some (Pmt (offset - 1))
    else if nat_le offset (2 * programs) then Some (Pcr (offset - programs - 1))
    else None

-- what slot n is reserved for; none where it is free
abbrev pub reserved : (slot programs n : ℕ) → Option Sent
reserved slot programs n = reserved_at programs (n % period slot)
