-- What is reported of slots.
use Rattle.std.specs.Prelude.{ℕ, List, [], ◌∷◌, true, false, Some, None}
use Rattle.job_report.specs.declared.report.SlotVerdict.{SlotVerdict}
use Rattle.rate_fit.specs.declared.verdict.Verdict.{Verdict}
use Rattle.rate_fit.specs.declared.verdict.Verdict.TheVariants.{Scheduled, Missed, Limit}

-- what is reported of a slot by its verdict
abbrev pub slot_report : (slot : ℕ) → Verdict → SlotVerdict
slot_report slot Scheduled = record { slot = slot; limit = false; miss = None }
slot_report slot (Missed miss) =
    record { slot = slot; limit = false; miss = Some (record { due = miss.due; packet_slot = miss.slot; stream = miss.stream; unit = miss.unit }) }
slot_report slot Limit = record { slot = slot; limit = true; miss = None }

-- of each of some slots, in order
abbrev pub slot_reports : (slots : List ℕ) → List Verdict → List SlotVerdict
slot_reports (slot ∷ slots) (verdict ∷ verdicts) = slot_report slot verdict ∷ slot_reports slots verdicts
slot_reports slots verdicts = []
