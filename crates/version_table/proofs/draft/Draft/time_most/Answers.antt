use Rattle.std.proofs.Common.{◌*◌, ap, sym, ◌∙◌, ℕ}
use Rattle.version_table.specs.declared.limits.TheConstants.{TIME_SLOTS_MOST}
use Rattle.version_table.proofs.DraftLines.{slot_of_units, slot_of_packets}
use Rattle.version_table.proofs.draft.Draft.time_most.Goals as goal

pub returns-clause-units : goal.returns-clause-units
returns-clause-units c = ap (λ (n : ℕ). TIME_SLOTS_MOST * n) (c.from.ensures ∙ sym (slot_of_units c.args.self.now))

pub returns-clause-packets : goal.returns-clause-packets
returns-clause-packets c = ap (λ (n : ℕ). TIME_SLOTS_MOST * n) (c.from.ensures ∙ sym (slot_of_packets c.args.self.now))
