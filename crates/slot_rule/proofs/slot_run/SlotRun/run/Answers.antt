use Rattle.std.proofs.Common.{ℕ, List, Some, ap₂, subst, ◌∙◌}
use Rattle.version_table.specs.declared.limits.TheConstants.{TIME_SLOTS_MOST}
use Rattle.slot_rule.specs.SlotRun.{KeptRun}
use Rattle.slot_rule.specs.Private.Checkpoints.{TellsUpto}
use Rattle.slot_rule.proofs.RuleEnd.{answer_missed, answer_scheduled}
use Rattle.slot_rule.proofs.RunTo.{whole_answer, whole_reach}
use Rattle.slot_rule.proofs.slot_run.SlotRun.run.Goals as goal

pub returns-clause-scheduled : goal.returns-clause-scheduled
returns-clause-scheduled c =
    let table = c.args.self.now.table in
    answer_scheduled table c.args.choice.now c.run_of.result (whole_answer table c.args.choice.now c.run_of.result c.run_of.ensures.valid
    (subst (λ (choice : List ℕ). TellsUpto table choice TIME_SLOTS_MOST c.run_of.result) c.as_slice.ensures c.run_of.ensures.tells))

pub returns-clause-missed : goal.returns-clause-missed
returns-clause-missed c =
    let table = c.args.self.now.table in
    answer_missed table c.args.choice.now c.run_of.result (whole_answer table c.args.choice.now c.run_of.result c.run_of.ensures.valid
    (subst (λ (choice : List ℕ). TellsUpto table choice TIME_SLOTS_MOST c.run_of.result) c.as_slice.ensures c.run_of.ensures.tells))

pub returns-clause-keeps : goal.returns-clause-keeps
returns-clause-keeps c =
    let table = c.args.self.now.table in
    let keeps = c.run_of.ensures.keeps in
    let kept : List ℕ → ℕ → KeptRun = λ choice n. record { table = table; kept = Some choice; upto = n } in
    keeps.1 ∙ ap₂ kept c.as_slice.ensures (whole_reach table keeps.0 c.run_of.ensures.valid keeps.2)
