use Rattle.std.proofs.Common.{ℕ, List, subst}
use Rattle.slot_rule.specs.Private.Checkpoints.{TellsUpto}
use Rattle.slot_rule.proofs.RunTo.{answer_before, answer_none}
use Rattle.slot_rule.proofs.slot_run.SlotRun.run_to.Goals as goal

pub returns-clause-none : goal.returns-clause-none
returns-clause-none c =
    answer_none c.args.self.now.table c.args.choice.now c.args.end c.run_of.result
    (subst (λ (choice : List ℕ). TellsUpto c.args.self.now.table choice c.args.end c.run_of.result) c.as_slice.ensures c.run_of.ensures.tells)

pub returns-clause-missed : goal.returns-clause-missed
returns-clause-missed c =
    answer_before c.args.self.now.table c.args.choice.now c.args.end c.run_of.result
    (subst (λ (choice : List ℕ). TellsUpto c.args.self.now.table choice c.args.end c.run_of.result) c.as_slice.ensures c.run_of.ensures.tells)
