use Rattle.std.proofs.Common.{refl, subst}
use Rattle.version_table.specs.declared.table.Table.{Table}
use Rattle.slot_rule.specs.Schedule.{IsScheduled}
use Rattle.branch_plan.proofs.Premises.{no_worse, smallest_scheduled}
use Rattle.branch_plan.proofs.known.best_premise.Goals as goal

pub returns-in_ok-best_level-in-None-clause-no_worse : goal.returns-in_ok-best_level-in-None-clause-no_worse
returns-in_ok-best_level-in-None-clause-no_worse c =
    no_worse c.args.table.now c.in_ok-choice.choice c.distortion_of-distortion.result c.in_ok-best_level-in-None.field-0.distortion c.requires.valid c.in_ok-choice.ensures.smallest
    c.distortion_of-distortion.ensures c.in_ok-best_level-in-None.ensures.start c.in_ok-best_level-in-None.ensures.levels

pub returns-in_ok-best_level-in-None-clause-possible : goal.returns-in_ok-best_level-in-None-clause-possible
returns-in_ok-best_level-in-None-clause-possible c =
    smallest_scheduled c.args.table.now c.in_ok-choice.choice c.in_ok-choice.ensures.smallest
    (subst (λ (t : Table). IsScheduled t c.in_ok-choice.choice) c.requires.run (c.in-None.ensures.scheduled.0 refl))
