use Rattle.std.proofs.Common.{Some, None, le_refl}
use Rattle.version_table.specs.declared.limits.TheConstants.{TIME_SLOTS_MOST}
use Rattle.slot_rule.proofs.MissLaws.{Reached-first, schedule_at_end}
use Rattle.slot_rule.proofs.RuleEnd.{answer_scheduled, answer_missed}
use Rattle.slot_rule.proofs.misses.first_miss_of.Goals as goal

pub run_slots-requires-clause-reached : goal.run_slots-requires-clause-reached
run_slots-requires-clause-reached c = Reached-first c.args.table.now c.args.choice.now c.new-run.result c.new-run.ensures

pub returns-in-Missed-clause-scheduled : goal.returns-in-Missed-clause-scheduled
returns-in-Missed-clause-scheduled c = answer_scheduled c.args.table.now c.args.choice.now (Some c.in-Missed.miss) c.in-Missed.ensures.0

pub returns-in-Missed-clause-missed : goal.returns-in-Missed-clause-missed
returns-in-Missed-clause-missed c = answer_missed c.args.table.now c.args.choice.now (Some c.in-Missed.miss) c.in-Missed.ensures.0

pub returns-in-AllSent-clause-scheduled : goal.returns-in-AllSent-clause-scheduled
returns-in-AllSent-clause-scheduled c = answer_scheduled c.args.table.now c.args.choice.now None (_, c.in-AllSent.ensures.schedule)

pub returns-in-AllSent-clause-missed : goal.returns-in-AllSent-clause-missed
returns-in-AllSent-clause-missed c = answer_missed c.args.table.now c.args.choice.now None (_, c.in-AllSent.ensures.schedule)

pub returns-in-Waiting-clause-scheduled : goal.returns-in-Waiting-clause-scheduled
returns-in-Waiting-clause-scheduled c =
    answer_scheduled c.args.table.now c.args.choice.now None
    (schedule_at_end c.args.table.now c.args.choice.now c.requires.valid c.requires.fits TIME_SLOTS_MOST c.run_slots.new.run c.in-Waiting.ensures.0 (le_refl TIME_SLOTS_MOST))

pub returns-in-Waiting-clause-missed : goal.returns-in-Waiting-clause-missed
returns-in-Waiting-clause-missed c =
    answer_missed c.args.table.now c.args.choice.now None
    (schedule_at_end c.args.table.now c.args.choice.now c.requires.valid c.requires.fits TIME_SLOTS_MOST c.run_slots.new.run c.in-Waiting.ensures.0 (le_refl TIME_SLOTS_MOST))
