use Rattle.slot_rule.proofs.PeriodLaws.{free_later}
use Rattle.slot_rule.proofs.timetable.Timetable.free_until.Goals as goal

pub returns-clause-free : goal.returns-clause-free
returns-clause-free c m from upto free = free_later c.args.self.now.slot c.args.self.now.programs c.args.n m c.period-period.result
    c.period-period.ensures.value c.period-period.ensures.some from upto free
