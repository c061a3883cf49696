use Rattle.stream_audit.proofs.ClockLaws.{seen-bare, seen-more}
use Rattle.stream_audit.proofs.clock.FileClock.take.Goals as goal

pub returns-in-Some-clause-seen : goal.returns-in-Some-clause-seen
returns-in-Some-clause-seen c places seen =
    seen-more c.args.self.now.slot places c.args.place.now c.args.self.now seen c.look_at.new.self c.in-Some.pcr c.in-Some.is c.look_at.ensures.zero c.look_at.ensures.off

pub returns-in_default-clause-seen : goal.returns-in_default-clause-seen
returns-in_default-clause-seen c places seen = seen-bare c.args.self.now.slot places c.args.place.now c.args.self.now seen c.in_default.is
