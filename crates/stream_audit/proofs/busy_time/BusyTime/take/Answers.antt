use Rattle.std.proofs.Common.{◌≤◌, arith}
use Rattle.stream_audit.proofs.PacketLaws.{taken-short, taken-second}
use Rattle.stream_audit.proofs.busy_time.BusyTime.take.Goals as goal

pub returns-then-time-clause-busy : goal.returns-then-time-clause-busy
returns-then-time-clause-busy c later =
    let was = c.args.self.now in
    let time = c.at-time.result in
    let together : c.args.step ≤ time.subticks = omega (arith, c.requires.together, c.at-time.ensures.subticks) in
    taken-second was.subticks was.from was.until time.subticks time.from time.until c.args.first c.args.step c.at-time.ensures.same together c.at-time.ensures.comes later
    (omega (arith, c.if-time.true))

pub returns-else-time-clause-busy : goal.returns-else-time-clause-busy
returns-else-time-clause-busy c later =
    let was = c.args.self.now in
    let time = c.at-time.result in
    let together : c.args.step ≤ time.subticks = omega (arith, c.requires.together, c.at-time.ensures.subticks) in
    taken-short was.subticks was.from was.until time.subticks time.from time.until c.args.first c.args.step c.at-time.ensures.same together c.at-time.ensures.comes later
    (omega (arith, c.if-time.false))
