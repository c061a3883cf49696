use Rattle.std.proofs.Common.{arith}
use Rattle.tstd_model.proofs.WatchLaws.{passed-moved}
use Rattle.tstd_model.proofs.move_watch.MoveWatch.take.Goals as goal

pub returns : goal.returns
returns c = λ comes.
    let old = c.args.self.now in
    let passed = c.take-room.result in
    passed-moved passed old.before c.max-2.result c.args.come c.in-Some-checked_add.at c.args.count old.rooms c.take-room.new.self comes c.take-room.ensures.has
    (omega (arith, c.take-room.ensures.few, c.if-room-count.false)) (omega (arith, c.max-2.ensures)) (omega (arith, c.max-2.ensures, c.max.ensures))
    (omega (arith, c.max-2.ensures, c.max.ensures)) (omega (arith, c.in-Some-checked_add.ensures.1, c.in-Some.ensures.1))
