use Rattle.std.proofs.Common.{◌+◌, List, ℕ, ◌++◌, replicate, subst, arith}
use Rattle.tstd_model.specs.Private.Keeps.{Keeps}
use Rattle.tstd_model.proofs.WatchLaws.{left-data, left-none, runs-front}
use Rattle.tstd_model.proofs.leave_queue.LeaveQueue.leave.Goals as goal

pub returns-then-data-gt0 : goal.returns-then-data-gt0
returns-then-data-gt0 c = λ yes later before after keeps.
    let i = c.self.inside in
    let packet = c.args.packet.now in
    let at = c.args.at in
    let total = c.count-data.result + c.from.result in
    let front = replicate i.front.count i.front.at in
    let new = front ++ c.push.new.self in
    let pushed : (rest : List ℕ) → Keeps 0 0 (new ++ rest) (c.args.self.now ++ (replicate total at ++ rest)) =
    λ rest. subst (λ l. Keeps 0 0 (new ++ rest) (l ++ (replicate total at ++ rest))) c.self.view_is
    (runs-front front c.push.new.self i.later (replicate total at) rest (c.push.ensures yes rest))
    in
    left-data packet later total at c.args.self.now new before after (omega (arith, c.count-data.ensures.value, c.from.ensures))
    (omega (arith, c.count-data.ensures.value, c.if-data-gt0.true)) pushed keeps

pub returns : goal.returns
returns c = λ yes later before after keeps.
    left-none c.args.packet.now later c.args.at c.args.self.now before after (omega (arith, c.count-data.ensures.value, c.if-data-gt0.false)) (omega (arith, c.if-packet-gt0.false)) keeps
