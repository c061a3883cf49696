use Rattle.std.proofs.Common.{◌+◌, ◌≤◌, ◌++◌, replicate, ◌∙◌, subst, arith}
use Rattle.tstd_model.specs.declared.passing.Wanted.TheVariants.{Payload}
use Rattle.tstd_model.specs.Private.Keeps.{HasPassed}
use Rattle.tstd_model.proofs.WatchLaws.{passed-behind, passed-come}
use Rattle.tstd_model.proofs.leave_queue.LeaveQueue.has_room.Goals as goal

pub returns : goal.returns
returns c = λ yes slot later lows first_is keeps.
    let packet = c.args.packet.now in
    let passed = c.pass-passed.result in
    let old = c.args.self.now in
    let new = replicate c.pass-passed.new.run.count c.pass-passed.new.run.at ++ c.pass-passed.new.runs in
    let has : HasPassed passed old new = subst (λ l. HasPassed passed l new) c.self.view_is c.pass-passed.ensures.has in
    let by : passed.last ≤ c.args.first + 0 = omega (arith, (c.are_by.ensures yes).1) in
    passed-come Payload slot 0 packet passed (old ++ lows) (new ++ lows) later c.requires (passed-behind passed old new lows has)
    ((c.are_by.ensures yes).0 ∙ c.count-count.ensures.value) (subst (λ n. passed.last ≤ n + 0) first_is by) keeps
