use Rattle.std.proofs.Common.{rules, ◌≡◌, length, refl, subst}
use Rattle.certificate_checker.specs.declared.path.Next.{Next}
use Rattle.certificate_checker.specs.declared.path.Next.TheVariants.{Needed, Whole}
use Rattle.certificate_checker.specs.Private.Paths.{IsTaken}
use Rattle.certificate_checker.proofs.Nodes.{missing_in, one_more, whole_shown, wrong_in}
use Rattle.certificate_checker.proofs.Steps.{keeps_both}
use Rattle.certificate_checker.proofs.Told.{tally_room_both}
use Rattle.certificate_checker.proofs.walk.walk.Goals as goal

pub returns-in-Ok-Whole-clause-shown : goal.returns-in-Ok-Whole-clause-shown
returns-in-Ok-Whole-clause-shown c =
    let table = c.args.table.now in
    let node = c.index-nodes-at.result in
    let same : c.in-Ok-Whole.field-0 ≡ Whole c.in-Ok-Whole.bound =
    let is = c.in-Ok-Whole.field-0-is in first_of (cc, search rules) in
    let taken = subst (λ (n : Next). IsTaken table c.loop-at.path c.take_node.new.path node n) same c.in-Ok-Whole.ensures.next in
    whole_shown table c.args.nodes.now c.loop-at.path c.take_node.new.path c.loop-at.at node c.in-Ok-Whole.bound c.loop-at-test.true c.index-nodes-at.is c.loop-at.invariant.ahead taken

pub returns-in-Err-clause-fault : goal.returns-in-Err-clause-fault
returns-in-Err-clause-fault c =
    wrong_in c.args.table.now c.args.nodes.now c.loop-at.path c.loop-at.at c.index-nodes-at.result c.in-Err.why c.loop-at-test.true c.index-nodes-at.is c.loop-at.invariant.ahead
    c.in-Err.ensures.wrong

pub loop-at-preserved : goal.loop-at-preserved
loop-at-preserved c =
    let table = c.args.table.now in
    let node = c.index-nodes-at.result in
    let same : c.in-Ok-Needed.field-0 ≡ Needed =
    let is = c.in-Ok-Needed.field-0-is in first_of (cc, search rules) in
    let taken = subst (λ (n : Next). IsTaken table c.loop-at.path c.take_node.new.path node n) same c.in-Ok-Needed.ensures.next in
    record {
      path = c.take_node.ensures.path;
      room = keeps_both c.args.path.now c.loop-at.path c.take_node.new.path c.loop-at.invariant.room c.take_node.ensures.room;
      tally = c.take_node.ensures.tally;
      tally_room = tally_room_both c.args.tally.now c.loop-at.tally c.take_node.new.tally c.loop-at.invariant.tally_room c.take_node.ensures.tally_room;
      ahead = one_more table c.args.nodes.now c.loop-at.path c.take_node.new.path c.loop-at.at node c.loop-at-test.true c.index-nodes-at.is c.loop-at.invariant.ahead taken;
    }

pub returns-clause-fault : goal.returns-clause-fault
returns-clause-fault c = missing_in c.args.table.now c.args.nodes.now c.loop-at.path c.loop-at.at (length c.args.nodes.now) c.loop-at-test.false refl c.loop-at.invariant.ahead
