use Rattle.std.proofs.Common.{◌≤◌, ◌^◌, get_or, sym, arith}
use Rattle.impossible_proof.specs.Private.Needs.{packets_in}
use Rattle.impossible_proof.specs.Private.Scan.{nothing}
use Rattle.impossible_proof.proofs.Scanned.{need_in-more, need_in-start, packets_in-small}
use Rattle.impossible_proof.proofs.needs.needed.Goals as goal

pub loop-need-init : goal.loop-need-init
loop-need-init c = record { sum_is = sym (need_in-start c.args.from c.args.due c.args.needs.now); small = omega arith }

pub overflow_add-total : goal.overflow_add-total
overflow_add-total c =
    let needs = c.args.needs.now in
    let i = c.loop-need.need-index in
    let own : packets_in c.args.from c.args.due (get_or needs i nothing) ≤ 2 ^ 15 =
    packets_in-small c.args.from c.args.due (get_or needs i nothing) (c.requires.small i nothing c.loop-need-test.true) in
    omega (arith, own, c.needed_within-total.ensures, c.requires.few, c.loop-need.invariant.small)

pub loop-need-preserved : goal.loop-need-preserved
loop-need-preserved c =
    let needs = c.args.needs.now in
    let i = c.loop-need.need-index in
    let own : packets_in c.args.from c.args.due (get_or needs i nothing) ≤ 2 ^ 15 =
    packets_in-small c.args.from c.args.due (get_or needs i nothing) (c.requires.small i nothing c.loop-need-test.true) in
    let next = need_in-more c.args.from c.args.due needs i nothing c.loop-need-test.true in
    record {
      sum_is = omega (arith, next, c.needed_within-total.ensures, c.loop-need.invariant.sum_is);
      small = omega (arith, own, c.needed_within-total.ensures, c.loop-need.invariant.small);
    }
