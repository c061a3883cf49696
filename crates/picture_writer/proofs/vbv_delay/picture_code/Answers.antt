use Rattle.std.proofs.Common.{arith}
use Rattle.picture_writer.proofs.PictureCodes.{scanned_none, scanned_more, scanned_found, scanned_all}
use Rattle.picture_writer.proofs.vbv_delay.picture_code.Goals as goal

pub loop-at-init : goal.loop-at-init
loop-at-init c = scanned_none c.args.unit.now

pub returns-then-is_outside_code-clause-some : goal.returns-then-is_outside_code-clause-some
returns-then-is_outside_code-clause-some c =
    let code = c.is_outside_code.ensures.yes c.if-is_outside_code.true in
    scanned_found c.args.unit.now c.loop-at.at c.loop-at.outside c.behind_group-outside.result c.loop-at.invariant c.behind_group-outside.ensures code.0 code.1

pub loop-at-preserved : goal.loop-at-preserved
loop-at-preserved c =
    scanned_more c.args.unit.now c.loop-at.at c.loop-at.outside c.behind_group-outside.result c.loop-at.invariant c.behind_group-outside.ensures
    (c.is_outside_code.ensures.no c.if-is_outside_code.false)

pub returns-clause-none : goal.returns-clause-none
returns-clause-none c = λ at code. scanned_all c.args.unit.now c.loop-at.at c.loop-at.outside at c.loop-at.invariant (omega (arith, c.loop-at-test.false)) code
