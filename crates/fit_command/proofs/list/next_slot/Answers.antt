use Rattle.std.proofs.Common.{arith}
use Rattle.fit_command.proofs.Lists.{no_slot, stand_parts}
use Rattle.fit_command.proofs.list.next_slot.Goals as goal

pub returns-then-not-may_follow : goal.returns-then-not-may_follow
returns-then-not-may_follow c = λ slot more stand e.
    no_slot c.args.text.now c.args.before.now c.in_ok-number.behind.now c.in_ok-number.number c.in_ok-number.ensures.0 c.in_ok-number.ensures.1
    (λ may. let yes = c.may_follow.ensures.1 may in let no = c.if-not-may_follow.true in cc) slot more stand e

pub overflow_cast-result : goal.overflow_cast-result
overflow_cast-result c =
    let may = c.may_follow.ensures.0 (let is = c.if-not-may_follow.false in cc) in
    let own = (stand_parts c.args.before.now c.in_ok-number.number may).1 in
    omega (arith, own.1)
