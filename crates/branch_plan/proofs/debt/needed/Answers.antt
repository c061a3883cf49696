use Rattle.std.proofs.Common.{◌*◌, ◌≤◌, arith}
use Rattle.branch_plan.proofs.Debts.{rounds_left}
use Rattle.branch_plan.proofs.debt.needed.Goals as goal

pub returns-clause-within : goal.returns-clause-within
returns-clause-within c =
    let debt = c.args.debt in
    let owing = c.args.owing.now in
    rounds_left debt.changes debt.evaluations debt.start owing.known.distortion c.rounds_owed.result owing.left owing.alone c.if-debt-eq0.false
    (c.is_for_all.ensures.no c.if-is_for_all.false) c.rounds_owed.ensures.least c.requires.pays

pub overflow_mul-result-2 : goal.overflow_mul-result-2
overflow_mul-result-2 c =
    let debt = c.args.debt in
    let owing = c.args.owing.now in
    let within : c.rounds_owed.result * debt.changes ≤ owing.left =
    rounds_left debt.changes debt.evaluations debt.start owing.known.distortion c.rounds_owed.result owing.left owing.alone c.if-debt-eq0.false
    (c.is_for_all.ensures.no c.if-is_for_all.false) c.rounds_owed.ensures.least c.requires.pays in
    omega (arith, within, c.from-left.ensures, c.from-left.type_inv)
