use Rattle.branch_plan.proofs.Debts.{alone_paid, rounds_paid, unfailed}
use Rattle.branch_plan.proofs.owed.after_owed.Goals as goal

pub returns-then-alone-clause-alone : goal.returns-then-alone-clause-alone
returns-then-alone-clause-alone c = λ enough. c.requires.owing.alone c.if-alone.true

pub returns-then-alone-clause-rounds : goal.returns-then-alone-clause-rounds
returns-then-alone-clause-rounds c = λ changed some helps. absurd (c.requires.owing.alone c.if-alone.true changed helps)

pub returns-else-found-clause-alone : goal.returns-else-found-clause-alone
returns-else-found-clause-alone c =
    let debt = c.args.debt in
    alone_paid c.args.table.now debt.changes debt.evaluations c.args.owing.left c.after_changes.result.choice c.requires.debt.changes c.requires.owing.pays.for_all
    c.after_changes.ensures.alone

pub returns-else-found-clause-rounds : goal.returns-else-found-clause-rounds
returns-else-found-clause-rounds c =
    let table = c.args.table.now in
    let debt = c.args.debt in
    let owing = c.args.owing in
    let known = c.after_changes.result in
    rounds_paid table debt.changes debt.evaluations owing.left debt.start owing.known.distortion known.distortion known.choice c.requires.debt.changes
    (unfailed table debt owing c.if-alone.false c.requires.owing) c.after_changes.ensures.alone c.after_changes.ensures.rounds
