use Rattle.branch_plan.proofs.Debts.{failed_owing, helped_owing, spent_owing}
use Rattle.branch_plan.proofs.owing.after_one.Goals as goal

pub returns-in-Better-clause-owing : goal.returns-in-Better-clause-owing
returns-in-Better-clause-owing c = λ debt few fresh owed is.
    helped_owing c.args.table.now debt c.args.owing c.in-Better.known c.in-Better.changed c.in-Better.rest few fresh owed is c.in-Better.ensures.tried

pub returns-in-Nothing-clause-owing : goal.returns-in-Nothing-clause-owing
returns-in-Nothing-clause-owing c = λ debt few fresh owed is.
    failed_owing c.args.table.now debt c.args.owing c.in-Nothing.known c.in-Nothing.rest few fresh owed is c.in-Nothing.ensures.tried

pub returns-in-Spent-clause-owing : goal.returns-in-Spent-clause-owing
returns-in-Spent-clause-owing c = λ debt few fresh owed is.
    spent_owing c.args.table.now debt c.args.owing c.in-Spent.known few fresh owed is c.in-Spent.ensures.tried
