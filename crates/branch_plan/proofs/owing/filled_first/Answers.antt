use Rattle.branch_plan.proofs.owing.filled_first.Goals as goal

pub returns-clause-owing : goal.returns-clause-owing
returns-clause-owing c =
    c.with_found.ensures.owing c.args.table.now c.args.debt c.after_first_changes-ready.ensures.owing c.in_ok-filled.ensures.known
    (c.free_of-free.ensures.pays c.in_ok-filled.filled.used c.in_ok-filled.ensures.used)
