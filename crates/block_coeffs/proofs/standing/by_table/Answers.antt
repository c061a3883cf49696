use Rattle.block_coeffs.proofs.Symbols.{coefficients-is}
use Rattle.block_coeffs.proofs.Pairs.{past-found, unsigned-found}
use Rattle.block_coeffs.proofs.standing.by_table.Goals as goal

pub returns-then-place-run : goal.returns-then-place-run
returns-then-place-run c = λ table tests no_end no_escape b.
    past-found (coefficients-is table tests) c.args.place c.args.window c.args.window.within c.args.symbol c.args.len c.from-run.result no_end no_escape b c.from-run.ensures c.if-place-run.true

pub returns-then-len-window : goal.returns-then-len-window
returns-then-len-window c = λ table tests no_end no_escape b.
    unsigned-found (coefficients-is table tests) c.args.place c.args.window c.args.window.within c.args.symbol c.args.len c.from-run.result no_end no_escape b c.from-run.ensures
    c.if-place-run.false c.if-len-window.true
