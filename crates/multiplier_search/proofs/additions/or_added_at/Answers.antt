use Rattle.std.proofs.Common.{ℕ, ◌≢◌, All, sym, subst}
use Rattle.dual_bounds.specs.declared.windows.Window.{Window}
use Rattle.multiplier_search.proofs.BestAddition.{best-more, best-same}
use Rattle.multiplier_search.proofs.additions.or_added_at.Goals as goal

pub returns-then-end_at : goal.returns-then-end_at
returns-then-end_at c = λ fixed dues are reached is.
    best-same c.args.table.now fixed c.args.start.now dues c.args.due c.args.so_far (c.end_at.ensures.yes c.if-end_at.true) is

pub returns : goal.returns
returns c = λ fixed dues are reached is.
    let start = c.args.start.now in
    let own = c.added_at.result in
    let free : All (λ (w : Window). w.due ≢ own.due) start =
    subst (λ (n : ℕ). All (λ (w : Window). w.due ≢ n) start) (sym c.added_at.ensures.due) (c.end_at.ensures.no c.if-end_at.false) in
    best-more c.args.table.now fixed start dues c.args.due own c.greater_of.result (record { lambda = c.added_at.ensures.lambda; free = free })
    (c.added_at.ensures.value fixed start are reached) c.added_at.ensures.due
    (λ lambda limit. c.added_at.ensures.best fixed start lambda are reached limit) c.args.so_far is c.greater_of.ensures.one c.greater_of.ensures.first c.greater_of.ensures.second
