use Rattle.std.proofs.Common.{◌≡◌, length, eqb-true, sym, ◌∙◌}
use Rattle.certificate_checker.proofs.FreeLeast.{without_windows}
use Rattle.certificate_checker.proofs.costs.least_of_free.Goals as goal

pub returns-then-is_empty : goal.returns-then-is_empty
returns-then-is_empty c =
    let tally = c.args.tally.now in
    without_windows c.args.table.now tally.order.items c.args.fixed.now c.args.windows.now tally.free_least c.requires.tally.1.least
    (eqb-true (length c.args.windows.now) 0 (sym c.is_empty.ensures ∙ c.if-is_empty.true))
