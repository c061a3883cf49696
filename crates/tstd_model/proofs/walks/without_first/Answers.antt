use Rattle.std.proofs.Common.{sym, ◌∙◌, arith}
use Rattle.tstd_model.proofs.CursorSteps.{drop-one_more, drop-past}
use Rattle.tstd_model.proofs.walks.without_first.Goals as goal

pub loop-past-preserved : goal.loop-past-preserved
loop-past-preserved g c = drop-one_more c.loop-past._past (g.I.Instants.left c.args.instants) (g.I.Instants.left c.next.new.self) c.in-Some._instant (sym c.loop-past.invariant ∙ c.in-Some.ensures)

pub returns-in_default : goal.returns-in_default
returns-in_default g c =
    c.in_default.ensures.1 ∙ drop-past c.loop-past._past c.args.count (g.I.Instants.left c.args.instants) (sym c.loop-past.invariant ∙ c.in_default.ensures.0) (omega arith)
