use Rattle.std.proofs.Common.{◌≡◌, drop}
use Rattle.tstd_model.proofs.walks.without_first.Given as goal

abbrev pub invariant-loop-past : goal.invariant-loop-past
invariant-loop-past g l = g.I.Instants.left l.instants ≡ drop l._past (g.I.Instants.left l.initial.instants)
