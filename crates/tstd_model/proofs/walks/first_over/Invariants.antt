use Rattle.std.proofs.Common.{◌≡◌, length}
use Rattle.tstd_model.specs.Private.Scans.{first_over}
use Rattle.tstd_model.proofs.walks.first_over.Given as goal

abbrev pub invariant-bytes : goal.invariant-bytes
invariant-bytes g l =
    first_over (g.I.Instants.left l.later) (g.O.Instants.left l.outs) ≡ first_over (g.I.Instants.left l.initial.later) (g.O.Instants.left l.initial.outs)

abbrev pub decreases-bytes : goal.decreases-bytes
decreases-bytes g l = length (g.I.Instants.left l.later)
