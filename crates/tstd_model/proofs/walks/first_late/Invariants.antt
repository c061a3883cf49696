use Rattle.std.proofs.Common.{◌≡◌, length}
use Rattle.tstd_model.specs.Private.Scans.{first_late}
use Rattle.tstd_model.proofs.walks.first_late.Given as goal

abbrev pub invariant-bytes : goal.invariant-bytes
invariant-bytes g l =
    first_late (g.C.Instants.left l.completes) l.removed ≡ first_late (g.C.Instants.left l.initial.completes) l.initial.removed

abbrev pub decreases-bytes : goal.decreases-bytes
decreases-bytes g l = length l.removed
