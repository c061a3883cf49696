use Rattle.std.proofs.Common.{◌≡◌, take, sum_by}
use Rattle.certificate_checker.proofs.OrderCosts.{distortion_of_number}
use Rattle.certificate_checker.proofs.costs.distortion_of_all.Given as goal

abbrev pub invariant-loop-at : goal.invariant-loop-at
invariant-loop-at l = l.total ≡ sum_by (λ at. distortion_of_number l.table l.choice at.unit) (take l.at-index l.order)
