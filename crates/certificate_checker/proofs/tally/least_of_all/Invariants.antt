use Rattle.std.proofs.Common.{◌≡◌, [], take, sum_by}
use Rattle.certificate_checker.specs.Shown.{unfixed}
use Rattle.certificate_checker.proofs.OrderCosts.{cost_of_number}
use Rattle.certificate_checker.proofs.tally.least_of_all.Given as goal

abbrev pub invariant-loop-at : goal.invariant-loop-at
invariant-loop-at l = l.total ≡ sum_by (λ at. cost_of_number l.table [] (unfixed l.table) at.unit) (take l.at-index l.order)
