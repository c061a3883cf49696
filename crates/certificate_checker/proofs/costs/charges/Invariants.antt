use Rattle.std.proofs.Common.{◌≡◌, length, take}
use Rattle.certificate_checker.specs.Private.FixedCosts.{charged_at}
use Rattle.sum_tree.specs.Nodes.{sum_from}
use Rattle.certificate_checker.proofs.costs.charges.Given as goal

-- what the windows before this one charge
abbrev pub invariant-loop-window : goal.invariant-loop-window
invariant-loop-window l = l.total ≡ sum_from (charged_at l.tally (take l.window-index l.windows)) 0 (length l.tally.order.items)
