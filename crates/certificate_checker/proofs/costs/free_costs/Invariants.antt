use Rattle.std.proofs.Common.{◌≡◌, ℕ, ◌+◌, ◌-◌, ◌<◌, ◌≤◌, false, length, get_or}
use Rattle.certificate_checker.specs.declared.order.DueUnit.{DueUnit}
use Rattle.certificate_checker.specs.Private.Tallies.{free_cost}
use Rattle.sum_tree.specs.Nodes.{sum_from}
use Rattle.certificate_checker.specs.Private.Prices.{HasPassed}
use Rattle.certificate_checker.specs.Private.Tallies.{is_out}
use Rattle.certificate_checker.proofs.costs.free_costs.Given as goal

-- the free units before this place are summed; no lambda has passed that the next ones want
abbrev pub invariant-loop-place : goal.invariant-loop-place
invariant-loop-place l = record {
  some : 1 ≤ l.place;
  within : l.place ≤ length l.tally.order.items + 1;
  in_row : is_out l.tally.order.items l.fixed l.place ≡ false;
  total : l.total ≡ sum_from (free_cost l.table l.tally.order.items l.fixed l.windows) 0 (l.place - 1);
  rises_same : l.rises.dated.items ≡ l.initial.rises.dated.items;
  falls_same : l.falls.dated.items ≡ l.initial.falls.dated.items;
  rises : (k : ℕ) (d : DueUnit) → l.place - 1 ≤ k → k < length l.tally.order.items → HasPassed ((get_or l.tally.order.items k d).due + 1) l.rises;
  falls : (k : ℕ) (d : DueUnit) → l.place - 1 ≤ k → k < length l.tally.order.items → HasPassed (get_or l.tally.order.items k d).due l.falls;
}

abbrev pub decreases-loop-place : goal.decreases-loop-place
decreases-loop-place l = (length l.tally.order.items + 1) - l.place
