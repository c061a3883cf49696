use Rattle.std.proofs.Common.{◌≡◌, ◌+◌, ◌-◌, ◌*◌, ◌<◌, ◌≤◌, get_or}
use Rattle.sum_tree.specs.Nodes.{sum_from}
use Rattle.certificate_checker.proofs.sums.PlaceSums.between.Given as goal

-- what is summed, and the sum from one node up to the other
abbrev pub invariant-loop-low : goal.invariant-loop-low
invariant-loop-low l = record {
  some : l.low ≤ l.high;
  least : l.low < l.high → 1 ≤ l.low;
  within : l.high ≤ 2 * l.self.count;
  sum : l.total + sum_from (λ j. get_or l.self.nodes.items j 0) l.low (l.high - l.low) ≡ sum_from (λ j. get_or l.self.nodes.items j 0) (l.self.count + l.from) (l.end - l.from);
}

abbrev pub decreases-loop-low : goal.decreases-loop-low
decreases-loop-low l = l.high - l.low
