use Rattle.std.proofs.Common.{◌≡◌, ◌-◌, length}
use Rattle.certificate_checker.specs.Private.Prices.{HasPassed}
use Rattle.certificate_checker.proofs.prices.Passing.before.Given as goal

-- what has passed has times before this one
abbrev pub invariant-loop-self : goal.invariant-loop-self
invariant-loop-self l = record {
  passed : HasPassed l.time l.self;
  same : l.self.dated.items ≡ l.fn.self.dated.items;
}

abbrev pub decreases-loop-self : goal.decreases-loop-self
decreases-loop-self l = length l.self.dated.items - l.self.place
