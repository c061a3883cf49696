use Rattle.std.proofs.Common.{◌≡◌, ℕ, ◌+◌, ◌-◌, ◌≤◌, List, ◌++◌, length, take, None}
use Rattle.es_units.specs.UnitCutter.{HasCut, ended_of}
use Rattle.es_units.proofs.unit_cutter.UnitCutter.push.Given as goal

abbrev pub invariant-loop-count : goal.invariant-loop-count
invariant-loop-count l = record {
  within : l.count ≤ length l.piece;
  none : l.count ≡ 0 → l.self.ended ≡ None;
  pushed : l.self.pushed ≡ l.fn.self.pushed + l.count;
  most : l.self.most ≡ l.fn.self.most;
  cut : (pushed : List ℕ) (given : List (ℕ × ℕ)) → HasCut pushed given l.fn.self → HasCut (pushed ++ take l.count l.piece) (given ++ ended_of l.self) l.self;
}

abbrev pub decreases-loop-count : goal.decreases-loop-count
decreases-loop-count l = length l.piece - l.count
