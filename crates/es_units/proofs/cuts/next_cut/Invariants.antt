use Rattle.std.proofs.Common.{◌≡◌, ℕ, false, ◌<◌, ◌≤◌, length, ◌-◌}
use Rattle.es_units.specs.Units.{is_behind_slice, is_unit_cut}
use Rattle.es_units.proofs.cuts.next_cut.Given as goal

abbrev pub invariant-loop-code : goal.invariant-loop-code
invariant-loop-code l = record {
  begun : l.from ≤ l.at;
  within : l.at ≤ length l.es;
  state : l.behind_slice ≡ is_behind_slice l.es l.at;
  passed : (at : ℕ) → l.from ≤ at → at < l.at → is_unit_cut l.es at ≡ false;
}

abbrev pub decreases-loop-code : goal.decreases-loop-code
decreases-loop-code l = length l.es - l.at
