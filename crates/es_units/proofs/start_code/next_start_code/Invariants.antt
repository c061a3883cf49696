use Rattle.std.proofs.Common.{◌≡◌, ℕ, false, ◌<◌, ◌≤◌, length, ◌-◌}
use Rattle.es_units.specs.StartCodes.{is_start_code_at}
use Rattle.es_units.proofs.start_code.next_start_code.Given as goal

abbrev pub invariant-loop-at : goal.invariant-loop-at
invariant-loop-at l = record {
  begun : l.from ≤ l.at;
  within : l.at ≤ length l.es;
  passed : (at : ℕ) → l.from ≤ at → at < l.at → is_start_code_at l.es at ≡ false;
}

abbrev pub decreases-loop-at : goal.decreases-loop-at
decreases-loop-at l = length l.es - l.at
