use Rattle.std.proofs.Common.{◌≡◌, ℕ, false, ◌<◌, ◌≤◌, length, ◌-◌}
use Rattle.es_units.specs.StartCodes.{has_code, is_sequence_header}
use Rattle.es_units.proofs.cuts.find_sequence.Given as goal

abbrev pub invariant-loop-code : goal.invariant-loop-code
invariant-loop-code l = record {
  within : l.from ≤ length l.es;
  passed : (at : ℕ) → at < l.from → has_code is_sequence_header l.es at ≡ false;
}

abbrev pub decreases-loop-code : goal.decreases-loop-code
decreases-loop-code l = length l.es - l.from
