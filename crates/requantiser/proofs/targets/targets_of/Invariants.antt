use Rattle.std.proofs.Common.{◌≡◌, ◌<◌, ◌≤◌, ℕ, length, get_or}
use Rattle.std.specs.Prelude.{slice_index}
use Rattle.quant_math.specs.Scales.{IsCode, quantiser_scale}
use Rattle.requantiser.specs.Private.Walk.{mapped_code}
use Rattle.requantiser.proofs.targets.targets_of.Given as goal

-- all are codes with their scales, and the first ones are mapped
abbrev pub invariant-loop-k : goal.invariant-loop-k
invariant-loop-k l = record {
  codes : length l.codes ≡ 8;
  scales : length l.scales ≡ 8;
  all : (j : ℕ) → j < 8 → IsCode (get_or l.codes j 0) × (get_or l.scales j 0 ≡ quantiser_scale l.q_scale_type (get_or l.codes j 0)) × (1 ≤ get_or l.scales j 0) × (get_or l.scales j 0 ≤ 112);
  each : (j : ℕ) (d : ℕ) → j < l.k → get_or l.codes j d ≡ mapped_code l.q_scale_type (slice_index l.ratios j) l.code;
}
