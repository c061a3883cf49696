use Rattle.std.proofs.Common.{ℕ, ◌≤◌, ◌<◌, ◌*◌}
use Rattle.quant_math.specs.Scales.{quantiser_scale}
use Rattle.quant_math.proofs.scales.map_code.Given as goal

-- no code before the candidate reaches the least scale
abbrev pub invariant-loop-candidate : goal.invariant-loop-candidate
invariant-loop-candidate l = (k : ℕ) → 1 ≤ k → k < l.candidate → quantiser_scale l.q_scale_type k * 16 < l.least
