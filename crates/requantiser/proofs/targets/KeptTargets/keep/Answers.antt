use Rattle.std.proofs.Common.{◌≡◌, ◌<◌, ◌∙◌, ℕ, Bool, length, get_or, ap, arith}
use Rattle.quant_math.specs.Scales.{quantiser_scale}
use Rattle.requantiser.specs.Private.Walk.{mapped_code}
use Rattle.requantiser.proofs.targets.KeptTargets.keep.Goals as goal

pub returns-clause-codes : goal.returns-clause-codes
returns-clause-codes c = λ k below.
    let kept = c.made-made.result in
    let is = c.made-made.ensures in
    let within : k < kept.count = omega (arith, below, is.count) in
    kept.codes k within ∙ ap (λ (q : Bool). mapped_code q (get_or kept.ratios k 0) kept.code) is.q_scale_type
    ∙ ap (λ (m : ℕ). mapped_code c.args.q_scale_type m kept.code) (is.ratios k below) ∙ ap (λ (n : ℕ). mapped_code c.args.q_scale_type (get_or c.args.ratios.now k 0) n) is.code

pub returns-clause-scales : goal.returns-clause-scales
returns-clause-scales c = λ k below.
    c.made-made.result.scales k below ∙ ap (λ (q : Bool). quantiser_scale q (get_or c.made-made.result.targets.codes k 0)) c.made-made.ensures.q_scale_type
