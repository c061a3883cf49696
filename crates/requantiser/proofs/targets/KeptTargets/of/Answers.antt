use Rattle.std.proofs.Common.{◌≡◌, ◌<◌, ◌∙◌, ℕ, Bool, length, get_or, ap, arith}
use Rattle.quant_math.specs.Scales.{quantiser_scale}
use Rattle.requantiser.specs.Private.Walk.{mapped_code}
use Rattle.requantiser.proofs.targets.KeptTargets.of.Goals as goal

pub returns-then-is_of-clause-codes : goal.returns-then-is_of-clause-codes
returns-then-is_of-clause-codes c = λ k below.
    let kept = c.args.self.now in
    let is = c.is_of.ensures in
    let yes = c.if-is_of.true in
    let within : k < kept.count = omega (arith, below, is.count yes) in
    kept.codes k within ∙ ap (λ (q : Bool). mapped_code q (get_or kept.ratios k 0) kept.code) (is.q_scale_type yes)
    ∙ ap (λ (m : ℕ). mapped_code c.args.q_scale_type m kept.code) (is.ratios yes k below) ∙ ap (λ (n : ℕ). mapped_code c.args.q_scale_type (get_or c.args.ratios.now k 0) n) (is.code yes)

pub returns-then-is_of-clause-scales : goal.returns-then-is_of-clause-scales
returns-then-is_of-clause-scales c = λ k below.
    c.args.self.now.scales k below ∙ ap (λ (q : Bool). quantiser_scale q (get_or c.args.self.now.targets.codes k 0)) (c.is_of.ensures.q_scale_type c.if-is_of.true)
