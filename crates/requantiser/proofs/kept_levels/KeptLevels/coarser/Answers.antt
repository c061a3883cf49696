use Rattle.std.proofs.Common.{◌∙◌, ℤ, w16, SFits, rules, ap, arith}
use Rattle.std.proofs.lemmas.Int.{to_z-of_z}
use Rattle.quant_math.specs.Levels.{coarser_level}
use Rattle.requantiser.proofs.kept_levels.KeptLevels.coarser.Goals as goal

pub returns : goal.returns
returns c =
    let coefficient = c.args.coefficient in
    let rescaling = c.args.rescaling in
    let kept = c.kept_of-kept in
    let fits : SFits w16 kept.result.now.made = search rules in
    to_z-of_z w16 kept.result.now.made fits
    ∙ kept.result.now.right coefficient.weight rescaling.from rescaling.to rescaling.intra (omega arith) (omega (arith, rescaling.from_range)) (omega (arith, rescaling.to_range.1)) kept.ensures.number
    ∙ ap (λ (l : ℤ). coarser_level l coefficient.weight rescaling.from rescaling.to rescaling.intra) kept.ensures.level
