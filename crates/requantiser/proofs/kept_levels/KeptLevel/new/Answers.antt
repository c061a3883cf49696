use Rattle.std.proofs.Common.{◌≡◌, ◌∙◌, ℤ, w16, to_z, of_z, SFits, rules, sym, ap, subst, arith}
use Rattle.std.proofs.lemmas.Int.{to_z-of_z}
use Rattle.quant_math.specs.Levels.{coarser_level}
use Rattle.requantiser.specs.Private.KeptChanges.{BecomesBy}
use Rattle.requantiser.proofs.KeptChanges.{by_change}
use Rattle.requantiser.proofs.PairSteps.{held_level}
use Rattle.requantiser.proofs.kept_levels.KeptLevel.new.Goals as goal

pub invariant_of-result : goal.invariant_of-result
invariant_of-result c =
    let level : ℤ = c.args.coefficient.level in
    let rescaling = c.args.rescaling in
    let change = c.change_level-change in
    let was : to_z w16 (of_z w16 level) ≡ level = held_level level c.args.coefficient.small in
    let fits : SFits w16 change.result.level = search rules in
    let made : to_z w16 (of_z w16 change.result.level) ≡ coarser_level level c.args.coefficient.weight rescaling.from rescaling.to rescaling.intra =
    to_z-of_z w16 change.result.level fits ∙ change.ensures.level ∙ ap (λ (l : ℤ). coarser_level l c.args.coefficient.weight rescaling.from rescaling.to rescaling.intra) was in
    record {
      right = subst (λ (l : ℤ). BecomesBy l c.number_of.result (to_z w16 (of_z w16 change.result.level))) (sym was)
          (by_change level c.args.coefficient.weight rescaling.from rescaling.to c.number_of.result rescaling.intra (to_z w16 (of_z w16 change.result.level))
          (omega arith) (omega (arith, rescaling.from_range)) (omega (arith, rescaling.to_range.1)) c.number_of.ensures made);
    }
