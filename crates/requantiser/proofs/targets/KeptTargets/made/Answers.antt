use Rattle.std.proofs.Common.{◌∙◌, ℕ, sym, ap}
use Rattle.requantiser.specs.Private.Walk.{mapped_code}
use Rattle.requantiser.proofs.targets.KeptTargets.made.Goals as goal

pub invariant_of-result : goal.invariant_of-result
invariant_of-result c = record {
  codes = λ k below. c.targets_of.ensures.codes k below ∙ ap (λ (m : ℕ). mapped_code c.args.q_scale_type m c.args.code) (sym (c.copied.ensures k below));
  scales = c.targets_of.ensures.scales;
}
