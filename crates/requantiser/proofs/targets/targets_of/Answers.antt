use Rattle.std.proofs.Common.{◌≡◌, ◌<◌, ◌≤◌, ◌∙◌, ℕ, length, sym, ap, arith}
use Rattle.std.specs.Prelude.{slice_index}
use Rattle.std.proofs.lemmas.List.{length-set, length-replicate}
use Rattle.quant_math.specs.Scales.{IsCode, quantiser_scale}
use Rattle.requantiser.specs.Private.Walk.{mapped_code}
use Rattle.requantiser.proofs.BlockTallies.{one_more_is}
use Rattle.requantiser.proofs.Counted.{all_alike, set_two}
use Rattle.requantiser.proofs.targets.targets_of.Goals as goal

pub loop-k-init : goal.loop-k-init
loop-k-init c =
    let coarsest = c.target_of-coarsest.result in
    record {
      codes = length-replicate 8 coarsest.code;
      scales = length-replicate 8 coarsest.scale;
      all = all_alike (λ (code scale : ℕ). IsCode code × (scale ≡ quantiser_scale c.args.q_scale_type code) × (1 ≤ scale) × (scale ≤ 112)) 8 coarsest.code coarsest.scale
          (coarsest.is_code, c.target_of-coarsest.ensures.scale ∙ ap (quantiser_scale c.args.q_scale_type) (sym c.target_of-coarsest.ensures.code), coarsest.range.0, coarsest.range.1);
      each = λ j d below. absurd (omega (arith, below));
    }

pub loop-k-preserved : goal.loop-k-preserved
loop-k-preserved c =
    let k : ℕ = c.loop-k.k in
    let target = c.target_of-target.result in
    let in_codes : k < length c.loop-k.codes = omega (arith, c.loop-k-test.true, c.requires.few, c.loop-k.invariant.codes) in
    let in_scales : k < length c.loop-k.scales = omega (arith, c.loop-k-test.true, c.requires.few, c.loop-k.invariant.scales) in
    record {
      codes = length-set c.loop-k.codes k target.code ∙ c.loop-k.invariant.codes;
      scales = length-set c.loop-k.scales k target.scale ∙ c.loop-k.invariant.scales;
      all = set_two (λ j (code scale : ℕ). IsCode code × (scale ≡ quantiser_scale c.args.q_scale_type code) × (1 ≤ scale) × (scale ≤ 112)) (λ j. j < 8) (λ j. j < 8)
          c.loop-k.codes c.loop-k.scales k target.code target.scale in_codes in_scales
          (target.is_code, c.target_of-target.ensures.scale ∙ ap (quantiser_scale c.args.q_scale_type) (sym c.target_of-target.ensures.code), target.range.0, target.range.1)
          c.loop-k.invariant.all (λ j below other. below);
      each = one_more_is (λ j (code : ℕ). code ≡ mapped_code c.args.q_scale_type (slice_index c.args.ratios.now j) c.args.code) c.loop-k.codes k target.code in_codes
          (c.target_of-target.ensures.code ∙ c.mapped.ensures.value) c.loop-k.invariant.each;
    }

pub invariant_of-result : goal.invariant_of-result
invariant_of-result c = record {
  are_codes = λ k below. (c.loop-k.invariant.all k below).0;
  range = λ k below. ((c.loop-k.invariant.all k below).2, (c.loop-k.invariant.all k below).3);
}

pub returns-clause-codes : goal.returns-clause-codes
returns-clause-codes c = λ k below. c.loop-k.invariant.each k 0 (omega (arith, below, c.loop-k-test.false))

pub returns-clause-scales : goal.returns-clause-scales
returns-clause-scales c = λ k below. (c.loop-k.invariant.all k below).1
