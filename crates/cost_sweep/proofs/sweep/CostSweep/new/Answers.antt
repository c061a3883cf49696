use Rattle.std.proofs.Common.{◌^◌, ◌<◌, List, ℕ, length, refl, ap, sym, subst, arith}
use Rattle.cost_sweep.specs.declared.step.CostStep.{CostStep}
use Rattle.cost_sweep.specs.Sorted.{AreSorted}
use Rattle.cost_sweep.proofs.Holding.{holds-none}
use Rattle.cost_sweep.proofs.sweep.CostSweep.new.Goals as goal

pub height_for-height-requires : goal.height_for-height-requires
height_for-height-requires c = omega (arith, c.requires.few, ap (length {A = ℕ}) c.as_slice-prices.ensures.value)

pub returns-clause-sweep : goal.returns-clause-sweep
returns-clause-sweep c =
    let steps = c.as_slice-steps.result.now in
    let prices = c.as_slice-prices.result.now in
    let height = c.height_for-height.result in
    let room : length c.as_slice-prices.result.now < 2 ^ c.height_for-height.result = omega (arith, c.height_for-height.ensures.room) in
    record {
      sorted = subst (λ (x : List CostStep). AreSorted x prices) (sym c.as_slice-steps.ensures.value)
          (subst (λ (x : List ℕ). AreSorted c.args.sorted.now.steps.items x) (sym c.as_slice-prices.ensures.value) c.requires);
      within = omega arith;
      rises = holds-none prices (λ (s : CostStep). s.rise) c.in_ok-rises.rises height c.in_ok-rises.ensures.height c.height_for-height.ensures.few room c.in_ok-rises.ensures.tree;
      fewer = holds-none prices (λ (s : CostStep). s.fewer) c.in_ok-fewer.fewer height c.in_ok-fewer.ensures.height c.height_for-height.ensures.few room c.in_ok-fewer.ensures.tree;
      packets = refl;
      rest = c.rise_at_0.ensures;
    }
