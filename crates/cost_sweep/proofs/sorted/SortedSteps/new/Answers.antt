use Rattle.std.proofs.Common.{List, length, All, ap, subst, rules, arith}
use Rattle.std.specs.List.{Contains}
use Rattle.std.proofs.lemmas.List.Sorted.{IsNonDecreasingBy-from_sort_by_key}
use Rattle.cost_sweep.specs.declared.step.CostStep.{CostStep}
use Rattle.cost_sweep.proofs.Prices.{in-order, small-moved}
use Rattle.cost_sweep.proofs.sorted.SortedSteps.new.Goals as goal

pub returns-clause-sorted : goal.returns-clause-sorted
returns-clause-sorted c =
    let prices = c.in_ok-prices.prices.items in
    let small = small-moved c.args.steps.items c.sort_by_key.new.self.items c.sort_by_key.ensures.permutation c.requires in
    record {
      order = IsNonDecreasingBy-from_sort_by_key (λ (s : CostStep). s.due) _ c.in_ok-sort_by_key.ensures.sorted (λ a r q k. search rules);
      small = small;
      rise = in-order prices c.in_ok-prices.ensures.rise;
      all_prices = subst (λ (x : List CostStep). All (λ (s : CostStep). Contains prices s.from) x) c.as_slice.ensures.value c.in_ok-prices.ensures.all;
      few = omega (arith, c.in_ok-prices.ensures.count, ap (length {A = CostStep}) c.as_slice.ensures.value, small.count);
    }
