use Rattle.std.proofs.Common.{◌≡◌, ◌<◌, ◌≤◌, ◌+◌, ◌∙◌, ℕ, ℤ, Bool, unsigned_abs, w16, to_z, of_z, SFits, rules, length, get_or, ap, arith}
use Rattle.std.proofs.lemmas.Int.{to_z-of_z}
use Rattle.std.proofs.lemmas.List.{length-set}
use Rattle.quant_math.specs.Levels.{coarser_level}
use Rattle.requantiser.specs.Private.Changes.{level_change}
use Rattle.requantiser.specs.Private.Rungs.{IsRescaled}
use Rattle.requantiser.proofs.BlockTallies.{one_more_is}
use Rattle.requantiser.proofs.Counted.{set_two}
use Rattle.requantiser.proofs.PairSteps.{held_level}
use Rattle.requantiser.proofs.Tallies.{same_three}
use Rattle.requantiser.proofs.ladder.rescale.Goals as goal

pub loop-k-preserved : goal.loop-k-preserved
loop-k-preserved c =
    let k : ℕ = c.loop-k.k in
    let level : ℤ = c.args.coefficient.level in
    let weight : ℕ = c.args.coefficient.weight in
    let from : ℕ = c.args.rescaling.from in
    let intra : Bool = c.args.rescaling.intra in
    let scale : ℕ = get_or c.args.targets.now.scales k 0 in
    let in_sizes : k < length c.loop-k.sizes = omega (arith, c.loop-k-test.true, c.loop-k.invariant.sizes) in
    let in_squares : k < length c.loop-k.squares = omega (arith, c.loop-k-test.true, c.loop-k.invariant.squares) in
    let change = c.change_level-change in
    let fits : SFits w16 change.result.level = search rules in
    let held : to_z w16 (of_z w16 change.result.level) ≡ change.result.level = to_z-of_z w16 change.result.level fits in
    let to = c.with_scale-to.ensures in
    let was : to_z w16 (of_z w16 level) ≡ level = held_level level c.args.coefficient.small in
    let size : c.unsigned_abs-size.result ≡ unsigned_abs (coarser_level level weight from scale intra) =
    c.unsigned_abs-size.ensures.value ∙ ap unsigned_abs (held ∙ change.ensures.level
    ∙ ap (λ (l : ℤ). coarser_level l weight c.with_scale-to.result.from c.with_scale-to.result.to c.with_scale-to.result.intra) was
    ∙ same_three (coarser_level level weight) to.from (to.to ∙ c.from.ensures) to.intra) in
    let squared : change.result.squared ≡ level_change level weight from scale intra =
    change.ensures.squared
    ∙ ap (λ (l : ℤ). level_change l weight c.with_scale-to.result.from c.with_scale-to.result.to c.with_scale-to.result.intra) was
    ∙ same_three (level_change level weight) to.from (to.to ∙ c.from.ensures) to.intra in
    let behind = c.living_behind-living.ensures in
    record {
      sizes = length-set c.loop-k.sizes k _ ∙ c.loop-k.invariant.sizes;
      squares = length-set c.loop-k.squares k _ ∙ c.loop-k.invariant.squares;
      each = set_two (λ j (s q : ℕ). IsRescaled level weight from intra (get_or c.args.targets.now.scales j 0) s q) (λ j. j < k) (λ j. j < k + 1) c.loop-k.sizes c.loop-k.squares k
          c.unsigned_abs-size.result change.result.squared in_sizes in_squares (size, squared, change.ensures.bound) c.loop-k.invariant.each (λ j below other. omega (arith, below, other));
      most = behind.most;
      gone = one_more_is (λ j (s : ℕ). c.living_behind-living.result ≤ j → s ≡ 0) c.loop-k.sizes k c.unsigned_abs-size.result in_sizes behind.gone
          (λ j d below past. c.loop-k.invariant.gone j d below (omega (arith, past, behind.no_less)));
    }

pub returns-clause-each : goal.returns-clause-each
returns-clause-each c = λ k below. c.loop-k.invariant.each k (omega (arith, below, c.loop-k-test.false))

pub returns-clause-gone : goal.returns-clause-gone
returns-clause-gone c = λ k past below. c.loop-k.invariant.gone k 0 (omega (arith, below, c.loop-k-test.false)) past
