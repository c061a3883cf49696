use Rattle.std.proofs.Common.{◌≡◌, ◌<◌, ◌≤◌, ◌+◌, ◌++◌, rules, SFits, ℕ, ℤ, pos, w16, to_z, of_z, length, drop, get_or, ◌∙◌, ap, ap₂, arith}
use Rattle.std.proofs.lemmas.Int.{to_z-of_z}
use Rattle.quant_math.specs.Levels.{coarser_level}
use Rattle.syntax_types.specs.declared.block.RunLevel.{RunLevel}
use Rattle.requantiser.specs.Private.Changes.{new_level_in, weight_in}
use Rattle.requantiser.specs.Private.Walk.{coarsened_pairs, kept_pair, zeros_behind}
use Rattle.requantiser.proofs.PairSteps.{one_pair, one_fits, length-kept_pair, zeros_behind-most, held_level}
use Rattle.requantiser.proofs.block.coarsen_pairs.Goals as goal

-- what stands past the end of the coefficients
abbrev no_pair : RunLevel
no_pair = record { run = 0; level = pos 0 }

pub loop-pair-preserved : goal.loop-pair-preserved
loop-pair-preserved c =
    let within : c.loop-pair.pair-index < length c.args.pairs.now = omega (arith, c.loop-pair-test.true) in
    let pair : RunLevel = get_or c.args.pairs.now c.loop-pair.pair-index no_pair in
    let new : ℕ → ℤ → ℤ = new_level_in c.args.weights.now c.args.rescaling.alternate c.args.rescaling.intra c.args.rescaling.from c.args.rescaling.to in
    let place : ℕ = c.loop-pair.place + pair.run in
    let zeros : ℕ = c.loop-pair.waiting + pair.run in
    let here = one_fits c.loop-pair.place c.loop-pair.pair-index c.args.pairs.now no_pair within c.loop-pair.invariant.fit in
    let held : to_z w16 (of_z w16 pair.level) ≡ pair.level = held_level pair.level here.1 in
    let weight : c.weight_in_scan-weight.result ≡ weight_in c.args.weights.now c.args.rescaling.alternate place = c.weight_in_scan-weight.ensures.value in
    let fits : SFits w16 c.coarser-level.result = search rules in
    let level : to_z w16 (of_z w16 c.coarser-level.result) ≡ new place pair.level =
    to_z-of_z w16 c.coarser-level.result fits ∙ c.coarser-level.ensures
    ∙ ap₂ (λ (l : ℤ) (w : ℕ). coarser_level l w c.args.rescaling.from c.args.rescaling.to c.args.rescaling.intra) held weight in
    let items : c.add_level-waiting.new.to.items ≡ c.loop-pair.to.items ++ kept_pair zeros (new place pair.level) =
    c.add_level-waiting.ensures.items ∙ ap (λ level. c.loop-pair.to.items ++ kept_pair zeros level) level in
    let waiting : c.add_level-waiting.result ≡ zeros_behind zeros (new place pair.level) =
    c.add_level-waiting.ensures.waiting ∙ ap (zeros_behind zeros) level in
    record {
      rest = ap₂ (λ xs n. xs ++ coarsened_pairs new (place + 1) n (drop (c.loop-pair.pair-index + 1) c.args.pairs.now)) items waiting
          ∙ one_pair new c.loop-pair.place c.loop-pair.waiting c.loop-pair.pair-index c.args.pairs.now c.loop-pair.to.items _ no_pair within c.loop-pair.invariant.rest;
      fit = here.2;
      few = let kept : length c.add_level-waiting.new.to.items
          ≤ length c.loop-pair.to.items + 1 = rw items (length-kept_pair c.loop-pair.to.items zeros (new place pair.level))
          in omega (arith, c.loop-pair.invariant.few);
      within = omega (arith, here.0);
      waiting = omega (arith, waiting, zeros_behind-most zeros (new place pair.level), c.loop-pair.invariant.waiting);
    }
