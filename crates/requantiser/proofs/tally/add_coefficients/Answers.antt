use Rattle.std.proofs.Common.{rules, ◌≡◌, ◌<◌, ◌+◌, ◌∙◌, ℕ, ℤ, pos, w16, to_z, of_z, length, get_or, ap, arith}
use Rattle.quant_math.specs.Levels.{coarser_level}
use Rattle.syntax_types.specs.declared.block.RunLevel.{RunLevel}
use Rattle.picture_grammar.specs.Block.{first_place}
use Rattle.requantiser.specs.Private.Changes.{change_in, level_change, new_level_in, weight_in}
use Rattle.requantiser.specs.Private.Counts.{tally_in, with_squares}
use Rattle.requantiser.proofs.Counted.{none_counted}
use Rattle.requantiser.proofs.PairSteps.{held_level, one_fits}
use Rattle.requantiser.proofs.Tallies.{block_counted, one_tally}
use Rattle.requantiser.proofs.tally.add_coefficients.Goals as goal

-- what stands past the end of the coefficients
abbrev no_pair : RunLevel
no_pair = record { run = 0; level = pos 0 }

pub loop-pair-init : goal.loop-pair-init
loop-pair-init c =
    let start : c.from-place.result ≡ first_place c.args.way = search rules in
    record {
      each = λ k below. none_counted _ _ c.args.pairs.now (tally_in c.args.targets.now c.args.counts.now k below) c.from-place.result c.args.way start (c.requires.room k below).next;
      fit = search rules;
      within = search rules;
    }

pub add_coefficient-requires-clause-room : goal.add_coefficient-requires-clause-room
add_coefficient-requires-clause-room c = λ k below.
    let within : c.loop-pair.pair-index < length c.args.pairs.now = omega (arith, c.loop-pair-test.true) in
    let here = one_fits c.loop-pair.place c.loop-pair.pair-index c.args.pairs.now no_pair within c.loop-pair.invariant.fit in
    let was = c.loop-pair.invariant.each k below in
    let room = c.requires.room k below in
    record {
      next = omega (arith, was.high);
      bits = omega (arith, was.few, room.bits, c.loop-pair.invariant.within);
      distortion = omega (arith, was.small, room.distortion, c.loop-pair.invariant.within);
    }

pub loop-pair-preserved : goal.loop-pair-preserved
loop-pair-preserved c =
    let within : c.loop-pair.pair-index < length c.args.pairs.now = omega (arith, c.loop-pair-test.true) in
    let pair : RunLevel = get_or c.args.pairs.now c.loop-pair.pair-index no_pair in
    let place : ℕ = c.loop-pair.place + pair.run in
    let here = one_fits c.loop-pair.place c.loop-pair.pair-index c.args.pairs.now no_pair within c.loop-pair.invariant.fit in
    let held : to_z w16 (of_z w16 pair.level) ≡ pair.level = held_level pair.level here.1 in
    let weight : c.weight_in_scan-weight.result ≡ weight_in c.args.weights.now c.args.rescaling.alternate place = c.weight_in_scan-weight.ensures.value in
    let from : ℕ = c.args.rescaling.from in
    let intra = c.args.rescaling.intra in
    record {
      each = λ k below.
          let scale : ℕ = get_or c.args.targets.now.scales k 0 in
          one_tally c.args.way (new_level_in c.args.weights.now c.args.rescaling.alternate intra from scale) (change_in c.args.weights.now c.args.rescaling.alternate intra from scale)
          c.loop-pair.place c.loop-pair.pair-index c.args.pairs.now no_pair (tally_in c.args.targets.now c.args.counts.now k below)
          (tally_in c.args.targets.now (with_squares c.loop-pair.counts c.loop-pair.squares) k below)
          (tally_in c.args.targets.now (with_squares c.add_coefficient.new.counts c.add_coefficient.new.squares) k below) _ _ within
          (ap (λ (l : ℤ). coarser_level l c.weight_in_scan-weight.result from scale intra) held ∙ ap (λ (w : ℕ). coarser_level pair.level w from scale intra) weight)
          (ap (λ (l : ℤ). level_change l c.weight_in_scan-weight.result from scale intra) held ∙ ap (λ (w : ℕ). level_change pair.level w from scale intra) weight)
          (c.add_coefficient.ensures c.args.way (c.table_at-table.ensures.value c.args.way c.table_number-first.ensures.value c.table_number-later.ensures.value) k below)
          (c.loop-pair.invariant.each k below);
      fit = here.2;
      within = omega (arith, here.0);
    }

pub returns : goal.returns
returns c = λ k below.
    block_counted c.args.way _ _ c.loop-pair.place c.loop-pair.pair-index c.args.pairs.now _ _ (omega (arith, c.loop-pair-test.false)) c.loop-pair.invariant.within (c.loop-pair.invariant.each k below)
