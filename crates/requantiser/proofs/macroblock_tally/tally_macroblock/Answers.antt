use Rattle.std.proofs.Common.{◌≡◌, ◌<◌, ◌≤◌, ℕ, length, get_or, rules, subst, arith}
use Rattle.std.specs.Prelude.{Bool, true, false, slice_index, if◌then◌else◌}
use Rattle.requantiser.specs.Private.Counts.{tally_in}
use Rattle.requantiser.specs.Tallies.{IsTallyOf}
use Rattle.requantiser.proofs.BlockTallies.{all_tallied}
use Rattle.requantiser.proofs.Counted.{tally_as}
use Rattle.requantiser.proofs.Spelled.{walkable}
use Rattle.requantiser.proofs.macroblock_tally.tally_macroblock.Goals as goal

pub add_blocks-requires-clause-shape : goal.add_blocks-requires-clause-shape
add_blocks-requires-clause-shape c = (walkable c.args.picture.coding.now c.args.from.now c.requires.spelled).shape

pub add_blocks-requires-clause-measured : goal.add_blocks-requires-clause-measured
add_blocks-requires-clause-measured c = (walkable c.args.picture.coding.now c.args.from.now c.requires.spelled).measured

pub add_blocks-requires-clause-start : goal.add_blocks-requires-clause-start
add_blocks-requires-clause-start c = λ k below. record {
  scale = c.of-targets.ensures.scales k below;
  next = c.new-counts.ensures.next k below;
  pattern = c.new-counts.ensures.patterns k below;
  bits = c.new-counts.ensures.bits k below;
  distortion = c.new-counts.ensures.squares k below;
}

pub code_in_force-code-requires-clause-written : goal.code_in_force-code-requires-clause-written
code_in_force-code-requires-clause-written c = (walkable c.args.picture.coding.now c.args.from.now c.requires.spelled).measured.code

pub write_tallies-requires-clause-next : goal.write_tallies-requires-clause-next
write_tallies-requires-clause-next c = λ k below. few c.args.from.now.kind.intra (slice_index c.add_blocks.new.counts.next k) (c.add_blocks.ensures k below).next
  where
    few : (intra : Bool) (next : ℕ) → next ≡ (if intra then 1 else 0) → next ≤ 64
    few true next is = omega (arith, is)
    few false next is = omega (arith, is)

pub write_tallies-requires-clause-patterns : goal.write_tallies-requires-clause-patterns
write_tallies-requires-clause-patterns c = λ k below. (c.add_blocks.ensures k below).small_pattern

pub returns-clause-tallies : goal.returns-clause-tallies
returns-clause-tallies c = λ k d below.
    let within : k < 8 = omega (arith, below, c.requires.few) in
    let m : ℕ = slice_index c.args.ratios.now k in
    let last = tally_in c.of-targets.result c.add_blocks.new.counts k within in
    tally_as c.args.picture.seq.now c.args.picture.coding.now _ m c.args.from.now c.of-targets.result c.add_blocks.new.counts k within (get_or c.write_tallies.new.tallies k d) (c.write_tallies.ensures k d below)
    (subst (λ code. IsTallyOf c.args.picture.seq.now c.args.picture.coding.now code m c.args.from.now last) c.code_in_force-code.ensures.value
    (all_tallied c.args.picture.seq.now c.args.picture.coding.now m c.code_in_force-code.result c.args.from.now (tally_in c.of-targets.result c.new-counts.result k within) last
    (walkable c.args.picture.coding.now c.args.from.now c.requires.spelled).shape.six (c.of-targets.ensures.codes k below) (c.add_blocks.ensures k within)))

pub returns-then-is_empty-clause-tallies : goal.returns-then-is_empty-clause-tallies
returns-then-is_empty-clause-tallies c = λ k d below.
    let none : length c.args.ratios.now ≤ 0 = search rules in
    absurd (omega (arith, below, none))
