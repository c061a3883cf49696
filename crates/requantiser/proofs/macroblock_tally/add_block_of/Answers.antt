use Rattle.std.proofs.Common.{ℕ, List, get_or, subst}
use Rattle.syntax_types.specs.declared.block.RunLevel.{RunLevel}
use Rattle.requantiser.specs.Private.Changes.{block_change}
use Rattle.requantiser.specs.Private.Counts.{tally_in}
use Rattle.requantiser.specs.Private.Tallies.{IsBlockTallied}
use Rattle.requantiser.specs.Private.Walk.{new_level}
use Rattle.requantiser.proofs.BlockTallies.{rescaled_tally}
use Rattle.requantiser.proofs.macroblock_tally.add_block_of.Goals as goal

pub returns : goal.returns
returns c = λ k below scale.
    let mapped : ℕ = get_or c.args.targets.now.codes k 0 in
    subst (λ (pairs : List RunLevel). IsBlockTallied c.args.way (new_level c.args.picture.seq.now c.args.picture.coding.now c.args.way c.args.code mapped)
    (block_change c.args.picture.seq.now c.args.picture.coding.now c.args.way c.args.code mapped) pairs
    (tally_in c.args.targets.now c.args.counts.now k below) (tally_in c.args.targets.now c.add_block.new.counts k below)) c.as_slice.ensures.value
    (rescaled_tally c.args.picture.seq.now c.args.picture.coding.now c.args.way c.args.code mapped c.scale-from.result (get_or c.args.targets.now.scales k 0) c.matrix-weights.result.now
    c.as_slice.result.now (tally_in c.args.targets.now c.args.counts.now k below) (tally_in c.args.targets.now c.add_block.new.counts k below)
    c.matrix-weights.ensures.value c.scale-from.ensures.value scale (c.add_block.ensures k below))
