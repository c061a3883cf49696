use Rattle.std.proofs.Common.{◌≡◌, ℕ, get_or, ap, subst, arith}
use Rattle.std.proofs.lemmas.List.{get_or_default}
use Rattle.syntax_types.specs.declared.block.Block.{Block}
use Rattle.syntax_types.specs.declared.block.BlockWay.{BlockWay}
use Rattle.picture_grammar.specs.Macroblock.{no_block}
use Rattle.requantiser.specs.declared.tally.Tally.{Tally}
use Rattle.requantiser.specs.Private.Changes.{block_change}
use Rattle.requantiser.specs.Private.Counts.{tally_in}
use Rattle.requantiser.specs.Private.Tallies.{AreBlocksTallied, IsBlockTallied}
use Rattle.requantiser.specs.Private.Walk.{new_level}
use Rattle.requantiser.proofs.BlockTallies.{none_tallied, one_more_tallied, room_for_block}
use Rattle.requantiser.proofs.macroblock_tally.add_blocks.Goals as goal

pub loop-i-init : goal.loop-i-init
loop-i-init c = record {
  each = λ k below. none_tallied c.args.picture.seq.now c.args.picture.coding.now c.args.from.now.kind c.args.code c.args.from.now.blocks (tally_in c.args.targets.now c.args.counts.now k below) (c.requires.start k below);
}

pub add_block_of-requires-clause-room : goal.add_block_of-requires-clause-room
add_block_of-requires-clause-room c = λ k below.
    room_for_block c.args.picture.seq.now c.args.picture.coding.now c.args.from.now.kind c.args.code c.args.from.now.blocks c.loop-i.i (tally_in c.args.targets.now c.args.counts.now k below)
    (tally_in c.args.targets.now c.loop-i.counts k below) c.block_way-way.result c.loop-i-test.true (ap (λ (w : BlockWay). w.intra) c.block_way-way.ensures) (c.loop-i.invariant.each k below)

pub loop-i-preserved : goal.loop-i-preserved
loop-i-preserved c =
    let seq = c.args.picture.seq.now in
    let coding = c.args.picture.coding.now in
    let blocks = c.args.from.now.blocks in
    let kind = c.args.from.now.kind in
    let block : Block = get_or blocks c.loop-i.i c.index-from-i.result in
    let same : block ≡ get_or blocks c.loop-i.i no_block = get_or_default blocks c.loop-i.i c.index-from-i.result no_block (omega (arith, c.loop-i-test.true, c.requires.shape.six)) in
    record {
      each = λ k below.
          let before : Tally = tally_in c.args.targets.now c.loop-i.counts k below in
          let start : Tally = tally_in c.args.targets.now c.args.counts.now k below in
          let behind : Tally = tally_in c.args.targets.now c.add_block_of.new.counts k below in
          one_more_tallied seq coding kind c.args.code blocks c.loop-i.i c.index-from-i.result start before behind c.loop-i-test.true same
          (c.requires.measured.blocks c.loop-i.i c.loop-i-test.true)
          (subst (λ (way : BlockWay). IsBlockTallied way (new_level seq coding way c.args.code before.target.code) (block_change seq coding way c.args.code before.target.code) block.pairs.items
          before behind) c.block_way-way.ensures (c.add_block_of.ensures k below (c.requires.start k below).scale)) (c.loop-i.invariant.each k below);
    }

pub returns : goal.returns
returns c = λ k below.
    let all : c.loop-i.i ≡ 6 = omega (arith, c.loop-i-test.false, c.loop-i.auto.i-end) in
    subst (λ (n : ℕ). AreBlocksTallied c.args.picture.seq.now c.args.picture.coding.now c.args.from.now.kind c.args.code c.args.from.now.blocks n (tally_in c.args.targets.now c.args.counts.now k below)
    (tally_in c.args.targets.now c.loop-i.counts k below)) all (c.loop-i.invariant.each k below)
