use Rattle.std.proofs.Common.{◌≡◌, ◌<◌, ℕ, List, Bool, get_or, subst, sym, ◌∙◌, ap, ap₂, arith}
use Rattle.std.specs.Prelude.{if◌then◌else◌}
use Rattle.std.proofs.lemmas.List.{get_or_default, length-set}
use Rattle.syntax_types.specs.declared.block.Block.{Block}
use Rattle.picture_grammar.specs.Macroblock.{block_way, no_block}
use Rattle.requantiser.specs.Private.Changes.{rescaled_block}
use Rattle.requantiser.specs.Private.Shapes.{FitBlock}
use Rattle.requantiser.specs.Private.Walk.{coarsened_block}
use Rattle.requantiser.proofs.Macroblocks.{all_blocks, one_more_block}
use Rattle.requantiser.proofs.macroblock.coarsen_blocks.Goals as goal

pub coarsen_block-requires-clause-places : goal.coarsen_block-requires-clause-places
coarsen_block-requires-clause-places c =
    let below : c.loop-i.i < 6 = c.loop-i-test.true in
    let block : Block = get_or c.args.from.now.blocks c.loop-i.i c.index-from-i.result in
    let same : block ≡ get_or c.args.from.now.blocks c.loop-i.i no_block =
    get_or_default c.args.from.now.blocks c.loop-i.i c.index-from-i.result no_block (omega (arith, below, c.requires.shape.six)) in
    subst (λ (b : Block). FitBlock (if c.args.from.now.kind.intra then 1 else 0) b.pairs.items) (sym same) (c.requires.measured.blocks c.loop-i.i below)

pub loop-i-preserved : goal.loop-i-preserved
loop-i-preserved c =
    let coding = c.args.picture.coding.now in
    let intra : Bool = c.args.from.now.kind.intra in
    let below : c.loop-i.i < 6 = c.loop-i-test.true in
    let block : Block = get_or c.args.from.now.blocks c.loop-i.i c.index-from-i.result in
    let is : c.coarsen_block.new.to ≡ coarsened_block c.args.picture.seq.now coding (block_way coding c.args.from.now.kind c.loop-i.i) c.args.codes.in_force c.args.codes.mapped block =
    c.coarsen_block.ensures
    ∙ ap (λ (ws : List ℕ). rescaled_block ws coding.alternate_scan intra c.scale-in_force.result c.scale-mapped.result block) c.matrix-weights.ensures.value
    ∙ ap₂ (λ (a b : ℕ). rescaled_block (if intra then c.args.picture.seq.now.intra else c.args.picture.seq.now.non_intra) coding.alternate_scan intra a b block) c.scale-in_force.ensures.value
    c.scale-mapped.ensures.value in
    record {
      six = length-set c.loop-i.to c.loop-i.i c.coarsen_block.new.to ∙ c.loop-i.invariant.six;
      each = one_more_block c.args.picture.seq.now coding c.args.from.now.kind c.args.codes.in_force c.args.codes.mapped c.args.from.now.blocks
          c.loop-i.to c.loop-i.i c.coarsen_block.new.to c.index-from-i.result
          c.loop-i.invariant.six c.requires.shape.six c.loop-i-test.true is c.loop-i.invariant.each;
    }

pub returns : goal.returns
returns c = all_blocks c.args.picture.seq.now c.args.picture.coding.now c.args.from.now.kind c.args.codes.in_force c.args.codes.mapped c.args.from.now.blocks
    c.loop-i.to c.loop-i.invariant.six (λ k below. c.loop-i.invariant.each k (omega (arith, c.loop-i-test.false)))
