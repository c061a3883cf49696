use Rattle.std.proofs.Common.{◌+◌, ◌∙◌, length, ap, ap₂, sym}
use Rattle.std.proofs.lemmas.List.{length-append}
use Rattle.picture_grammar.specs.Block.{first_place}
use Rattle.picture_grammar.specs.Written.{if_any, written_block, written_coefficients, written_dc}
use Rattle.macroblock_writer.proofs.block_counts.block_bits.Goals as goal

pub returns-clause-value : goal.returns-clause-value
unfolding written_block
returns-clause-value c =
    let way = c.args.way in
    ap₂ (λ a b. a + b) c.dc_bits.ensures.value (c.coefficients_bits.ensures.value ∙ ap (λ pairs. length (written_coefficients way (first_place way) pairs)) c.as_slice.ensures.value)
    ∙ sym (length-append (if_any (written_dc way) c.args.block.now.dc) (written_coefficients way (first_place way) c.args.block.now.pairs.items))
