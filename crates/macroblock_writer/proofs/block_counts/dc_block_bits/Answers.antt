use Rattle.std.proofs.Common.{[], ◌+◌, ◌∙◌, length, ap, ap₂, sym}
use Rattle.std.proofs.lemmas.List.{length-append}
use Rattle.prefix_codes.specs.declared.symbol.TheConstants.{END_OF_BLOCK}
use Rattle.picture_grammar.specs.Block.{first_place}
use Rattle.picture_grammar.specs.Written.{if_any, written_block, written_coefficients, written_dc}
use Rattle.prefix_codes.specs.TableName.{code_for}
use Rattle.macroblock_writer.proofs.block_counts.dc_block_bits.Goals as goal

pub returns-clause-value : goal.returns-clause-value
unfolding written_block
returns-clause-value c =
    let way = c.args.way in
    ap₂ (λ a b. a + b) c.dc_bits.ensures.value (c.code_bits.ensures.value ∙ ap (λ table. length (code_for table END_OF_BLOCK)) c.first_table.ensures.table)
    ∙ sym (length-append (if_any (written_dc way) c.args.dc) (written_coefficients way (first_place way) []))
