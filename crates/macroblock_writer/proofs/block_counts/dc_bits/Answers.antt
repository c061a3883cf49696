use Rattle.std.proofs.Common.{◌+◌, ◌∙◌, ap, ap₂, sym, length}
use Rattle.std.proofs.lemmas.List.{length-append}
use Rattle.bit_lists.specs.Bits.{bits_of}
use Rattle.bit_lists.proofs.BitLemmas.{length-bits_of}
use Rattle.picture_grammar.specs.Block.{dc_table}
use Rattle.picture_grammar.specs.Written.{if_any, written_dc}
use Rattle.prefix_codes.specs.TableName.{code_for}
use Rattle.macroblock_writer.proofs.block_counts.dc_bits.Goals as goal

pub returns-in-Some-clause-value : goal.returns-in-Some-clause-value
returns-in-Some-clause-value c =
    let dc = c.in-Some.dc in
    ap₂ (λ a b. a + b) (c.code_bits.ensures.value ∙ ap₂ (λ table size. length (code_for table size)) c.size_table.ensures.table c.from.ensures)
    (c.from-in-Some.ensures ∙ sym (length-bits_of dc.size dc.bits))
    ∙ sym (length-append (code_for (dc_table c.args.way.luma) dc.size) (bits_of dc.size dc.bits))
    ∙ ap (λ found. length (if_any (written_dc c.args.way) found)) (sym c.in-Some.is)
