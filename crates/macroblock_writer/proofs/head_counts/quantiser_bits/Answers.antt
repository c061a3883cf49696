use Rattle.std.proofs.Common.{length, ap, sym, ◌∙◌}
use Rattle.bit_lists.specs.Bits.{bits_of}
use Rattle.bit_lists.proofs.BitLemmas.{length-bits_of}
use Rattle.picture_grammar.specs.Written.{if_any}
use Rattle.macroblock_writer.proofs.head_counts.quantiser_bits.Goals as goal

pub returns-in-Some-clause-value : goal.returns-in-Some-clause-value
returns-in-Some-clause-value c = sym (length-bits_of 5 c.in-Some._code) ∙ ap (λ code. length (if_any (bits_of 5) code)) (sym c.in-Some.is)
