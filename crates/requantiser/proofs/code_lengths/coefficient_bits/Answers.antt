use Rattle.std.proofs.Common.{◌+◌, ◌∙◌, ap, sym, length}
use Rattle.std.specs.Option.{option_map_or}
use Rattle.bit_lists.proofs.BitLemmas.{length-bits_of}
use Rattle.prefix_codes.specs.declared.symbol.TheConstants.{ESCAPE}
use Rattle.prefix_codes.specs.TableName.{code_for}
use Rattle.requantiser.proofs.code_lengths.coefficient_bits.Goals as goal

pub returns-in-Some-clause-value : goal.returns-in-Some-clause-value
returns-in-Some-clause-value c =
    ap (λ n. n + 1) (c.from.ensures ∙ sym (length-bits_of c.in-Some.code.len c.in-Some.code.bits))
    ∙ ap (λ found. option_map_or (λ code. length code + 1) found (length (code_for c.args.table ESCAPE) + 18)) (sym c.in-Some.ensures.code)

pub returns-in-None-clause-value : goal.returns-in-None-clause-value
returns-in-None-clause-value c =
    ap (λ n. n + 18) c.code_bits.ensures.value
    ∙ ap (λ found. option_map_or (λ code. length code + 1) found (length (code_for c.args.table ESCAPE) + 18)) (sym c.in-None.ensures.none)
