use Rattle.std.proofs.Common.{[], length, unwrap_or, ap, sym, ◌∙◌}
use Rattle.bit_lists.proofs.BitLemmas.{length-bits_of}
use Rattle.prefix_codes.proofs.lookup.code_bits.Goals as goal

pub returns-in-Some-clause-value : goal.returns-in-Some-clause-value
returns-in-Some-clause-value c =
    c.from.ensures ∙ sym (length-bits_of c.in-Some.code.len c.in-Some.code.bits) ∙ ap (λ code. length (unwrap_or code [])) (sym c.in-Some.ensures.code)
