use Rattle.std.proofs.Common.{[], ◌∷◌, ap, sym, ◌∙◌}
use Rattle.bit_lists.specs.Bits.{bits_of}
use Rattle.bit_lists.specs.Fields.{flag}
use Rattle.block_coeffs.proofs.Writing.{writes_as, as_flag, sign_bit}
use Rattle.picture_grammar.specs.Written.{if_any}
use Rattle.macroblock_writer.proofs.vectors.write_select.Goals as goal

pub returns-in-Some : goal.returns-in-Some
returns-in-Some g c =
    writes_as c.put_bits.ensures.writes (ap (bits_of 1) (c.from.ensures ∙ as_flag c.in-Some.field) ∙ sign_bit c.in-Some.field ∙ ap (if_any (λ field. flag field ∷ [])) (sym c.in-Some.is))
