use Rattle.std.proofs.Common.{[], ◌∷◌, ap, ◌∙◌, sym, if◌then◌else◌}
use Rattle.bit_lists.specs.Bits.{bits_of}
use Rattle.bit_lists.specs.Fields.{flag}
use Rattle.block_coeffs.proofs.Writing.{writes_as, as_flag, sign_bit}
use Rattle.macroblock_writer.proofs.modes.put_flag_where.Goals as goal

pub returns-then-stands : goal.returns-then-stands
returns-then-stands g c =
    writes_as c.put_bits.ensures.writes
    (ap (bits_of 1) (c.from.ensures ∙ as_flag c.args.is_set) ∙ sign_bit c.args.is_set ∙ sym (ap (λ b. if b then flag c.args.is_set ∷ [] else []) c.if-stands.true))
