use Rattle.std.proofs.Common.{[], unwrap_or, ap, sym}
use Rattle.bit_lists.specs.Bits.{bits_of}
use Rattle.block_coeffs.proofs.written_codes.code_for.Goals as goal

pub returns-in-None-clause-code : goal.returns-in-None-clause-code
unfolding bits_of
returns-in-None-clause-code c = sym (ap (λ found. unwrap_or found []) c.in-None.ensures.none)
