use Rattle.std.proofs.Common.{◌≡◌, ◌+◌, ◌<◌, ◌^◌, ℕ, ap, ◌∙◌, arith}
use Rattle.bit_lists.specs.Bits.{bits_of}
use Rattle.bit_lists.proofs.JoinedLemmas.{bits_of-put}
use Rattle.block_coeffs.proofs.Writing.{writes_as}
use Rattle.picture_grammar.specs.StartCode.{start_code_bits}
use Rattle.picture_laws.proofs.StartCodes.{code_bits}
use Rattle.picture_writer.proofs.slices.write_start_code.Goals as goal

pub returns-clause-writes : goal.returns-clause-writes
returns-clause-writes g c =
    let small : c.args.byte < 2 ^ 8 = omega (arith, c.ranges.byte.fits) in
    writes_as c.put_bits.ensures.writes (code_bits c.args.byte c.from.result small c.from.ensures)
