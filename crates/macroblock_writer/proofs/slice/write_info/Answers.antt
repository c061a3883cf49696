use Rattle.std.proofs.Common.{ap, sym}
use Rattle.bit_lists.specs.Bits.{bits_of}
use Rattle.block_coeffs.proofs.Writing.{writes_as}
use Rattle.picture_grammar.specs.Written.{written_slice_info}
use Rattle.macroblock_writer.proofs.slice.write_info.Goals as goal

pub returns-in-None : goal.returns-in-None
unfolding bits_of
returns-in-None g c = writes_as c.put_bits.ensures.writes (ap written_slice_info (sym c.in-None.is))
