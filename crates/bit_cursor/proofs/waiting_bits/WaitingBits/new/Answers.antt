use Rattle.std.proofs.Common.{refl}
use Rattle.bit_lists.specs.Bits.{bits_of}
use Rattle.bit_cursor.proofs.waiting_bits.WaitingBits.new.Goals as goal

pub returns : goal.returns
unfolding bits_of
returns c = refl
