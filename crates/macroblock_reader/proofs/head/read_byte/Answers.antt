use Rattle.macroblock_reader.proofs.Slices.{number-below}
use Rattle.macroblock_reader.proofs.head.read_byte.Goals as goal

pub overflow_cast-result : goal.overflow_cast-result
overflow_cast-result g c = record { fits = number-below c.args.n c.in_ok-number.number c.args.from.now c.read_bits.new.from c.requires c.in_ok-number.ensures }
