use Rattle.bit_cursor.specs.BitReader.{bits_left, place}
use Rattle.block_coeffs.proofs.Coefficients.{none-read}
use Rattle.block_coeffs.proofs.reading.read_pairs.Goals as goal

pub returns-then-way-clause-refused : goal.returns-then-way-clause-refused
returns-then-way-clause-refused g c = c.read_others.ensures.refused (bits_left c.args.from.now) (place c.args.from.now)
    (none-read c.args.way c.args.into.now.items (bits_left c.args.from.now) (place c.args.from.now) c.requires)

pub returns-else-way-clause-refused : goal.returns-else-way-clause-refused
returns-else-way-clause-refused g c = c.read_others-else-way.ensures.refused (bits_left c.args.from.now) (place c.args.from.now)
    (none-read c.args.way c.args.into.now.items (bits_left c.args.from.now) (place c.args.from.now) c.requires)
