use Rattle.bit_cursor.specs.BitReader.{bits_left, place}
use Rattle.grammar_reading.proofs.ReadElements.{reads-answer, explains-number_end, left-bits}
use Rattle.grammar_reading.proofs.elements.read_number.Goals as goal

pub returns-clause-read : goal.returns-clause-read
returns-clause-read g c =
    reads-answer c.bits.result c.args.n (bits_left c.args.reader.now) (bits_left c.bits.new.self) (place c.args.reader.now)
    (place c.bits.new.self) c.bits.ensures.value c.bits.ensures.below c.bits.ensures.left c.bits.ensures.place

pub returns-clause-end : goal.returns-clause-end
returns-clause-end g c = λ is. explains-number_end c.args.n (bits_left c.args.reader.now) (place c.args.reader.now) (c.bits.ensures.end is) (left-bits c.args.reader.now)
