use Rattle.bit_cursor.specs.BitReader.{bits_left, place}
use Rattle.grammar_reading.proofs.ReadElements.{reads-bit}
use Rattle.grammar_reading.proofs.elements.read_flag.Goals as goal

pub returns-clause-read : goal.returns-clause-read
returns-clause-read g c =
    reads-bit c.in_ok-bit.bit (bits_left c.args.reader.now) (bits_left c.bits.new.self) (place c.args.reader.now)
    (place c.bits.new.self) c.in_ok-bit.ensures.value c.in_ok-bit.ensures.below c.in_ok-bit.ensures.left c.in_ok-bit.ensures.place
