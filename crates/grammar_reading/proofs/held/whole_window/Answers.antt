use Rattle.bit_cursor.specs.BitReader.{bits_left}
use Rattle.grammar_reading.proofs.Fronts.{whole-shown}
use Rattle.grammar_reading.proofs.held.whole_window.Goals as goal

pub returns-clause-shows : goal.returns-clause-shows
returns-clause-shows g c = whole-shown (bits_left c.args.from.now) _ c.held_front.ensures.value
