use Rattle.picture_grammar.specs.Refusal.Refusal.{BadType}
use Rattle.picture_grammar.specs.Element.{marker_bit}
use Rattle.macroblock_reader.proofs.Courses.{answers-there}
use Rattle.macroblock_reader.proofs.elements.read_marker_where.Goals as goal

pub returns-then-stands : goal.returns-then-stands
returns-then-stands g c = answers-there (marker_bit BadType) 1 c.args.from.now c.read_marker.new.from c.args.stands c.if-stands.true c.read_marker.result c.read_marker.ensures
