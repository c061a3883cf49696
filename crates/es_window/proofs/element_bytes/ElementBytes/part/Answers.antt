use Rattle.es_window.proofs.ElementReading.{part_read}
use Rattle.es_window.proofs.Reading.{if_part}
use Rattle.es_window.proofs.element_bytes.ElementBytes.part.Goals as goal

pub returns-clause-some : goal.returns-clause-some
returns-clause-some c =
    let bytes = c.args.self.now in
    if_part c.part.result c.part.ensures.some (λ part held_in file left_after most most_after elements cut has are.
    part_read bytes.has_ended file left_after most most_after bytes elements cut c.args.from c.args.to part.now has are held_in.0 held_in.1 held_in.2 held_in.3)
