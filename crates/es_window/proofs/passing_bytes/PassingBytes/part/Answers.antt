use Rattle.es_window.proofs.Reading.{if_part, part_read, part_size}
use Rattle.es_window.proofs.passing_bytes.PassingBytes.part.Goals as goal

pub returns-clause-some : goal.returns-clause-some
returns-clause-some c =
    let bytes = c.args.self.now in
    if_part c.part.result c.part.ensures.some (λ part held_in file left_after most most_after held pid has is.
    part_read bytes.has_ended file left_after most most_after held bytes pid c.args.from c.args.to part.now has is held_in.0 held_in.1 held_in.2 held_in.3)

pub returns-clause-size : goal.returns-clause-size
returns-clause-size c =
    if_part c.part.result c.part.ensures.some (λ part held_in. part_size c.args.self.now.window c.args.from c.args.to part.now held_in.0 held_in.1 held_in.2 held_in.3)
