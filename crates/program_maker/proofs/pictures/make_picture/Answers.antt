use Rattle.std.proofs.Common.{ap, ◌∙◌}
use Rattle.program_maker.specs.Pictures.{drawn_slices, drawn_picture}
use Rattle.program_maker.proofs.Writing.{made-picture}
use Rattle.program_maker.proofs.pictures.make_picture.Goals as goal

pub returns-clause-written : goal.returns-clause-written
returns-clause-written c =
    made-picture c.args.k c.args.draws.now.state c.is_predicted.result _ _ _ c.from_vec.result c.new-sink.ensures c.in-Ok.ensures c.is_predicted.ensures
    c.in-Ok-write_drawn_slices.ensures.written (c.from_vec.ensures ∙ c.into_bytes.ensures)

pub returns-clause-state : goal.returns-clause-state
unfolding drawn_picture
returns-clause-state c = c.in-Ok-write_drawn_slices.ensures.state ∙ ap (λ p. (drawn_slices p c.args.draws.now.state).1) c.is_predicted.ensures
