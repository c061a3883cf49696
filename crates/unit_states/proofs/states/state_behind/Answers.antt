use Rattle.std.proofs.Common.{[], subst}
use Rattle.std.specs.Option.{option_copied}
use Rattle.bit_lists.specs.Fields.{bit_list}
use Rattle.picture_grammar.specs.Picture.{IsState}
use Rattle.picture_laws.proofs.SpelledStates.{state-of_unit}
use Rattle.unit_states.proofs.states.state_behind.Goals as goal

pub returns-in-Ok-clause-left : goal.returns-in-Ok-clause-left
returns-in-Ok-clause-left c =
    let spelled = c.in-Ok.ensures.ok in
    (spelled.picture, spelled.whole, spelled.headed.seq)

pub returns-in-Ok-clause-state : goal.returns-in-Ok-clause-state
returns-in-Ok-clause-state c =
    let spelled = c.in-Ok.ensures.ok in
    subst IsState spelled.headed.seq
    (state-of_unit (option_copied c.args.before) spelled.picture (bit_list c.args.unit.now) [] c.requires.before spelled.whole.spelled)
