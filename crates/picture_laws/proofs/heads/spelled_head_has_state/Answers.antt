use Rattle.picture_laws.proofs.SpelledStates.{state-of_head}
use Rattle.picture_laws.proofs.heads.spelled_head_has_state.Goals as goal

pub returns : goal.returns
returns c = λ before seq coding bits rest may s. state-of_head before (seq, coding) bits rest may s
