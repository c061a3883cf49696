use Rattle.picture_laws.proofs.Codings.{coding-of_head}
use Rattle.picture_laws.proofs.heads.spelled_head_has_coding.Goals as goal

pub returns : goal.returns
returns c = λ before seq coding bits rest s. coding-of_head before (seq, coding) bits rest s
