use Rattle.picture_heads.proofs.ReadHeads.{head-has}
use Rattle.picture_heads.proofs.laws.head_has_delay.Goals as goal

pub returns : goal.returns
returns c = head-has
