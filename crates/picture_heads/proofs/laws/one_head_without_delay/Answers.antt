use Rattle.picture_heads.proofs.DelayPlaces.{one-without}
use Rattle.picture_heads.proofs.laws.one_head_without_delay.Goals as goal

pub returns : goal.returns
returns c = one-without
