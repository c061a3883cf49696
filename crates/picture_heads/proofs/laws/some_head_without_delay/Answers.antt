use Rattle.picture_heads.proofs.DelayPlaces.{has-without}
use Rattle.picture_heads.proofs.laws.some_head_without_delay.Goals as goal

pub returns : goal.returns
returns c = has-without
