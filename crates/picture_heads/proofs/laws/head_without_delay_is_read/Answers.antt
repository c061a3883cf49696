use Rattle.picture_heads.proofs.ReadHeads.{without-read}
use Rattle.picture_heads.proofs.laws.head_without_delay_is_read.Goals as goal

pub returns : goal.returns
returns c = without-read
