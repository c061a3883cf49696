use Rattle.dual_bounds.proofs.ValueLaws.{fixing_more}
use Rattle.dual_bounds.proofs.laws.fixing_more_lowers_no_value.Goals as goal

pub returns : goal.returns
returns c = fixing_more
