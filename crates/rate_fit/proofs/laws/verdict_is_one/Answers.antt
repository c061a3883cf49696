use Rattle.rate_fit.proofs.OneVerdict.{one_verdict}
use Rattle.rate_fit.proofs.laws.verdict_is_one.Goals as goal

pub returns : goal.returns
returns c = one_verdict (record { smallest = c.smallest_choice_is_one.ensures; miss = c.first_miss_is_one.ensures; apart = c.no_miss_where_scheduled.ensures })
