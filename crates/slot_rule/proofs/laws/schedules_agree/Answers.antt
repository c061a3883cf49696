use Rattle.slot_rule.proofs.RuleUnique.{FollowRule-unique, FollowRule-take_same}
use Rattle.slot_rule.proofs.laws.schedules_agree.Goals as goal

pub returns : goal.returns
returns c = record {
  one = λ table choice a b schedule other equal. FollowRule-unique table choice a b schedule.follows other.follows equal;
  fronts = FollowRule-take_same;
}
