use Rattle.time_laws.proofs.OneClock.{one-base, one-tick, one-time}
use Rattle.time_laws.proofs.laws.carried_times_are_one.Goals as goal

pub returns-clause-base : goal.returns-clause-base
returns-clause-base c stream slot pid base other is also = one-base stream slot pid base other is also

pub returns-clause-tick : goal.returns-clause-tick
returns-clause-tick c base at other time is also = one-tick base at other time is also

pub returns-clause-time : goal.returns-clause-time
returns-clause-time c base at time other small low is also = one-time base at time other small low is also
