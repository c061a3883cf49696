use Rattle.job_files.proofs.OneStop.{StopLaws}
use Rattle.run_command.proofs.OneStatus.{SlotLaws}
use Rattle.run_command.proofs.OneStatus as one
use Rattle.run_command.proofs.laws.run_calls_for_one.Goals as goal

pub returns : goal.returns
returns c =
    let slots : SlotLaws = record { smallest = c.smallest_choice_is_one.ensures; scheduled = c.no_miss_where_scheduled.ensures; miss = c.first_miss_is_one.ensures } in
    let known = c.job_calls_for_one.ensures in
    let jobs : StopLaws = record { table = known.table; stop = known.stop; never_both = known.never_both } in
    one.run_calls_for_one slots jobs
