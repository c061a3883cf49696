use Rattle.job_files.proofs.OneStop.{StopLaws}
use Rattle.check_command.proofs.OneStatus.{CertLaws}
use Rattle.check_command.proofs.OneStatus as one
use Rattle.check_command.proofs.laws.check_calls_for_one.Goals as goal

pub returns : goal.returns
returns c =
    let certs : CertLaws = record { reading = c.one_reading.ensures; faultless = c.no_fault_of_the_faultless.ensures; fault = c.first_fault_is_one.ensures } in
    let known = c.job_calls_for_one.ensures in
    let jobs : StopLaws = record { table = known.table; stop = known.stop; never_both = known.never_both } in
    one.check_calls_for_one certs jobs
