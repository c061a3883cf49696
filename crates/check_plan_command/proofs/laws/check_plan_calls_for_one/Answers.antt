use Rattle.check_command.proofs.OneStatus.{CertLaws}
use Rattle.check_plan_command.proofs.OneStatus as one
use Rattle.check_plan_command.proofs.laws.check_plan_calls_for_one.Goals as goal

pub returns : goal.returns
returns c =
    let certs : CertLaws = record {
      reading = c.bytes_are_read_in_one_way.ensures;
      faultless = c.no_fault_of_the_faultless.ensures;
      fault = c.first_fault_is_one.ensures;
    } in
    one.check_plan_calls_for_one c.one_reading.ensures certs
