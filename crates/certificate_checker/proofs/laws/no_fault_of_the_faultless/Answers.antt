use Rattle.certificate_checker.proofs.Outcomes.{no_fault}
use Rattle.certificate_checker.proofs.laws.no_fault_of_the_faultless.Goals as goal

pub returns : goal.returns
returns c = no_fault
