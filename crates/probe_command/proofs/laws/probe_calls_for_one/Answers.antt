use Rattle.probe_command.proofs.OneStatus.{ProbeLaws}
use Rattle.probe_command.proofs.OneStatus as one
use Rattle.probe_command.proofs.laws.probe_calls_for_one.Goals as goal

pub returns : goal.returns
returns c =
    let laws : ProbeLaws = record { refused = c.probed_file_has_one_answer.ensures.refused; never_both = c.probed_file_has_one_answer.ensures.never_both } in
    one.probe_calls_for_one laws
