use Rattle.program_stream.proofs.OneAnswer.{split_or_refused}
use Rattle.program_stream.proofs.BothForms.{of_program_stream, of_transport_stream}
use Rattle.program_stream.proofs.laws.same_packets.Goals as goal

pub returns-clause-program_stream : goal.returns-clause-program_stream
returns-clause-program_stream c file ids video audio is =
    let split = of_program_stream file ids video audio is in
    (split, λ fault refused. split_or_refused file ids split.0 split.1 fault split.2 refused)

pub returns-clause-transport_stream : goal.returns-clause-transport_stream
returns-clause-transport_stream c file program ids video audio is =
    let demuxed = of_transport_stream c.gathered_again.ensures file program ids video audio is in
    (demuxed, λ fault refused. c.one_answer.ensures.never_both file program ids demuxed.0 fault demuxed.1 refused)
