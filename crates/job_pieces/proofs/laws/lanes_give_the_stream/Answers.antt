use Rattle.job_pieces.proofs.SentJobs.{job_stream}
use Rattle.job_pieces.proofs.laws.lanes_give_the_stream.Goals as goal

pub returns : goal.returns
returns c files job programs table choice lanes slots versions stream can are lanes_are is =
    job_stream c.one_list_of_versions.ensures c.programs_can_be_sent.ensures.taken_out c.files_send_programs.ensures.video c.files_send_programs.ensures.audio
    files job programs table choice lanes slots versions stream can are lanes_are is
