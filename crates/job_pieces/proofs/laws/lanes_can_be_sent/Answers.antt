use Rattle.job_pieces.proofs.SentJobs.{job_held, job_versions}
use Rattle.job_pieces.proofs.laws.lanes_can_be_sent.Goals as goal

pub returns-clause-held : goal.returns-clause-held
returns-clause-held c told job programs table choice lanes can are =
    job_held c.programs_can_be_sent.ensures.taken_out told job programs table choice lanes can are c.files_hold_programs.ensures.video c.files_hold_programs.ensures.audio

pub returns-clause-versions : goal.returns-clause-versions
returns-clause-versions c told job programs table choice lanes can are =
    job_versions c.programs_can_be_sent.ensures.taken_out c.files_send_programs.ensures.video c.files_send_programs.ensures.audio told job programs table choice lanes can are
