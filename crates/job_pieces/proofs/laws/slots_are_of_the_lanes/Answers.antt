use Rattle.job_pieces.proofs.SentJobs.{job_rows}
use Rattle.job_pieces.proofs.laws.slots_are_of_the_lanes.Goals as goal

pub returns : goal.returns
returns c told job programs table choice lanes slots can are valid list =
    job_rows c.programs_can_be_sent.ensures.taken_out told job programs table choice lanes can are slots (c.slots_name_the_table.ensures table choice slots valid can.fits list)
