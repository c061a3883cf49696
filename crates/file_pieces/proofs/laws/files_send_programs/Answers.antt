use Rattle.job_report.specs.declared.job.Form.TheVariants.{Ts}
use Rattle.file_pieces.proofs.OfFile.{payloads_there, pieces_stand, stream_next, versions_there}
use Rattle.file_pieces.proofs.laws.files_send_programs.Goals as goal

pub returns-clause-video : goal.returns-clause-video
returns-clause-video c file number drop start program lane versions is stream same are =
    versions_there file number drop start program lane versions (c.programs_can_be_sent.ensures.of_file Ts file number drop start program is) is stream same are

pub returns-clause-audio : goal.returns-clause-audio
returns-clause-audio c file number drop start program k source lane is found stream same =
    payloads_there file number drop start program k source lane (pieces_stand program k source (c.programs_can_be_sent.ensures.of_file Ts file number drop start program is) found) is found
    (stream_next program k lane.stream stream) same
