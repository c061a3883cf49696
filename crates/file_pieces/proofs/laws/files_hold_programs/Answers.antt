use Rattle.job_report.specs.declared.job.Form.TheVariants.{Ts}
use Rattle.file_pieces.proofs.OfFile.{holds_audio, holds_video, pieces_stand, stream_next}
use Rattle.file_pieces.proofs.laws.files_hold_programs.Goals as goal

pub returns-clause-video : goal.returns-clause-video
returns-clause-video c file number drop start program lane is stream planned =
    holds_video file number drop start program lane (c.programs_can_be_sent.ensures.of_file Ts file number drop start program is) is stream planned

pub returns-clause-audio : goal.returns-clause-audio
returns-clause-audio c file number drop start program k source lane is found stream same =
    holds_audio file number drop start program k source lane (pieces_stand program k source (c.programs_can_be_sent.ensures.of_file Ts file number drop start program is) found) is found
    (stream_next program k lane.stream stream) same
