use Rattle.program_reader.proofs.ProgramLemmas.{video_read, video_empty}
use Rattle.program_reader.proofs.video_stream.read_units.Goals as goal

pub returns-in-Some-clause-video : goal.returns-in-Some-clause-video
returns-in-Some-clause-video c = λ demuxed are. video_read demuxed c.args.taken c.args.units.now c.args.kept c.in-Some.first c.saturating_add.result are c.requires.units c.requires.kept c.in-Some.is
    c.saturating_add.ensures

pub returns-in-None-clause-video : goal.returns-in-None-clause-video
returns-in-None-clause-video c = λ demuxed are. video_empty demuxed c.args.taken c.args.units.now c.args.kept are c.requires.units c.requires.kept c.in-None.is
