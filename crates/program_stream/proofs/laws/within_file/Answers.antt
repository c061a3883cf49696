use Rattle.program_stream.proofs.StreamSizes.{video_within, audios_within, few_audios, one_cut}
use Rattle.program_stream.proofs.laws.within_file.Goals as goal

pub returns-clause-video : goal.returns-clause-video
returns-clause-video c = λ file drop demuxed cut is. video_within file drop demuxed cut is

pub returns-clause-audios : goal.returns-clause-audios
returns-clause-audios c = λ file drop demuxed cut is. (λ k d lt. audios_within file drop demuxed cut is k d lt)

pub returns-clause-few_audios : goal.returns-clause-few_audios
returns-clause-few_audios c = λ file drop demuxed cut is. few_audios file drop demuxed cut is

pub returns-clause-cut : goal.returns-clause-cut
returns-clause-cut c = λ file drop demuxed cut is. one_cut file drop demuxed cut is
