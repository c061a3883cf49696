use Rattle.elementary_streams.proofs.FileSizes.{video_within, audios_within, few_audios}
use Rattle.elementary_streams.proofs.laws.within_file.Goals as goal

pub returns-clause-video : goal.returns-clause-video
returns-clause-video c = λ file number drop demuxed is. video_within file number drop demuxed is

pub returns-clause-audios : goal.returns-clause-audios
returns-clause-audios c = λ file number drop demuxed is. (λ k d lt. audios_within file number drop demuxed is k d lt)

pub returns-clause-few_audios : goal.returns-clause-few_audios
returns-clause-few_audios c = λ file number drop demuxed is. few_audios file number drop demuxed is
