use Rattle.program_reader.proofs.SizeLemmas.{video_small, audios_are_small, few_audios, one_cut}
use Rattle.program_reader.proofs.stream_sizes.stream_sizes.Goals as goal

pub returns-clause-video_small : goal.returns-clause-video_small
returns-clause-video_small c = λ form file number drop found cut within is.
    video_small form file number drop found cut c.within_file.ensures.video c.within_file-2.ensures.video within is

pub returns-clause-audios_small : goal.returns-clause-audios_small
returns-clause-audios_small c = λ form file number drop found cut within is.
    (λ k d lt. audios_are_small form file number drop found cut c.within_file.ensures.audios c.within_file-2.ensures.audios within is k d lt)

pub returns-clause-few_audios : goal.returns-clause-few_audios
returns-clause-few_audios c = λ form file number drop found cut is.
    few_audios form file number drop found cut c.within_file.ensures.few_audios c.within_file-2.ensures.few_audios is

pub returns-clause-cut : goal.returns-clause-cut
returns-clause-cut c = λ form file number drop found cut is. one_cut form file number drop found cut c.within_file-2.ensures.cut is
