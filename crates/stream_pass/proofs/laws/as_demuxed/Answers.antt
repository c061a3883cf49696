use Rattle.stream_pass.proofs.Demuxed.{audio_is, video_is}
use Rattle.stream_pass.proofs.laws.as_demuxed.Goals as goal

pub returns-clause-video : goal.returns-clause-video
returns-clause-video c file program drop demuxed packets is has = video_is file program drop demuxed packets is has

pub returns-clause-audio : goal.returns-clause-audio
returns-clause-audio c file program drop demuxed k stream packets is there has = audio_is file program drop demuxed packets is k stream there has
