use Rattle.stream_pass.proofs.Split.{id_audio_is, id_video_is}
use Rattle.stream_pass.proofs.laws.as_split.Goals as goal

pub returns-clause-video : goal.returns-clause-video
returns-clause-video c file drop demuxed cut id packets is first has = id_video_is file drop demuxed cut packets is id first has

pub returns-clause-audio : goal.returns-clause-audio
returns-clause-audio c file drop demuxed cut k stream packets is there has = id_audio_is file drop demuxed cut packets is k stream there has
