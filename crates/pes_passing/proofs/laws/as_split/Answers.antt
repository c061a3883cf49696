use Rattle.pes_passing.proofs.Split.{audio_is, video_is}
use Rattle.pes_passing.proofs.laws.as_split.Goals as goal

pub returns-clause-video : goal.returns-clause-video
returns-clause-video c = video_is

pub returns-clause-audio : goal.returns-clause-audio
returns-clause-audio c = audio_is
