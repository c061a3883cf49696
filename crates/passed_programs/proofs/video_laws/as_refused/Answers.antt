use Rattle.passed_programs.proofs.AsDemuxed.{packets_refused, video_refused}
use Rattle.passed_programs.proofs.video_laws.as_refused.Goals as goal

pub returns-clause-packets : goal.returns-clause-packets
returns-clause-packets c = λ file number drop carried_map others fault within has few short first. packets_refused file number drop carried_map others has fault within few short first

pub returns-clause-video : goal.returns-clause-video
returns-clause-video c = video_refused
