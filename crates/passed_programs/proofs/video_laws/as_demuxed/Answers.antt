use Rattle.passed_programs.proofs.AsDemuxed.{packets_are, some_demuxed, video_few, video_walked}
use Rattle.passed_programs.proofs.video_laws.as_demuxed.Goals as goal

pub returns-clause-some : goal.returns-clause-some
returns-clause-some c = some_demuxed

pub returns-clause-packets : goal.returns-clause-packets
returns-clause-packets c = λ file number drop demuxed packets is has. packets_are file number drop demuxed is packets has

pub returns-clause-video : goal.returns-clause-video
returns-clause-video c = λ file number drop demuxed wanted video is read. video_walked file number drop demuxed is wanted video read

pub returns-clause-sizes : goal.returns-clause-sizes
returns-clause-sizes c = λ file number drop demuxed wanted video is read want. read.sized want demuxed (packets_are file number drop demuxed is read.packets read.sound_video.has)

pub returns-clause-few : goal.returns-clause-few
returns-clause-few c = λ file number drop demuxed wanted video is read. video_few file number drop demuxed is wanted video read
