use Rattle.passed_programs.specs.VideoPackets.{ReadsVideo}
use Rattle.passed_programs.proofs.AsSplit.{split_few, split_same, split_video}
use Rattle.passed_programs.proofs.video_laws.as_split.Goals as goal

pub returns-clause-video : goal.returns-clause-video
returns-clause-video c = λ file drop found cut id wanted video is first of. split_video file drop found cut id is first wanted video of

pub returns-clause-sizes : goal.returns-clause-sizes
returns-clause-sizes c = λ file drop found cut id wanted video is first of want. of.said.sized want found (split_same file drop found cut id is first (ReadsVideo wanted) video of)

pub returns-clause-few : goal.returns-clause-few
returns-clause-few c = λ file drop found cut id wanted video is first of. split_few file drop found cut id is first wanted video of
