use Rattle.passed_programs.proofs.AsSplit.{elements_refused, split_limit, split_refused}
use Rattle.passed_programs.proofs.video_laws.as_split_refused.Goals as goal

pub returns-clause-elements : goal.returns-clause-elements
returns-clause-elements c = elements_refused

pub returns-clause-limit : goal.returns-clause-limit
returns-clause-limit c = λ file drop found cut id is first over. split_limit file drop found cut id is first over

pub returns-clause-video : goal.returns-clause-video
returns-clause-video c = λ file drop found cut id fault is first few of. split_refused file drop found cut id is first fault few of
