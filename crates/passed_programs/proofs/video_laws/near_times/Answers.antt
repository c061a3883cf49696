use Rattle.passed_programs.proofs.NearTimes.{read_near, walked_near}
use Rattle.passed_programs.proofs.video_laws.near_times.Goals as goal

pub returns-clause-walked : goal.returns-clause-walked
returns-clause-walked c = walked_near

pub returns-clause-read : goal.returns-clause-read
returns-clause-read c = read_near
