use Rattle.job_programs.proofs.ReadJobs.{are-read}
use Rattle.job_programs.proofs.laws.programs_of_contents_are_read.Goals as goal

pub returns : goal.returns
returns c job = are-read c.programs_of_files_are_read.ensures job.slot job.start job.programs
