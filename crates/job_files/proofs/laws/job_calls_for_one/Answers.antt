use Rattle.job_files.proofs.OneStop.{JobLaws, stops_are_one, table_or_stop}
use Rattle.job_files.proofs.laws.job_calls_for_one.Goals as goal

jobs : (c : goal.After-jobs_have_one_answer) → JobLaws
jobs c = let known = c.jobs_have_one_answer.ensures in record {
  table = known.table;
  text = known.text;
  program = known.program;
  table_without_text = known.table_without_text;
  table_without_program = known.table_without_program;
  table_without_missing = known.table_without_missing;
  text_without_program = known.text_without_program;
  text_without_missing = known.text_without_missing;
  program_without_missing = known.program_without_missing;
}

pub returns-clause-table : goal.returns-clause-table
returns-clause-table c = c.jobs_have_one_answer.ensures.table

pub returns-clause-stop : goal.returns-clause-stop
returns-clause-stop c = stops_are_one (jobs c)

pub returns-clause-never_both : goal.returns-clause-never_both
returns-clause-never_both c = table_or_stop (jobs c)
