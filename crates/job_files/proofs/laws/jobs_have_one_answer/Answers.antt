use Rattle.job_files.proofs.OneJob.{ProgramLaws, one_table, one_refusal, one_program, one_missing, table_or_text, table_or_program, table_or_missing, text_or_program, text_or_missing, program_or_missing}
use Rattle.job_files.proofs.laws.jobs_have_one_answer.Goals as goal

laws : (c : goal.After-one_table) → ProgramLaws
laws c = let known = c.files_have_one_answer.ensures in record {
  programs = known.programs;
  refused = known.refused;
  never_both = known.never_both;
  missing = known.missing;
  missing_without_programs = known.missing_without_programs;
  missing_without_refusal = known.missing_without_refusal;
  table = c.one_table.ensures;
}

pub returns-clause-table : goal.returns-clause-table
returns-clause-table c = one_table (laws c)

pub returns-clause-text : goal.returns-clause-text
returns-clause-text c = one_refusal

pub returns-clause-program : goal.returns-clause-program
returns-clause-program c = one_program (laws c)

pub returns-clause-missing : goal.returns-clause-missing
returns-clause-missing c = one_missing (laws c)

pub returns-clause-table_without_text : goal.returns-clause-table_without_text
returns-clause-table_without_text c = table_or_text

pub returns-clause-table_without_program : goal.returns-clause-table_without_program
returns-clause-table_without_program c = table_or_program (laws c)

pub returns-clause-table_without_missing : goal.returns-clause-table_without_missing
returns-clause-table_without_missing c = table_or_missing (laws c)

pub returns-clause-text_without_program : goal.returns-clause-text_without_program
returns-clause-text_without_program c = text_or_program

pub returns-clause-text_without_missing : goal.returns-clause-text_without_missing
returns-clause-text_without_missing c = text_or_missing

pub returns-clause-program_without_missing : goal.returns-clause-program_without_missing
returns-clause-program_without_missing c = program_or_missing (laws c)
