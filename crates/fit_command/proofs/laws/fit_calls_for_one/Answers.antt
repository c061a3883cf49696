use Rattle.job_files.proofs.OneJob.{ProgramLaws}
use Rattle.fit_command.proofs.OneStatus as one
use Rattle.fit_command.proofs.laws.fit_calls_for_one.Goals as goal

pub returns : goal.returns
returns c =
    let known = c.files_have_one_answer.ensures in
    let laws : ProgramLaws = record {
      programs = known.programs;
      refused = known.refused;
      never_both = known.never_both;
      missing = known.missing;
      missing_without_programs = known.missing_without_programs;
      missing_without_refusal = known.missing_without_refusal;
      table = c.one_table.ensures;
    } in
    one.fit_calls_for_one laws
