use Rattle.std.proofs.Common.{◌≡◌, map, drop}
use Rattle.job_report.specs.SharedFile.{refusals_of_files}
use Rattle.job_report.proofs.shared.shared_file.Given as goal

-- what is wrong with all files is what is wrong with those that are left
abbrev pub invariant-loop-program : goal.invariant-loop-program
invariant-loop-program l = record {
  count : l.number ≡ l.program-index;
  rest :
      refusals_of_files (map (λ name. name.now) l.names) 0 l.job.programs
      ≡ refusals_of_files (map (λ name. name.now) l.names) l.program-index (drop l.program-index l.job.programs);
}
