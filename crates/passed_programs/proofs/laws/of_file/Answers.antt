use Rattle.passed_programs.proofs.OfFile.{program_of_file, sizes_of_program}
use Rattle.passed_programs.proofs.laws.of_file.Goals as goal

pub returns-clause-program : goal.returns-clause-program
returns-clause-program c = program_of_file

pub returns-clause-sizes : goal.returns-clause-sizes
returns-clause-sizes c = sizes_of_program
