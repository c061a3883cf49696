use Rattle.alone_laws.proofs.Passed.{LoneLaws, passed}
use Rattle.alone_laws.proofs.laws.written_streams_pass.Goals as goal

pub returns : goal.returns
returns c job contents programs table choice stream valid are of table_valid fits of_stream bytes short place number there files name status holds called =
    let laws : LoneLaws = record { program = c.lone_program_has_one_answer.ensures.program; never_both = c.lone_program_has_one_answer.ensures.never_both } in
    passed laws stream job.slot number
    (c.written_programs_pass.ensures job contents programs table choice stream valid are of table_valid fits of_stream bytes short place number there) files name holds status called
