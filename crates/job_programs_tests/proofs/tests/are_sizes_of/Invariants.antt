use Rattle.picture_grammar.specs.Picture.{MayPrecede}
use Rattle.job_programs_tests.proofs.tests.are_sizes_of.Given as goal

-- the state before the next unit may be in force
abbrev pub invariant-loop-unit : goal.invariant-loop-unit
invariant-loop-unit l = MayPrecede l.before
