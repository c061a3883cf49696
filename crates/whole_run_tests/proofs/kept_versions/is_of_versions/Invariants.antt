use Rattle.picture_grammar.specs.Picture.{MayPrecede}
use Rattle.whole_run_tests.proofs.kept_versions.is_of_versions.Given as goal

-- the state before the next unit may be in force
abbrev pub invariant-units : goal.invariant-units
invariant-units l = MayPrecede l.before
