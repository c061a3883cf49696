use Rattle.picture_grammar.specs.Picture.{MayPrecede}
use Rattle.bench_pictures.proofs.versions.stream.stream_of.Given as goal

-- the state before the next unit may be in force
abbrev pub invariant-units : goal.invariant-units
invariant-units l = MayPrecede l.before
