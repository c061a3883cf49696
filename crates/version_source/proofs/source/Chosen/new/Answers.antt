use Rattle.version_source.proofs.MadeLemmas.{some-made}
use Rattle.version_source.proofs.source.Chosen.new.Goals as goal

pub invariant_of-result : goal.invariant_of-result
invariant_of-result c = record { made = some-made c.args.programs.now c.args.jobs.now c.requires.as_many c.requires.sendable c.requires.bytes }
