use Rattle.std.specs.Prelude.{◌-◌, length}
use Rattle.std.specs.Option.{option_copied}
use Rattle.version_maker.specs.Private.Making.{IsMadeSoFar}
use Rattle.version_maker.proofs.version_write.make_version.Given as goal

abbrev pub invariant-slices : goal.invariant-slices
invariant-slices g l = IsMadeSoFar (option_copied l.fn.before) l.fn.unit l.fn.m l.cursor (g.K.Sink.written l.fn.to) (g.K.Sink.written l.to)

abbrev pub decreases-slices : goal.decreases-slices
decreases-slices g l = length l.fn.unit - l.cursor.at
