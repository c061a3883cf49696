use Rattle.std.specs.Prelude.{◌-◌, length}
use Rattle.std.specs.Option.{option_copied}
use Rattle.picture_reader.specs.Private.Unit.{SlicesKept}
use Rattle.picture_reader.proofs.unit.walk_unit.Given as goal

abbrev pub invariant-slices : goal.invariant-slices
invariant-slices l = SlicesKept (option_copied l.before) l.unit l.keep l.slices l.cursor

abbrev pub decreases-slices : goal.decreases-slices
decreases-slices l = length l.unit - l.cursor.at
