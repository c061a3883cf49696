use Rattle.std.specs.Prelude.{◌-◌, length}
use Rattle.std.specs.Option.{option_copied}
use Rattle.version_maker.specs.Private.Sized.{SlicesSized}
use Rattle.version_maker.proofs.sizes.size_picture.Given as goal

abbrev pub invariant-slices : goal.invariant-slices
invariant-slices l = SlicesSized (option_copied l.before) l.unit l.coarser l.cursor l.sizes.items

abbrev pub decreases-slices : goal.decreases-slices
decreases-slices l = length l.unit - l.cursor.at
