use Rattle.std.proofs.Common.{◌≡◌, take}
use Rattle.version_table.specs.Table.{greatest}
use Rattle.rate_fit.proofs.verdicts.longest.Given as goal

abbrev pub invariant-loop-slot : goal.invariant-loop-slot
invariant-loop-slot l = l.longest ≡ greatest (take l.slot-index l.slots)
