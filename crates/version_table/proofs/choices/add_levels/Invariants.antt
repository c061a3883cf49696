use Rattle.std.proofs.Common.{◌≡◌, ◌++◌, map, take}
use Rattle.version_table.specs.Choice.{level_version}
use Rattle.version_table.proofs.choices.add_levels.Given as goal

abbrev pub invariant-loop-unit : goal.invariant-loop-unit
invariant-loop-unit l = l.choice ≡ l.initial.choice ++ map (level_version l.k) (take l.unit-index l.units)
