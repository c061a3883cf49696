use Rattle.std.proofs.Common.{take}
use Rattle.version_table.specs.Choice.{IsSmallestVersion}
use Rattle.version_table.specs.Private.Choices.{AppendsEach}
use Rattle.version_table.proofs.choices.add_smallest.Given as goal

abbrev pub invariant-loop-unit : goal.invariant-loop-unit
invariant-loop-unit l = AppendsEach IsSmallestVersion (take l.unit-index l.units) l.initial.choice l.choice
