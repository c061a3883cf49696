use Rattle.std.proofs.Common.{take}
use Rattle.std.specs.List.{AllZip, flat_map}
use Rattle.version_table.specs.Choice.{IsSmallestVersion}
use Rattle.version_table.proofs.choices.smallest.Given as goal

abbrev pub invariant-loop-program : goal.invariant-loop-program
invariant-loop-program l = AllZip IsSmallestVersion (flat_map (λ program. program.units) (take l.program-index l.program-items)) l.choice
