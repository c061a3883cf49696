use Rattle.std.proofs.Common.{◌≡◌, take, map}
use Rattle.std.specs.List.{flat_map}
use Rattle.version_table.specs.Choice.{level_version}
use Rattle.version_table.proofs.choices.level.Given as goal

abbrev pub invariant-loop-program : goal.invariant-loop-program
invariant-loop-program l = l.choice ≡ map (level_version l.k) (flat_map (λ program. program.units) (take l.program-index l.program-items))
