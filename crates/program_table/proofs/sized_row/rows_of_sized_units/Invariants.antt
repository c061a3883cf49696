use Rattle.std.proofs.Common.{◌≡◌, ◌++◌, drop}
use Rattle.program_table.specs.Private.Rows.{sized_rows}
use Rattle.program_table.proofs.sized_row.rows_of_sized_units.Given as goal

abbrev pub invariant-loop-k : goal.invariant-loop-k
invariant-loop-k l = l.rows ++ sized_rows l.weight l.drift (drop l.k l.units) (drop l.k l.sizes) ≡ sized_rows l.weight l.drift l.units l.sizes
