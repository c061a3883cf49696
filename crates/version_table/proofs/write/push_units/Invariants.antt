use Rattle.std.proofs.Common.{◌≡◌, ◌++◌, take, map}
use Rattle.version_table.specs.Lines.{line_of_unit}
use Rattle.version_table.specs.Text.{text_of_lines}
use Rattle.version_table.proofs.write.push_units.Given as goal

abbrev pub invariant-loop-unit : goal.invariant-loop-unit
invariant-loop-unit l = l.out.items ≡ l.initial.out.items ++ text_of_lines (map line_of_unit (take l.unit-index l.units))
