use Rattle.std.proofs.Common.{◌≡◌, ◌++◌, take}
use Rattle.std.specs.List.{flat_map}
use Rattle.version_table.specs.Lines.{lines_of_program}
use Rattle.version_table.specs.Text.{text_of_lines}
use Rattle.version_table.proofs.write.push_programs.Given as goal

abbrev pub invariant-loop-program : goal.invariant-loop-program
invariant-loop-program l = l.out.items ≡ l.initial.out.items ++ text_of_lines (flat_map lines_of_program (take l.program-index l.programs))
