use Rattle.std.proofs.Common.{◌≡◌, ◌++◌, length, drop}
use Rattle.mux_writer.specs.Tables.{programs_from}
use Rattle.mux_writer.proofs.prepared.programs_of.Given as goal

abbrev pub invariant-loop-program : goal.invariant-loop-program
invariant-loop-program l = record {
  size : length l.programs.items ≡ l.program;
  rows : l.programs.items ++ programs_from l.program (drop l.program l.maps) ≡ programs_from 0 l.maps;
}
