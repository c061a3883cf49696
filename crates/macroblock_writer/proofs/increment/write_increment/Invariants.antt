use Rattle.std.proofs.Common.{◌≡◌, ◌≤◌, ℕ, List, Ok, ◌++◌}
use Rattle.bit_cursor.specs.BitWriter.{Writes}
use Rattle.picture_grammar.specs.Written.{written_increment}
use Rattle.macroblock_writer.proofs.increment.write_increment.Given as goal

abbrev pub invariant-loop-left : goal.invariant-loop-left
invariant-loop-left g l = record {
  some : 1 ≤ l.left;
  done : List ℕ;
  put : Writes g.K.Sink.written g.K.Sink.faults g.K.Sink.keeps l.fn.to l.to (Ok (tt {0})) done;
  rest : done ++ written_increment l.left ≡ written_increment l.fn.increment;
}

abbrev pub decreases-loop-left : goal.decreases-loop-left
decreases-loop-left g l = l.left
