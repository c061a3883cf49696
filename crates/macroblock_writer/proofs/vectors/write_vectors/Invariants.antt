use Rattle.std.proofs.Common.{◌≡◌, ℕ, List, Ok, ◌++◌, drop}
use Rattle.std.specs.List.{flat_map, AllByRecursion}
use Rattle.bit_cursor.specs.BitWriter.{Writes}
use Rattle.picture_grammar.specs.Written.{written_vector}
use Rattle.macroblock_writer.specs.Private.Writing.{CanStand}
use Rattle.macroblock_writer.proofs.vectors.write_vectors.Given as goal

abbrev pub invariant-loop-vector : goal.invariant-loop-vector
invariant-loop-vector g l = record {
  done : List ℕ;
  put : Writes g.K.Sink.written g.K.Sink.faults g.K.Sink.keeps l.fn.to l.to (Ok (tt {0})) done;
  rest : done ++ flat_map (written_vector l.fn.f_codes) (drop l.vector-index l.vectors) ≡ flat_map (written_vector l.fn.f_codes) l.vectors;
  stand : AllByRecursion (CanStand l.fn.f_codes) (drop l.vector-index l.vectors);
}
