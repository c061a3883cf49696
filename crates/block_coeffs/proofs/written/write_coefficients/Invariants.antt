use Rattle.std.proofs.Common.{◌≡◌, List, ℕ, Ok, ◌++◌, drop, IsTrue}
use Rattle.bit_cursor.specs.BitWriter.{Writes}
use Rattle.prefix_codes.specs.TableName.{is_coefficients}
use Rattle.picture_grammar.specs.Written.{written_coefficients}
use Rattle.picture_grammar.specs.Block.{coefficient_table, first_place}
use Rattle.block_coeffs.specs.Private.Writing.{CanFollow}
use Rattle.block_coeffs.proofs.written.write_coefficients.Given as goal

abbrev pub invariant-loop-pair : goal.invariant-loop-pair
invariant-loop-pair g l = record {
  done : List ℕ;
  put : Writes g.K.Sink.written g.K.Sink.faults g.K.Sink.keeps l.fn.to l.to (Ok (tt {0})) done;
  rest : done ++ written_coefficients l.fn.way l.place (drop l.pair-index l.pairs) ≡ written_coefficients l.fn.way (first_place l.fn.way) l.pairs;
  table : l.table ≡ coefficient_table l.fn.way l.place;
  coefficients : IsTrue (is_coefficients l.table);
  stand : CanFollow l.place (drop l.pair-index l.pairs);
}
