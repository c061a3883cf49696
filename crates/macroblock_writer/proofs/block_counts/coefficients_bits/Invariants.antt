use Rattle.std.proofs.Common.{◌≡◌, ◌+◌, ◌*◌, ◌≤◌, ℕ, drop, length, IsTrue}
use Rattle.prefix_codes.specs.TableName.{is_coefficients}
use Rattle.picture_grammar.specs.Block.{coefficient_table, first_place}
use Rattle.picture_grammar.specs.Written.{written_coefficients}
use Rattle.macroblock_writer.proofs.block_counts.coefficients_bits.Given as goal

abbrev pub invariant-loop-pair : goal.invariant-loop-pair
invariant-loop-pair l = record {
  place : ℕ;
  rest : l.bits + length (written_coefficients l.fn.way place (drop l.pair-index l.pairs)) ≡ length (written_coefficients l.fn.way (first_place l.fn.way) l.pairs);
  table : l.table ≡ coefficient_table l.fn.way place;
  coefficients : IsTrue (is_coefficients l.table);
  few : l.bits ≤ 42 * l.pair-index;
}
