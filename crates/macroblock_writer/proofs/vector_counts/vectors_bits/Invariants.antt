use Rattle.std.proofs.Common.{◌≡◌, ◌+◌, ◌*◌, ◌≤◌, drop, length}
use Rattle.std.specs.List.{flat_map}
use Rattle.picture_grammar.specs.Written.{written_vector}
use Rattle.macroblock_writer.proofs.vector_counts.vectors_bits.Given as goal

abbrev pub invariant-loop-vector : goal.invariant-loop-vector
invariant-loop-vector l = record {
  rest : l.bits + length (flat_map (written_vector l.fn.f_codes) (drop l.vector-index l.vectors)) ≡ length (flat_map (written_vector l.fn.f_codes) l.vectors);
  few : l.bits ≤ 600 * l.vector-index;
}
