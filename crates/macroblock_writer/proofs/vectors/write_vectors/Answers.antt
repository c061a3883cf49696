use Rattle.std.proofs.Common.{◌+◌, ◌<◌, [], None, drop, length, refl, arith}
use Rattle.std.specs.List.{flat_map}
use Rattle.bit_cursor.proofs.Composed.{writes_none, writes_then, writes_exit}
use Rattle.block_coeffs.proofs.Writing.{writes_as}
use Rattle.syntax_types.specs.declared.macroblock.Vector.{Vector}
use Rattle.picture_grammar.specs.Written.{written_vector}
use Rattle.macroblock_writer.specs.Private.Writing.{CanStand}
use Rattle.macroblock_writer.proofs.Writing.{one_more, other_ones}
use Rattle.macroblock_writer.proofs.vectors.write_vectors.Goals as goal

-- what stands past the end of the vectors
abbrev no_vector : Vector
no_vector = record { select = None; code = []; residual = []; dual = None }

pub loop-vector-init : goal.loop-vector-init
loop-vector-init g c = record {
  done = [];
  put = writes_none (tt {0}) c.args.to.now g.met.K.Sink.keeps_itself c.requires.goes;
  rest = refl;
  stand = c.requires.stand;
}

pub returns-in_err-write_vector : goal.returns-in_err-write_vector
returns-in_err-write_vector g c =
    let within : c.loop-vector.vector-index < length c.args.vectors.now = omega (arith, c.loop-vector-test.true) in
    let written = written_vector c.args.f_codes in
    writes_as
    (writes_exit c.from_residual.result (flat_map written (drop (c.loop-vector.vector-index + 1) c.args.vectors.now)) c.from_residual.ensures.1
    (writes_then g.met.K.Sink.keeps_on c.loop-vector.invariant.put c.in_err-write_vector.ensures))
    (one_more written c.args.vectors.now c.loop-vector.vector-index c.loop-vector.invariant.done (flat_map written c.args.vectors.now) c.loop-vector.invariant.rest _ within)

pub loop-vector-preserved : goal.loop-vector-preserved
loop-vector-preserved g c =
    let within : c.loop-vector.vector-index < length c.args.vectors.now = omega (arith, c.loop-vector-test.true) in
    let written = written_vector c.args.f_codes in
    let put = writes_then g.met.K.Sink.keeps_on c.loop-vector.invariant.put c.in_ok-write_vector.ensures in
    record {
      done = _;
      put = put;
      rest = one_more written c.args.vectors.now c.loop-vector.vector-index c.loop-vector.invariant.done (flat_map written c.args.vectors.now) c.loop-vector.invariant.rest _ within;
      stand = other_ones (CanStand c.args.f_codes) c.args.vectors.now c.loop-vector.vector-index no_vector within c.loop-vector.invariant.stand;
    }
