use Rattle.std.proofs.Common.{◌≡◌, ◌+◌, ◌^◌, ◌<◌, ℕ, [], drop, length, refl, ap, ◌∙◌, arith}
use Rattle.std.specs.List.{flat_map}
use Rattle.bit_lists.specs.Bits.{bits_of}
use Rattle.bit_lists.proofs.JoinedLemmas.{bits_of-put}
use Rattle.bit_cursor.proofs.Composed.{writes_none, writes_then, writes_exit}
use Rattle.block_coeffs.proofs.Writing.{writes_as}
use Rattle.macroblock_writer.specs.Private.Writing.{written_byte}
use Rattle.macroblock_writer.proofs.Writing.{one_more, none_more}
use Rattle.macroblock_writer.proofs.slice.write_information.Goals as goal

-- a bit 1 and a byte in one number
byte_bits : (byte : ℕ) → byte < 2 ^ 8 → bits_of 9 (256 + byte) ≡ written_byte byte
unfolding bits_of
byte_bits byte small = bits_of-put 1 8 1 byte small

pub loop-byte-init : goal.loop-byte-init
loop-byte-init g c = record {
  done = [];
  put = writes_none (tt {0}) c.args.to.now g.met.K.Sink.keeps_itself c.requires.goes;
  rest = refl;
}

pub returns-in_err-put_bits : goal.returns-in_err-put_bits
returns-in_err-put_bits g c =
    let within : c.loop-byte.byte-index < length c.args.bytes.now = omega (arith, c.loop-byte-test.true) in
    let small : c.from.result < 2 ^ 8 = omega (arith, c.from.ensures, c.type_inv.bytes c.loop-byte.byte-index) in
    writes_as
    (writes_exit c.from_residual.result (flat_map written_byte (drop (c.loop-byte.byte-index + 1) c.args.bytes.now)) c.from_residual.ensures.1
    (writes_then g.met.K.Sink.keeps_on c.loop-byte.invariant.put (writes_as c.in_err-put_bits.ensures.writes (byte_bits c.from.result small ∙ ap written_byte c.from.ensures))))
    (one_more written_byte c.args.bytes.now c.loop-byte.byte-index c.loop-byte.invariant.done (flat_map written_byte c.args.bytes.now) c.loop-byte.invariant.rest _ within)

pub loop-byte-preserved : goal.loop-byte-preserved
loop-byte-preserved g c =
    let within : c.loop-byte.byte-index < length c.args.bytes.now = omega (arith, c.loop-byte-test.true) in
    let small : c.from.result < 2 ^ 8 = omega (arith, c.from.ensures, c.type_inv.bytes c.loop-byte.byte-index) in
    let put = writes_then g.met.K.Sink.keeps_on c.loop-byte.invariant.put (writes_as c.in_ok-put_bits.ensures.writes (byte_bits c.from.result small ∙ ap written_byte c.from.ensures)) in
    record {
      done = _;
      put = put;
      rest = one_more written_byte c.args.bytes.now c.loop-byte.byte-index c.loop-byte.invariant.done (flat_map written_byte c.args.bytes.now) c.loop-byte.invariant.rest _ within;
    }

pub returns : goal.returns
returns g c =
    writes_as c.loop-byte.invariant.put
    (none_more written_byte c.args.bytes.now c.loop-byte.byte-index c.loop-byte.invariant.done (flat_map written_byte c.args.bytes.now) c.loop-byte.invariant.rest
    (omega (arith, c.loop-byte-test.false)))
