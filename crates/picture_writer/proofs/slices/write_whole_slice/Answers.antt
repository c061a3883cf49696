use Rattle.std.proofs.Common.{◌≡◌, ◌+◌, ◌-◌, ◌%◌, ℕ, List, ◌++◌, length, replicate, ap, arith}
use Rattle.bit_cursor.specs.BitWriter.{odd_bits}
use Rattle.bit_cursor.proofs.Composed.{gets_odd, writes_then, writes_exit}
use Rattle.block_coeffs.proofs.Writing.{writes_as}
use Rattle.syntax_types.specs.declared.picture.PicCoding.{PicCoding}
use Rattle.syntax_types.specs.declared.slice.Slice.{Slice}
use Rattle.picture_grammar.specs.StartCode.{start_code_bits}
use Rattle.picture_grammar.specs.Written.{written_slice}
use Rattle.macroblock_writer.proofs.Writing.{writes_beyond}
use Rattle.picture_writer.proofs.slices.write_whole_slice.Goals as goal

abbrev closing : PicCoding → Slice → List ℕ
closing coding s = replicate ((8 - length (start_code_bits (s.row + 1) ++ written_slice coding s) % 8) % 8) 0

pub returns-in_err-write_start_code-clause-writes : goal.returns-in_err-write_start_code-clause-writes
returns-in_err-write_start_code-clause-writes g c =
    let coding = c.args.picture.coding.now in
    let s = c.args.slice.now in
    writes_beyond c.from_residual.result (closing coding s) c.from_residual.ensures.0
    (writes_exit c.from_residual.result (written_slice coding s) c.from_residual.ensures.1 c.in_err-write_start_code.ensures.writes)

pub returns-in_err-write_slice-clause-writes : goal.returns-in_err-write_slice-clause-writes
returns-in_err-write_slice-clause-writes g c =
    writes_exit c.from_residual-in_err-write_slice.result (closing c.args.picture.coding.now c.args.slice.now) c.from_residual-in_err-write_slice.ensures.1
    (writes_then g.met.K.Sink.keeps_on c.in_ok-write_start_code.ensures.writes c.in_err-write_slice.ensures.writes)

pub returns-clause-writes : goal.returns-clause-writes
returns-clause-writes g c =
    let coding = c.args.picture.coding.now in
    let s = c.args.slice.now in
    let both = writes_then g.met.K.Sink.keeps_on c.in_ok-write_start_code.ensures.writes c.in_ok-write_slice.ensures.writes in
    let odd : odd_bits c.write_slice.new.to ≡ length (start_code_bits (s.row + 1) ++ written_slice coding s) % 8 = (let all = gets_odd both.ok in omega (arith, all, c.requires.whole)) in
    writes_as (writes_then g.met.K.Sink.keeps_on both c.align_zero.ensures.writes)
    (ap (λ (n : ℕ). (start_code_bits (s.row + 1) ++ written_slice coding s) ++ replicate ((8 - n) % 8) 0) odd)
