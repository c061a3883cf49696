use Rattle.std.proofs.Common.{Ok, ◌++◌, ap, sym, subst}
use Rattle.bit_cursor.specs.BitWriter.{Writes}
use Rattle.bit_cursor.proofs.Composed.{writes_none, writes_then, writes_exit}
use Rattle.picture_grammar.specs.Written.{if_any, written_dc, written_coefficients, written_block}
use Rattle.picture_grammar.specs.Block.{first_place}
use Rattle.block_coeffs.specs.Private.Writing.{CanFollow}
use Rattle.block_coeffs.proofs.Writing.{writes_as}
use Rattle.block_coeffs.proofs.Writable.{spelled-dc, spelled-pairs}
use Rattle.block_coeffs.proofs.written.write_block.Goals as goal
use Rattle.block_coeffs.proofs.written.write_block.Goals.{in-Some+in_ok-write_dc, in_default}

pub write_dc-requires-clause-size : goal.write_dc-requires-clause-size
write_dc-requires-clause-size g c = (spelled-dc c.args.way c.args.block.now c.in-Some.dc c.requires.spelled.0 c.requires.spelled.1 c.requires.spelled.2 c.in-Some.is).size

pub write_dc-requires-clause-bits : goal.write_dc-requires-clause-bits
write_dc-requires-clause-bits g c = (spelled-dc c.args.way c.args.block.now c.in-Some.dc c.requires.spelled.0 c.requires.spelled.1 c.requires.spelled.2 c.in-Some.is).bits

pub returns-in_err-write_dc : goal.returns-in_err-write_dc
unfolding written_block
returns-in_err-write_dc g c =
    let rest = written_coefficients c.args.way (first_place c.args.way) c.args.block.now.pairs.items in
    writes_as (writes_exit c.from_residual.result rest c.from_residual.ensures.1 c.in_err-write_dc.ensures)
    (ap (λ dc. if_any (written_dc c.args.way) dc ++ rest) (sym c.in-Some.is))

pub write_coefficients-requires-clause-stand : goal.write_coefficients-requires-clause-stand
write_coefficients-requires-clause-stand g c =
    subst (CanFollow (first_place c.args.way)) (sym c.as_slice.ensures.value) (spelled-pairs c.args.way c.args.block.now c.requires.spelled.0 c.requires.spelled.1 c.requires.spelled.2)

pub returns : goal.returns
unfolding written_block
returns g c =
    let first : Writes g.K.Sink.written g.K.Sink.faults g.K.Sink.keeps c.args.to.now c.match-block.to (Ok (tt {0})) (if_any (written_dc c.args.way) c.args.block.now.dc) = elim c.match-block.branch [
      | in-Some+in_ok-write_dc w ↦
          subst (λ to. Writes g.K.Sink.written g.K.Sink.faults g.K.Sink.keeps c.args.to.now to (Ok (tt {0})) (if_any (written_dc c.args.way) c.args.block.now.dc)) (sym w.to-is)
          (writes_as w.in_ok-write_dc.ensures (ap (if_any (written_dc c.args.way)) (sym w.in-Some.is)))
      | in_default w ↦
          subst (λ to. Writes g.K.Sink.written g.K.Sink.faults g.K.Sink.keeps c.args.to.now to (Ok (tt {0})) (if_any (written_dc c.args.way) c.args.block.now.dc)) (sym w.to-is)
          (writes_as (writes_none (tt {0}) c.args.to.now g.met.K.Sink.keeps_itself c.requires.goes) (ap (if_any (written_dc c.args.way)) (sym w.in_default.is)))
    ] in
    writes_as (writes_then g.met.K.Sink.keeps_on first c.write_coefficients.ensures)
    (ap (λ pairs. if_any (written_dc c.args.way) c.args.block.now.dc ++ written_coefficients c.args.way (first_place c.args.way) pairs) c.as_slice.ensures.value)
