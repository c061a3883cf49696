use Rattle.std.proofs.Common.{◌≡◌, sym, ap, subst, ◌∙◌, arith}
use Rattle.std.specs.List.{flat_map, range_with_len}
use Rattle.macroblock_writer.specs.Private.Going.{GoesOn}
use Rattle.macroblock_writer.proofs.Going.{goes-as, goes-then}
use Rattle.macroblock_writer.specs.Private.WholeSlices.{written_whole_slice}
use Rattle.program_maker.specs.Draws.{draw_each}
use Rattle.program_maker.specs.Heads.{coding_of}
use Rattle.program_maker.specs.Pictures.{drawn_slice, drawn_slices}
use Rattle.program_maker.proofs.Drawing.{state-more}
use Rattle.program_maker.proofs.Writing.{bits-more}
use Rattle.program_maker.proofs.pictures.put_slices.Goals as goal

pub loop-row-preserved : goal.loop-row-preserved
loop-row-preserved g c =
    let p = c.args.predicted in
    let row = c.loop-row.row in
    let start = c.args.draws.now.state in
    let written = written_whole_slice (coding_of p) in (
      goes-as (goes-then c.loop-row.invariant.0 (goes-as c.in_ok-put_slice.ensures.written (ap (λ s. written (drawn_slice p row s).0) c.loop-row.invariant.1)))
          (bits-more (drawn_slice p) written row start),
      c.in_ok-put_slice.ensures.state ∙ ap (λ s. (drawn_slice p row s).1) c.loop-row.invariant.1 ∙ sym (state-more (drawn_slice p) row start),
      c.in_ok-put_slice.ensures.whole,
    )

pub returns-clause-written : goal.returns-clause-written
unfolding drawn_slices
returns-clause-written g c =
    let p = c.args.predicted in
    let start = c.args.draws.now.state in
    let all : c.loop-row.row ≡ 18 = omega (arith, c.loop-row-test.false, c.loop-row.auto.row-end) in
    subst (λ i. GoesOn g.K.Sink.written c.args.to.now c.loop-row.to (flat_map (written_whole_slice (coding_of p)) (draw_each (range_with_len 0 i) (drawn_slice p) start).0)) all c.loop-row.invariant.0

pub returns-clause-state : goal.returns-clause-state
unfolding drawn_slices
returns-clause-state g c =
    let p = c.args.predicted in
    let start = c.args.draws.now.state in
    let all : c.loop-row.row ≡ 18 = omega (arith, c.loop-row-test.false, c.loop-row.auto.row-end) in
    subst (λ i. c.loop-row.draws.state ≡ (draw_each (range_with_len 0 i) (drawn_slice p) start).1) all c.loop-row.invariant.1
