use Rattle.std.proofs.Common.{◌≡◌, sym, ap, subst, ◌∙◌, true, arith}
use Rattle.std.specs.List.{flat_map, range_with_len}
use Rattle.syntax_types.specs.declared.macroblock.Macroblock.{Macroblock}
use Rattle.syntax_types.specs.declared.picture.PicCoding.{PicCoding}
use Rattle.picture_grammar.specs.Macroblock.{macroblock}
use Rattle.picture_grammar.specs.Written.{written_macroblock}
use Rattle.picture_laws.specs.Spellable.{IsSpellable}
use Rattle.macroblock_writer.specs.Private.Going.{GoesOn}
use Rattle.macroblock_writer.proofs.Going.{goes-as, goes-then}
use Rattle.program_maker.specs.Draws.{draw_each}
use Rattle.program_maker.specs.Heads.{coding_of}
use Rattle.program_maker.specs.Macroblocks.{drawn_macroblock}
use Rattle.program_maker.specs.Pictures.{drawn_row}
use Rattle.program_maker.proofs.Drawing.{state-more}
use Rattle.program_maker.proofs.Spelled.{drawn-spelled}
use Rattle.program_maker.proofs.Writing.{goes-from, bits-more}
use Rattle.program_maker.proofs.pictures.put_macroblocks.Goals as goal

pub write_macroblock-requires-clause-spelled : goal.write_macroblock-requires-clause-spelled
write_macroblock-requires-clause-spelled g c =
    let p = c.args.predicted in
    let m = c.draw_macroblock.new.into in (
      true,
      1,
      subst (λ (coding : PicCoding). IsSpellable (macroblock coding true 1) m) (sym c.coding-coding.ensures)
          (subst (λ (made : Macroblock). IsSpellable (macroblock (coding_of p) true 1) made) (sym c.draw_macroblock.ensures.drawn)
          (drawn-spelled p true 1 c.loop-i.draws.state (omega arith))),
    )

pub loop-i-preserved : goal.loop-i-preserved
loop-i-preserved g c =
    let p = c.args.predicted in
    let start = c.args.draws.now.state in
    let written = written_macroblock (coding_of p) in
    let is = ap (λ (coding : PicCoding). written_macroblock coding c.draw_macroblock.new.into) c.coding-coding.ensures
    ∙ ap written (c.draw_macroblock.ensures.drawn ∙ ap (λ s. (drawn_macroblock p s).0) c.loop-i.invariant.1) in (
      goes-as (goes-then c.loop-i.invariant.0 (goes-as (goes-from c.in_ok-write_macroblock.ensures.writes) is)) (bits-more (λ _. drawn_macroblock p) written c.loop-i._i start),
      c.draw_macroblock.ensures.state ∙ ap (λ s. (drawn_macroblock p s).1) c.loop-i.invariant.1 ∙ sym (state-more (λ _. drawn_macroblock p) c.loop-i._i start),
    )

pub returns-clause-written : goal.returns-clause-written
unfolding drawn_row
returns-clause-written g c =
    let p = c.args.predicted in
    let start = c.args.draws.now.state in
    let all : c.loop-i._i ≡ 22 = omega (arith, c.loop-i-test.false, c.loop-i.auto._i-end) in
    subst (λ i. GoesOn g.K.Sink.written c.args.to.now c.loop-i.to (flat_map (written_macroblock (coding_of p)) (draw_each (range_with_len 0 i) (λ _. drawn_macroblock p) start).0)) all c.loop-i.invariant.0

pub returns-clause-state : goal.returns-clause-state
unfolding drawn_row
returns-clause-state g c =
    let p = c.args.predicted in
    let start = c.args.draws.now.state in
    let all : c.loop-i._i ≡ 22 = omega (arith, c.loop-i-test.false, c.loop-i.auto._i-end) in
    subst (λ i. c.loop-i.draws.state ≡ (draw_each (range_with_len 0 i) (λ _. drawn_macroblock p) start).1) all c.loop-i.invariant.1
