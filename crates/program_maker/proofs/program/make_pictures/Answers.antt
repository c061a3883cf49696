use Rattle.std.proofs.Common.{◌+◌, ◌++◌, ◌∷◌, [], List, sym, ap, subst, ◌∙◌}
use Rattle.std.specs.List.{range_with_len}
use Rattle.syntax_types.specs.declared.picture.Picture.{Picture}
use Rattle.picture_grammar.specs.Written.{IsWritten}
use Rattle.program_maker.specs.Draws.{draw_each}
use Rattle.program_maker.specs.Pictures.{drawn_picture, AreWritten}
use Rattle.program_maker.proofs.Drawing.{each-more, state-more}
use Rattle.program_maker.proofs.Placing.{written-more}
use Rattle.program_maker.proofs.program.make_pictures.Goals as goal

pub loop-k-preserved : goal.loop-k-preserved
loop-k-preserved c =
    let start = c.args.draws.now.state in
    let k = c.loop-k.k in
    let before : List Picture = (draw_each (range_with_len 0 k) drawn_picture start).0 in
    let state = (draw_each (range_with_len 0 k) drawn_picture start).1 in
    let unit = c.in_ok-unit.unit in
    let is = subst (λ s. IsWritten (drawn_picture k s).0 unit) c.loop-k.invariant.1 c.in_ok-unit.ensures.written in
    let are = written-more before c.loop-k.units (drawn_picture k state).0 unit c.loop-k.invariant.0 is in (
      subst (AreWritten (draw_each (range_with_len 0 (k + 1)) drawn_picture start).0) (sym c.in_ok-push.ensures.ok)
          (subst (λ (ps : List Picture). AreWritten ps (c.loop-k.units ++ unit ∷ [])) (sym (each-more drawn_picture k start)) are),
      c.in_ok-unit.ensures.state ∙ ap (λ s. (drawn_picture k s).1) c.loop-k.invariant.1 ∙ sym (state-more drawn_picture k start),
    )
