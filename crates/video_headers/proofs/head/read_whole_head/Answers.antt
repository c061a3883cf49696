use Rattle.std.proofs.Common.{Err, refl, sym, ◌∙◌}
use Rattle.picture_grammar.specs.Head.{head}
use Rattle.video_headers.specs.Private.NextCode.{NextRests}
use Rattle.video_headers.proofs.Heads.{slice-ahead, no-slice, behind-head}
use Rattle.video_headers.proofs.Looks.{after-look, look-exit, answers-to}
use Rattle.video_headers.proofs.Reading.{answers-bind, answers-exit, answers-done}
use Rattle.video_headers.proofs.head.read_whole_head.Goals as goal

pub returns-in_err-first : goal.returns-in_err-first
unfolding head
returns-in_err-first g c =
    let on = g.met.S.Source.keeps_on in
    let itself = g.met.S.Source.keeps_itself in
    look-exit c.from_residual.result c.from_residual.ensures.1 c.in_err-first.ensures.answers

pub returns-in_err-sequence : goal.returns-in_err-sequence
unfolding head
returns-in_err-sequence g c =
    let on = g.met.S.Source.keeps_on in
    let itself = g.met.S.Source.keeps_itself in
    after-look on c.in_ok-first.ensures.answers
    (answers-exit _ c.from_residual-in_err-sequence.result c.from_residual-in_err-sequence.ensures.1 c.in_err-sequence.ensures)

pub returns-in_err-group : goal.returns-in_err-group
unfolding head
returns-in_err-group g c =
    let on = g.met.S.Source.keeps_on in
    let itself = g.met.S.Source.keeps_itself in
    after-look on c.in_ok-first.ensures.answers
    (answers-bind on _ c.in_ok-sequence.ensures
    (answers-exit _ c.from_residual-in_err-group.result c.from_residual-in_err-group.ensures.1 c.in_err-group.ensures))

pub returns-in_err-picture : goal.returns-in_err-picture
unfolding head
returns-in_err-picture g c =
    let on = g.met.S.Source.keeps_on in
    let itself = g.met.S.Source.keeps_itself in
    after-look on c.in_ok-first.ensures.answers
    (answers-bind on _ c.in_ok-sequence.ensures
    (answers-bind on _ c.in_ok-group.ensures
    (answers-exit _ c.from_residual-in_err-picture.result c.from_residual-in_err-picture.ensures.1 c.in_err-picture.ensures)))

pub returns-then-not-has_slice : goal.returns-then-not-has_slice
unfolding head
returns-then-not-has_slice g c =
    let on = g.met.S.Source.keeps_on in
    let itself = g.met.S.Source.keeps_itself in
    after-look on c.in_ok-first.ensures.answers
    (answers-bind on _ c.in_ok-sequence.ensures
    (answers-bind on _ c.in_ok-group.ensures
    (answers-bind on _ c.in_ok-picture.ensures
    (answers-exit _ (Err c.refusal-no_slice.result) refl (no-slice c.in_ok-picture.picture.next c.read_picture_part.new.reader itself
    (sym c.is_slice-has_slice.ensures ∙ c.if-not-has_slice.true) c.refusal-no_slice.result c.refusal-no_slice.ensures)))))

pub returns : goal.returns
unfolding head
returns g c =
    let on = g.met.S.Source.keeps_on in
    let itself = g.met.S.Source.keeps_itself in
    after-look on c.in_ok-first.ensures.answers
    (answers-bind on _ c.in_ok-sequence.ensures
    (answers-bind on _ c.in_ok-group.ensures
    (answers-bind on _ c.in_ok-picture.ensures
    (answers-bind on _ (slice-ahead c.in_ok-picture.picture.next c.read_picture_part.new.reader itself (sym c.is_slice-has_slice.ensures ∙ c.if-not-has_slice.false))
    (answers-to _ (answers-done _ _ {from = NextRests c.in_ok-picture.picture.next c.read_picture_part.new.reader} c.read_picture_part.new.reader
    itself refl) (λ end bits n. behind-head c.in_ok-picture.picture.next c.read_picture_part.new.reader itself
    (sym c.is_slice-has_slice.ensures ∙ c.if-not-has_slice.false) _ _ _ c.byte-first_slice.ensures end bits n))))))
