use Rattle.std.proofs.Common.{refl}
use Rattle.video_headers.proofs.Reading.{answers-bind, answers-exit, answers-mapped, answers-made_exit, goes-done, follows-none}
use Rattle.video_headers.proofs.picture.read_picture_header.Goals as goal

pub returns-in_err-_reference : goal.returns-in_err-_reference
returns-in_err-_reference g c =
    let on = g.met.S.Source.keeps_on in
    answers-exit _ c.from_residual.result c.from_residual.ensures.1 c.in_err-_reference.ensures.answers

pub returns-in_err-number : goal.returns-in_err-number
returns-in_err-number g c =
    let on = g.met.S.Source.keeps_on in
    answers-bind on _ c.in_ok-_reference.ensures.answers
    (answers-exit _ c.from_residual-in_err-number.result c.from_residual-in_err-number.ensures.1 (c.in_err-number.ensures.answers _ (refl, (λ v lt. refl), tt)))

pub returns-in_err-vbv_delay : goal.returns-in_err-vbv_delay
returns-in_err-vbv_delay g c =
    let on = g.met.S.Source.keeps_on in
    answers-bind on _ c.in_ok-_reference.ensures.answers
    (answers-bind on _ (c.in_ok-number.ensures.answers _ (refl, (λ v lt. refl), tt))
    (answers-exit _ c.from_residual-in_err-vbv_delay.result c.from_residual-in_err-vbv_delay.ensures.1 c.in_err-vbv_delay.ensures.answers))

pub returns-in_err-_forward : goal.returns-in_err-_forward
returns-in_err-_forward g c =
    let on = g.met.S.Source.keeps_on in
    answers-bind on _ c.in_ok-_reference.ensures.answers
    (answers-bind on _ (c.in_ok-number.ensures.answers _ (refl, (λ v lt. refl), tt))
    (answers-bind on _ c.in_ok-vbv_delay.ensures.answers
    (answers-exit _ c.from_residual-in_err-_forward.result c.from_residual-in_err-_forward.ensures.1 c.in_err-_forward.ensures)))

pub returns-in_err-_backward : goal.returns-in_err-_backward
returns-in_err-_backward g c =
    let on = g.met.S.Source.keeps_on in
    answers-bind on _ c.in_ok-_reference.ensures.answers
    (answers-bind on _ (c.in_ok-number.ensures.answers _ (refl, (λ v lt. refl), tt))
    (answers-bind on _ c.in_ok-vbv_delay.ensures.answers
    (answers-bind on _ c.in_ok-_forward.ensures
    (answers-exit _ c.from_residual-in_err-_backward.result c.from_residual-in_err-_backward.ensures.1 c.in_err-_backward.ensures))))

pub returns-in_err-_extra : goal.returns-in_err-_extra
returns-in_err-_extra g c =
    let on = g.met.S.Source.keeps_on in
    answers-bind on _ c.in_ok-_reference.ensures.answers
    (answers-bind on _ (c.in_ok-number.ensures.answers _ (refl, (λ v lt. refl), tt))
    (answers-bind on _ c.in_ok-vbv_delay.ensures.answers
    (answers-bind on _ c.in_ok-_forward.ensures
    (answers-bind on _ c.in_ok-_backward.ensures
    (answers-made_exit _ _ _ c.from_residual-in_err-_extra.result c.from_residual-in_err-_extra.ensures.1 c.in_err-_extra.ensures)))))

pub returns : goal.returns
returns g c =
    let on = g.met.S.Source.keeps_on in
    answers-bind on _ c.in_ok-_reference.ensures.answers
    (answers-bind on _ (c.in_ok-number.ensures.answers _ (refl, (λ v lt. refl), tt))
    (answers-bind on _ c.in_ok-vbv_delay.ensures.answers
    (answers-bind on _ c.in_ok-_forward.ensures
    (answers-bind on _ c.in_ok-_backward.ensures
    (answers-mapped _ _ on _ c.in_ok-_extra.ensures (follows-none _ g.met.S.Source.keeps_itself) (λ a e. (goes-done _ _)))))))
