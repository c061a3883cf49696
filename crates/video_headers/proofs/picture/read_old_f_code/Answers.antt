use Rattle.video_headers.proofs.Reading.{answers-bind, answers-exit, answers-as}
use Rattle.video_headers.proofs.picture.read_old_f_code.Goals as goal

pub returns-in_err-_full_pel : goal.returns-in_err-_full_pel
returns-in_err-_full_pel g c =
    let on = g.met.S.Source.keeps_on in
    answers-exit _ c.from_residual.result c.from_residual.ensures.1 c.in_err-_full_pel.ensures

pub returns-in_err-code : goal.returns-in_err-code
returns-in_err-code g c =
    let on = g.met.S.Source.keeps_on in
    answers-bind on _ c.in_ok-_full_pel.ensures
    (answers-as c.from_residual-in_err-code.result c.from_residual-in_err-code.ensures.1 c.in_err-code.ensures.answers)

pub returns : goal.returns
returns g c =
    let on = g.met.S.Source.keeps_on in
    answers-bind on _ c.in_ok-_full_pel.ensures
    (c.in_ok-code.ensures.answers)
