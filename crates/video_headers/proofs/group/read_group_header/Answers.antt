use Rattle.video_headers.proofs.Reading.{answers-bind, answers-exit, answers-as}
use Rattle.video_headers.proofs.group.read_group_header.Goals as goal

pub returns-in_err-_time_code : goal.returns-in_err-_time_code
returns-in_err-_time_code g c =
    let on = g.met.S.Source.keeps_on in
    answers-exit _ c.from_residual.result c.from_residual.ensures.1 c.in_err-_time_code.ensures.answers

pub returns-in_err-_closed_gop : goal.returns-in_err-_closed_gop
returns-in_err-_closed_gop g c =
    let on = g.met.S.Source.keeps_on in
    answers-bind on _ c.in_ok-_time_code.ensures.answers
    (answers-exit _ c.from_residual-in_err-_closed_gop.result c.from_residual-in_err-_closed_gop.ensures.1 c.in_err-_closed_gop.ensures)

pub returns-in_err-broken_link : goal.returns-in_err-broken_link
returns-in_err-broken_link g c =
    let on = g.met.S.Source.keeps_on in
    answers-bind on _ c.in_ok-_time_code.ensures.answers
    (answers-bind on _ c.in_ok-_closed_gop.ensures
    (answers-as c.from_residual-in_err-broken_link.result c.from_residual-in_err-broken_link.ensures.1 c.in_err-broken_link.ensures))

pub returns : goal.returns
returns g c =
    let on = g.met.S.Source.keeps_on in
    answers-bind on _ c.in_ok-_time_code.ensures.answers
    (answers-bind on _ c.in_ok-_closed_gop.ensures
    (c.in_ok-broken_link.ensures))
