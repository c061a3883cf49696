use Rattle.std.proofs.Common.{refl}
use Rattle.video_headers.proofs.Reading.{answers-bind, answers-exit, answers-done}
use Rattle.video_headers.proofs.picture.read_optional_f_code.Goals as goal

pub returns-in_err-code : goal.returns-in_err-code
returns-in_err-code g c =
    let on = g.met.S.Source.keeps_on in
    rw (c.if-not-stands.false) (answers-exit _ c.from_residual.result c.from_residual.ensures.1 c.in_err-code.ensures)

pub returns : goal.returns
returns g c =
    let on = g.met.S.Source.keeps_on in
    rw (c.if-not-stands.false) (answers-bind on _ c.in_ok-code.ensures
    (answers-done _ _ _ g.met.S.Source.keeps_itself refl))
