use Rattle.std.proofs.Common.{refl}
use Rattle.video_headers.proofs.Reading.{answers-bind, answers-exit, answers-done}
use Rattle.video_headers.proofs.picture.read_optional_bits.Goals as goal

pub returns-in_err-number : goal.returns-in_err-number
returns-in_err-number g c =
    let on = g.met.S.Source.keeps_on in
    rw (c.if-not-stands.false) (answers-exit _ c.from_residual.result c.from_residual.ensures.1 c.in_err-number.ensures.answers)

pub returns : goal.returns
returns g c =
    let on = g.met.S.Source.keeps_on in
    rw (c.if-not-stands.false) (answers-bind on _ c.in_ok-number.ensures.answers
    (answers-done _ _ _ g.met.S.Source.keeps_itself refl))
