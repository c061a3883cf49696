use Rattle.video_headers.proofs.Identifiers.{identifier-answers}
use Rattle.video_headers.proofs.Looks.{look-exit}
use Rattle.video_headers.proofs.extension.read_identifier.Goals as goal

pub returns-in_err-number : goal.returns-in_err-number
returns-in_err-number g c = look-exit c.from_residual.result c.from_residual.ensures.1 c.in_err-number.ensures

pub returns : goal.returns
returns g c = rw (c.checked.ensures) (identifier-answers c.args.part c.requires g.met.S.Source.keeps_itself g.met.S.Source.keeps_on c.place-at.result
    c.place-at.ensures c.in_ok-number.number c.in_ok-number.ensures)
