use Rattle.std.proofs.Common.{arith}
use Rattle.video_headers.proofs.Looks.{after-look, look-exit-over, look-on}
use Rattle.video_headers.proofs.ZeroBytes.{next-rests}
use Rattle.video_headers.proofs.code.read_next_code.Goals as goal

pub returns-in_err-comes-clause-answers : goal.returns-in_err-comes-clause-answers
returns-in_err-comes-clause-answers g c =
    after-look g.met.S.Source.keeps_on c.in_ok-stands.ensures.answers
    (look-exit-over c.from_residual-in_err-comes.result (λ end bits b. (b.taken.here, record { left = b.taken.left; found = b.found }))
    c.from_residual-in_err-comes.ensures.1 c.in_err-comes.ensures.answers)

pub returns-clause-answers : goal.returns-clause-answers
returns-clause-answers g c =
    look-on g.met.S.Source.keeps_on _ _ c.in_ok-stands.ensures.answers c.in_ok-comes.ensures.answers.runs
    (λ end bits left b. next-rests _ _ _ c.place-from.ensures c.place-at.ensures c.in_ok-comes.ensures.answers end bits b)

pub returns-clause-moved : goal.returns-clause-moved
returns-clause-moved g c = λ codes is. omega (arith, c.in_ok-stands.ensures.answers.runs.onward, c.in_ok-comes.ensures.moved codes is)
