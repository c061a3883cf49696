use Rattle.std.proofs.Common.{sym, ◌∙◌}
use Rattle.video_headers.proofs.Looks.{after-look, look-exit-over, look-none, look-on}
use Rattle.video_headers.proofs.Reading.{runs-then}
use Rattle.video_headers.proofs.ZeroBytes.{zeros-none, behind-zeros, zeros-more}
use Rattle.video_headers.proofs.code.skip_zero_bytes.Goals as goal

pub zeros-init : goal.zeros-init
zeros-init g c = look-none tt _ _ g.met.S.Source.keeps_itself (zeros-none _)

pub returns-in_err-stands-clause-answers : goal.returns-in_err-stands-clause-answers
returns-in_err-stands-clause-answers g c =
    after-look g.met.S.Source.keeps_on c.zeros.invariant (look-exit-over c.from_residual.result (λ end bits z. (z.here, z.left)) c.from_residual.ensures.1 c.in_err-stands.ensures.answers)

pub returns-then-not-is_zero-clause-answers : goal.returns-then-not-is_zero-clause-answers
returns-then-not-is_zero-clause-answers g c =
    look-on g.met.S.Source.keeps_on _ _ c.zeros.invariant c.in_ok-stands.ensures.answers.runs (λ end bits left z. behind-zeros c.in_ok-stands.ensures.answers end bits z)

pub zeros-preserved : goal.zeros-preserved
zeros-preserved g c =
    let on = g.met.S.Source.keeps_on in
    look-on on tt _ c.zeros.invariant (runs-then on c.in_ok-stands.ensures.answers.runs c.pass.ensures.runs)
    (λ end bits left z. zeros-more c.in_ok-stands.stands (sym c.is_zero.ensures ∙ c.if-not-is_zero.false) c.pass.ensures.left end bits (behind-zeros c.in_ok-stands.ensures.answers end bits z))
