use Rattle.std.proofs.Common.{sym, ◌∙◌}
use Rattle.video_headers.proofs.Looks.{after-look, look-exit-over, look-none, look-on, look-goes, look-ends}
use Rattle.video_headers.proofs.Passed.{PassedTo, passed-none, passed-to, passed-more, passed-whole, passed-cut}
use Rattle.video_headers.proofs.Reading.{runs-then}
use Rattle.video_headers.proofs.unread.pass_bytes.Goals as goal

pub bytes-init : goal.bytes-init
bytes-init g c = look-none tt _ _ g.met.S.Source.keeps_itself (passed-none _)

pub returns-in_err-stands : goal.returns-in_err-stands
returns-in_err-stands g c =
    after-look g.met.S.Source.keeps_on c.bytes.invariant (look-exit-over c.from_residual.result (λ end bits z. (z.here, z.left)) c.from_residual.ensures.1 c.in_err-stands.ensures.answers)

pub returns-then-is_prefix : goal.returns-then-is_prefix
returns-then-is_prefix g c =
    look-goes g.met.S.Source.keeps_on tt c.bytes.invariant c.in_ok-stands.ensures.answers.runs
    (λ end bits z. passed-whole c.in_ok-stands.stands (sym c.is_prefix.ensures ∙ c.if-is_prefix.true) end bits (passed-to c.in_ok-stands.ensures.answers end bits z))

pub returns-then-is_nothing : goal.returns-then-is_nothing
returns-then-is_nothing g c =
    look-ends g.met.S.Source.keeps_on c.place.result c.bytes.invariant c.in_ok-stands.ensures.answers.runs
    (λ end bits z. passed-cut c.in_ok-stands.stands c.place.result (sym c.is_nothing.ensures ∙ c.if-is_nothing.true) c.place.ensures end bits (passed-to c.in_ok-stands.ensures.answers end bits z))

pub bytes-preserved : goal.bytes-preserved
bytes-preserved g c =
    let on = g.met.S.Source.keeps_on in
    look-on on tt _ c.bytes.invariant (runs-then on c.in_ok-stands.ensures.answers.runs c.pass.ensures.runs)
    (λ end bits left z. passed-more c.in_ok-stands.stands (sym c.is_prefix.ensures ∙ c.if-is_prefix.false)
    (sym c.is_nothing.ensures ∙ c.if-is_nothing.false) c.pass.ensures.left end bits (passed-to c.in_ok-stands.ensures.answers end bits z))
