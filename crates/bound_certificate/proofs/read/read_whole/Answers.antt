use Rattle.std.proofs.Common.{ℕ, List, ◌≡◌, ◌∙◌, sym, subst, arith}
use Rattle.std.proofs.lemmas.Result.{err_from_is_err_and}
use Rattle.bit_lists.specs.Fields.{AreBytes}
use Rattle.bound_certificate.specs.declared.fault.Stop.TheVariants.{At}
use Rattle.bound_certificate.specs.Private.Texts.{IsStop, IsText, IsWholeStop}
use Rattle.bound_certificate.proofs.Whole.{stop_behind, stop_whole}
use Rattle.bound_certificate.proofs.read.read_whole.Goals as goal

pub returns-in_err-cert-clause-stop : goal.returns-in_err-cert-clause-stop
returns-in_err-cert-clause-stop c =
    let p = err_from_is_err_and c.from_residual.result c.from_residual.ensures.1 in
    let stop = c.in_err-cert.field-0.0 in
    rw (p.1, p.2) (stop_whole c.args.bytes.now stop (subst (λ (bytes : List ℕ). IsStop IsText bytes stop) c.new-cursor.ensures c.in_err-cert.ensures.stop))

pub returns-then-left-gt0-clause-stop : goal.returns-then-left-gt0-clause-stop
returns-then-left-gt0-clause-stop c =
    let rest = c.read_text.new.cursor in
    let bytes = c.args.bytes.now in
    let same : bytes ≡ c.new-cursor.result = sym c.new-cursor.ensures in
    let cert = c.in_ok-cert.cert in
    subst (λ (n : ℕ). IsWholeStop bytes (At n)) (sym c.left-left.ensures)
    (stop_behind bytes rest cert (λ are. c.in_ok-cert.ensures.cert (subst AreBytes same are)) (same ∙ c.in_ok-cert.ensures.bytes) (omega (arith, c.left-left.ensures, c.if-left-gt0.true)))
