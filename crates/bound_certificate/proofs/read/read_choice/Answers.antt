use Rattle.std.proofs.Common.{subst, ℕ}
use Rattle.std.proofs.lemmas.Result.{err_from_is_err_and}
use Rattle.bound_certificate.specs.Private.Texts.{IsBlock, IsStop}
use Rattle.bound_certificate.proofs.TextParts.{stop_units, stop_versions}
use Rattle.bound_certificate.proofs.read.read_choice.Goals as goal

pub returns-in_err-block-clause-stop : goal.returns-in_err-block-clause-stop
returns-in_err-block-clause-stop c =
    let p = err_from_is_err_and c.from_residual.result c.from_residual.ensures.1 in
    rw (p.1, p.2) (stop_units c.args.cursor.now c.in_err-block.field-0.0 c.in_err-block.ensures.stop)

pub returns-in_err-block-2-clause-stop : goal.returns-in_err-block-2-clause-stop
returns-in_err-block-2-clause-stop c =
    let p = err_from_is_err_and c.from_residual-in_err-block-2.result c.from_residual-in_err-block-2.ensures.1 in
    let refused = subst (λ (n : ℕ). IsStop (IsBlock n) c.block.new.self c.in_err-block-2.field-0.0) c.short_number-count.ensures.value c.in_err-block-2.ensures.stop in
    rw (p.1, p.2) (stop_versions c.args.cursor.now c.in_ok-block.field-0.now c.block.new.self c.in_err-block-2.field-0.0 c.in_ok-block.ensures.size c.in_ok-block.ensures.next refused)
