use Rattle.std.proofs.Common.{lit<}
use Rattle.std.proofs.lemmas.Result.{err_from_is_err_and}
use Rattle.bound_certificate.specs.Private.Texts.{IsByte}
use Rattle.bound_certificate.proofs.Heads.{count_one, stop_byte}
use Rattle.bound_certificate.proofs.read_node.read_count.Goals as goal

pub returns-in_err-byte-clause-stop : goal.returns-in_err-byte-clause-stop
returns-in_err-byte-clause-stop c =
    let p = err_from_is_err_and c.from_residual.result c.from_residual.ensures.1 in
    rw (p.1, p.2) (count_one c.args.cursor.now c.in_err-byte.field-0.0 c.in_err-byte.ensures.stop)

pub returns-in_err-count-clause-stop : goal.returns-in_err-count-clause-stop
returns-in_err-count-clause-stop c =
    let p = err_from_is_err_and c.from_residual-in_err-count.result c.from_residual-in_err-count.ensures.1 in
    let one = c.in_ok-byte in
    rw (p.1, p.2) (stop_byte 0 0 one.field-0 (λ _. IsByte 0 64) c.args.cursor.now c.byte.new.self c.in_err-count.field-0.0 one.ensures.next one.ensures.least one.ensures.most (lit< tt)
    c.in_err-count.ensures.stop)
