use Rattle.std.proofs.Common.{lit<}
use Rattle.std.proofs.lemmas.Result.{err_from_is_err_and}
use Rattle.bound_certificate.specs.Private.Texts.{IsKind}
use Rattle.bound_certificate.proofs.NodeParts.{stop_kind}
use Rattle.bound_certificate.proofs.Parts.{bad_byte}
use Rattle.bound_certificate.proofs.read_node.read_kind.Goals as goal

pub returns-in_err-byte-clause-stop : goal.returns-in_err-byte-clause-stop
returns-in_err-byte-clause-stop c =
    let p = err_from_is_err_and c.from_residual.result c.from_residual.ensures.1 in
    rw (p.1, p.2) (stop_kind c.args.version c.args.cursor.now c.in_err-byte.field-0.0 c.in_err-byte.ensures.stop)

pub returns-in-None-clause-stop : goal.returns-in-None-clause-stop
returns-in-None-clause-stop c = λ are.
    bad_byte (IsKind c.args.version) c.args.cursor.now c.in_ok-byte.byte c.byte.new.self c.left-left.result 4 tt (lit< tt) c.in_ok-byte.ensures.next c.left-left.ensures c.in-None.ensures
