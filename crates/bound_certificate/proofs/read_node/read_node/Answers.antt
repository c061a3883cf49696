use Rattle.std.proofs.lemmas.Result.{err_from_is_err_and}
use Rattle.bound_certificate.specs.Private.Texts.{IsBody, IsNode, IsStop, code_of}
use Rattle.bound_certificate.proofs.NodeKinds.{code_fits, if_err_more}
use Rattle.bound_certificate.proofs.NodeParts.{stop_node_kind, stop_node_body}
use Rattle.bound_certificate.proofs.read_node.read_node.Goals as goal

pub returns-in_err-kind-clause-stop : goal.returns-in_err-kind-clause-stop
returns-in_err-kind-clause-stop c =
    let p = err_from_is_err_and c.from_residual.result c.from_residual.ensures.1 in
    rw (p.1, p.2) (stop_node_kind c.args.version c.args.cursor.now c.in_err-kind.field-0.0 c.in_err-kind.ensures.stop)

pub returns-clause-stop : goal.returns-clause-stop
returns-clause-stop c =
    let kind = c.in_ok-kind.kind in
    let middle = c.read_kind.new.cursor in
    if_err_more c.read_body.result (IsStop (IsBody (code_of kind)) middle) (IsStop (IsNode c.args.version) c.args.cursor.now)
    (λ stop. stop_node_body c.args.version (code_of kind) c.args.cursor.now middle stop c.in_ok-kind.ensures.kind (code_fits kind) c.in_ok-kind.ensures.next)
    c.read_body.ensures.stop
