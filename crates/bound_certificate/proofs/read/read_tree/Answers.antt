use Rattle.std.proofs.lemmas.Result.{err_from_is_err_and}
use Rattle.bound_certificate.specs.Private.Texts.{AreTexts, IsNode, IsStop, IsTree}
use Rattle.bound_certificate.proofs.NodeKinds.{if_err_more}
use Rattle.bound_certificate.proofs.TextParts.{stop_tree_count, stop_tree_nodes}
use Rattle.bound_certificate.proofs.read.read_tree.Goals as goal

pub returns-in_err-count-clause-stop : goal.returns-in_err-count-clause-stop
returns-in_err-count-clause-stop c =
    let p = err_from_is_err_and c.from_residual.result c.from_residual.ensures.1 in
    rw (p.1, p.2) (stop_tree_count c.args.version c.args.cursor.now c.in_err-count.field-0.0 c.in_err-count.ensures.stop)

pub returns-clause-stop : goal.returns-clause-stop
returns-clause-stop c =
    let count = c.in_ok-count.count in
    let middle = c.read_node_count.new.cursor in
    if_err_more c.read_nodes.result (IsStop (AreTexts count (IsNode c.args.version)) middle) (IsStop (IsTree c.args.version) c.args.cursor.now)
    (λ stop. stop_tree_nodes c.args.version count c.args.cursor.now middle stop c.in_ok-count.ensures.some c.in_ok-count.ensures.few c.in_ok-count.ensures.next)
    c.read_nodes.ensures.stop
