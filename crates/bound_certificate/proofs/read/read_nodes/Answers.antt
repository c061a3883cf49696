use Rattle.std.proofs.Common.{◌+◌, sym, subst}
use Rattle.std.proofs.lemmas.Result.{err_from_is_err_and}
use Rattle.bound_certificate.proofs.TreeParts.{HasRead, read_more, stop_nodes}
use Rattle.bound_certificate.proofs.read.read_nodes.Goals as goal

pub returns-in_err-read_node-clause-stop : goal.returns-in_err-read_node-clause-stop
returns-in_err-read_node-clause-stop c =
    let p = err_from_is_err_and c.from_residual.result c.from_residual.ensures.1 in
    rw (p.1, p.2) (stop_nodes c.args.version c.args.count c.loop-read._read c.args.cursor.now c.loop-read.cursor c.loop-read.nodes c.in_err-read_node.field-0.0 c.loop-read.invariant
    c.loop-read-test.true c.in_err-read_node.ensures.stop)

pub loop-read-preserved : goal.loop-read-preserved
loop-read-preserved c =
    let more = read_more c.args.version c.args.cursor.now c.loop-read.cursor c.read_node.new.cursor c.loop-read.nodes c.loop-read._read c.in_ok-read_node.field-0 c.loop-read.invariant
    c.in_ok-read_node.ensures.stands c.in_ok-read_node.ensures.bytes in
    subst (λ nodes. HasRead c.args.version c.args.cursor.now c.read_node.new.cursor nodes (c.loop-read._read + 1)) (sym c.in_ok-push.ensures.ok) more
