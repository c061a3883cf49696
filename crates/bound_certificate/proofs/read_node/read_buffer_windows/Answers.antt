use Rattle.std.proofs.lemmas.Result.{err_from_is_err_and}
use Rattle.bound_certificate.proofs.NodeParts.{stop_long_count, stop_long_items}
use Rattle.bound_certificate.proofs.read_node.read_buffer_windows.Goals as goal

pub returns-in_err-count-clause-stop : goal.returns-in_err-count-clause-stop
returns-in_err-count-clause-stop c =
    let p = err_from_is_err_and c.from_residual.result c.from_residual.ensures.1 in
    rw (p.1, p.2) (stop_long_count 25 c.args.cursor.now c.in_err-count.field-0.0 c.in_err-count.ensures.stop)

pub returns-in_err-block-clause-stop : goal.returns-in_err-block-clause-stop
returns-in_err-block-clause-stop c =
    let p = err_from_is_err_and c.from_residual-in_err-block.result c.from_residual-in_err-block.ensures.1 in
    rw (p.1, p.2) (stop_long_items 25 c.in_ok-count.count c.args.cursor.now c.read_long_count.new.cursor c.in_err-block.field-0.0 c.in_ok-count.ensures.few c.in_ok-count.ensures.next
    c.in_err-block.ensures.stop)
