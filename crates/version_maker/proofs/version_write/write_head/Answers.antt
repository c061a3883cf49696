use Rattle.std.proofs.Common.{ap, ◌∙◌}
use Rattle.std.proofs.lemmas.Result.{on_ok_weaker}
use Rattle.shelf_io.specs.Sink.{with_bytes}
use Rattle.version_maker.proofs.MadeSlices.{on_ok-when}
use Rattle.version_maker.proofs.version_write.write_head.Goals as goal

pub returns : goal.returns
returns g c =
    on_ok_weaker c.in_memory.result
    (λ written. (c.in_ok-head.head, c.in_ok-head.ensures, written ∙ ap (with_bytes (g.K.Sink.written c.args.to.now)) c.as_slice.ensures))
    (on_ok-when _ c.put_all.result c.in_memory.result c.in_memory.ensures c.put_all.ensures.ok)
