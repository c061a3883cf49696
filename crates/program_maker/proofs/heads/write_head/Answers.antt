use Rattle.std.proofs.Common.{◌≡◌, ap, ◌∙◌}
use Rattle.std.proofs.lemmas.Result.{on_ok_weaker}
use Rattle.shelf_io.specs.Sink.{with_bytes}
use Rattle.program_maker.proofs.HeadBytes.{i-head, i_fields, later-head}
use Rattle.program_maker.proofs.heads.write_head.Goals as goal

pub returns-then-reference-eq0 : goal.returns-then-reference-eq0
returns-then-reference-eq0 g c =
    let told = g.K.Sink.written c.args.to.now in
    on_ok_weaker c.put_all.result (λ (e : g.K.Sink.written c.put_all.new.sink ≡ with_bytes told i_fields). e ∙ ap (with_bytes told) (i-head c.args.k c.if-reference-eq0.true)) c.put_all.ensures.ok

pub returns-else-reference-eq0 : goal.returns-else-reference-eq0
returns-else-reference-eq0 g c =
    let told = g.K.Sink.written c.args.to.now in
    let call = c.put_all-else-reference-eq0 in
    on_ok_weaker call.result (λ (e : g.K.Sink.written call.new.sink ≡ with_bytes told c.p_head.result).
    e ∙ ap (with_bytes told) (c.p_head.ensures ∙ later-head c.args.k c.if-reference-eq0.false)) call.ensures.ok
