use Rattle.std.proofs.Common.{Some, sym, ap, ◌∙◌, arith}
use Rattle.ts_demux.specs.declared.carried_packets.CarriedPid.{CarriedPid}
use Rattle.ts_demux.proofs.CarriedSteps.{none_more, none_at_all, pid_at}
use Rattle.ts_demux.proofs.carried_packets.index_of.Goals as goal

pub loop-index-preserved : goal.loop-index-preserved
loop-index-preserved c =
    none_more c.args.streams.now c.args.pid c.loop-index.index c.index-streams-index.result c.loop-index-test.true
    (λ same. c.if-stream-pid.false (ap (λ (s : CarriedPid). s.pid) c.index-streams-index.is ∙ same)) c.loop-index.invariant

pub returns-then-stream-pid : goal.returns-then-stream-pid
returns-then-stream-pid c =
    pid_at c.args.streams.now c.loop-index.index c.index-streams-index.result c.loop-index-test.true
    ∙ ap Some (sym (ap (λ (s : CarriedPid). s.pid) c.index-streams-index.is) ∙ c.if-stream-pid.true)

pub returns : goal.returns
returns c = none_at_all c.args.streams.now c.args.pid c.loop-index.index (omega arith) c.loop-index.invariant
