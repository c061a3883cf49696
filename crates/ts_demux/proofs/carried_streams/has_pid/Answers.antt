use Rattle.std.proofs.Common.{sym, ap, ◌∙◌, arith}
use Rattle.psi_tables.specs.declared.stream.Stream.{Stream}
use Rattle.ts_demux.proofs.CarrySteps.{among_more, among_here, among_none}
use Rattle.ts_demux.proofs.PidTests.{no_test, yes_test}
use Rattle.ts_demux.proofs.carried_streams.has_pid.Goals as goal

pub returns-then-stream-pid : goal.returns-then-stream-pid
returns-then-stream-pid c =
    let item = c.stream-item.result in
    let pid_is = sym (ap (λ (s : Stream). s.pid) c.stream-item.is) ∙ c.if-stream-pid.true in
    sym (among_here c.args.streams.now c.args.pid c.loop-stream.stream-index item c.loop-stream-test.true (yes_test _ c.args.pid pid_is) c.loop-stream.invariant)

pub loop-stream-preserved : goal.loop-stream-preserved
loop-stream-preserved c =
    let item = c.stream-item.result in
    among_more c.args.streams.now c.args.pid c.loop-stream.stream-index item c.loop-stream-test.true
    (no_test _ c.args.pid (λ same. c.if-stream-pid.false (ap (λ (s : Stream). s.pid) c.stream-item.is ∙ same))) c.loop-stream.invariant

pub returns : goal.returns
returns c = sym (among_none c.args.streams.now c.args.pid c.loop-stream.stream-index (omega arith) c.loop-stream.invariant)
