use Rattle.std.proofs.Common.{Some, inl, ◌+◌, drop}
use Rattle.stream_audit.proofs.Judging.{goes-on, next-stream}
use Rattle.stream_audit.proofs.judge.find_first.Goals as goal

pub returns-in-Some : goal.returns-in-Some
returns-in-Some c =
    c.loop-stream.invariant (Some c.in-Some.finding)
    (next-stream c.args.slot c.args.streams.now c.loop-stream.stream-index _ c.stream-item.result (Some c.in-Some.finding) c.loop-stream-test.true c.stream-item.is
    (inl c.in-Some.ensures))

pub loop-stream-preserved : goal.loop-stream-preserved
loop-stream-preserved c found first =
    c.loop-stream.invariant found
    (next-stream c.args.slot c.args.streams.now c.loop-stream.stream-index _ c.stream-item.result found c.loop-stream-test.true c.stream-item.is
    (goes-on c.args.slot c.stream-item.result (drop (c.loop-stream.stream-index + 1) c.args.streams.now) found c.in_default.ensures first))
