use Rattle.program_reader.proofs.StreamsLemmas.{streams_more, stream_refused}
use Rattle.program_reader.proofs.audio_streams.read_streams.Goals as goal

pub returns-in-Err : goal.returns-in-Err
returns-in-Err c = stream_refused c.args.first.now.time c.args.streams.now c.loop-stream.stream-index c.loop-stream.read.items c.stream-item.result c.in-Err.fault c.stream_refused.result
    c.loop-stream-test.true c.stream-item.is c.loop-stream.invariant c.in-Err.ensures c.stream_refused.ensures

pub loop-stream-preserved : goal.loop-stream-preserved
loop-stream-preserved c = streams_more c.args.first.now.time c.args.streams.now c.loop-stream.stream-index c.loop-stream.read.items c.push.new.self.items c.stream-item.result c.in-Ok.one
    c.loop-stream-test.true c.stream-item.is c.in_ok-push-in-Ok.ensures.items c.loop-stream.invariant c.in-Ok.ensures
