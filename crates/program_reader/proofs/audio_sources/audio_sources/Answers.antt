use Rattle.std.proofs.Common.{◌≤◌, length, arith}
use Rattle.std.specs.List.{sum_by}
use Rattle.program_reader.proofs.SourceLemmas.{streams_count, stream_here, each_here, sources_more, sources_all}
use Rattle.program_reader.proofs.audio_sources.audio_sources.Goals as goal

pub bounds-read-at : goal.bounds-read-at
bounds-read-at c = omega (arith, streams_count c.args.clock.now.earliest c.args.streams.now c.args.read.now c.requires.read, c.loop-at-test.true)

pub offset_bounds-read-at : goal.offset_bounds-read-at
offset_bounds-read-at c = omega (arith, c.loop-at-test.true, c.requires.count)

pub audio_source-requires-clause-few : goal.audio_source-requires-clause-few
audio_source-requires-clause-few c =
    each_here (λ stream. length stream.units ≤ 4000000) c.args.streams.now c.loop-at.at c.index-streams-at.result c.requires.few c.loop-at-test.true c.index-streams-at.is

pub audio_source-requires-clause-size : goal.audio_source-requires-clause-size
audio_source-requires-clause-size c = each_here (λ stream. sum_by (λ packet. length packet.bytes) stream.units ≤ 1099511627776) c.args.streams.now c.loop-at.at c.index-streams-at.result
    c.requires.size c.loop-at-test.true c.index-streams-at.is

pub audio_source-requires-clause-read : goal.audio_source-requires-clause-read
audio_source-requires-clause-read c = stream_here c.args.clock.now.earliest c.args.streams.now c.args.read.now c.loop-at.at c.index-streams-at.result c.index-read-at.result c.requires.read
    c.loop-at-test.true c.index-streams-at.is c.index-read-at.is

pub loop-at-preserved : goal.loop-at-preserved
loop-at-preserved c =
    sources_more c.args.clock.now.start c.args.clock.now.earliest c.args.streams.now c.args.read.now c.loop-at.at c.index-streams-at.result c.index-read-at.result c.loop-at.sources
    c.push.new.self c.in_ok-audio_source.field-0 c.loop-at-test.true
    (omega (arith, streams_count c.args.clock.now.earliest c.args.streams.now c.args.read.now c.requires.read, c.loop-at-test.true)) c.index-streams-at.is c.index-read-at.is
    c.in_ok-push.ensures.ok c.loop-at.invariant c.in_ok-audio_source.ensures

pub returns : goal.returns
returns c = sources_all c.args.clock.now.start c.args.clock.now.earliest c.args.streams.now c.args.read.now c.loop-at.at c.loop-at.sources c.loop-at-test.false
    (omega (arith, streams_count c.args.clock.now.earliest c.args.streams.now c.args.read.now c.requires.read, c.loop-at-test.false)) c.loop-at.invariant
