use Rattle.std.proofs.Common.{arith}
use Rattle.std.specs.List.{filter}
use Rattle.program_stream.specs.Streams.{is_carried_audio}
use Rattle.program_stream.proofs.IdSteps.{filter_next, filter_end}
use Rattle.program_stream.proofs.id_walk.audios_among.Goals as goal

pub loop-id-preserved : goal.loop-id-preserved
loop-id-preserved c =
    filter_next (is_carried_audio c.args.drop.now) c.loop-id.audios c.push_where.new.ids (filter (is_carried_audio c.args.drop.now) c.args.ids.now) c.args.ids.now c.loop-id.id-index
    c.is_carried_audio.result c.loop-id-test.true c.is_carried_audio.ensures c.in_ok-push_where.ensures c.loop-id.invariant

pub returns : goal.returns
returns c =
    filter_end (is_carried_audio c.args.drop.now) c.loop-id.audios (filter (is_carried_audio c.args.drop.now) c.args.ids.now) c.args.ids.now c.loop-id.id-index (omega (arith, c.loop-id-test.false)) c.loop-id.invariant
