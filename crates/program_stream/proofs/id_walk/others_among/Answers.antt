use Rattle.std.proofs.Common.{arith}
use Rattle.std.specs.List.{filter}
use Rattle.program_stream.specs.Streams.{is_other}
use Rattle.program_stream.proofs.IdSteps.{filter_next, filter_end}
use Rattle.program_stream.proofs.id_walk.others_among.Goals as goal

pub loop-id-preserved : goal.loop-id-preserved
loop-id-preserved c =
    filter_next (is_other c.args.drop.now c.args.video) c.loop-id.others c.push_where.new.ids (filter (is_other c.args.drop.now c.args.video) c.args.ids.now) c.args.ids.now c.loop-id.id-index
    c.is_other.result c.loop-id-test.true c.is_other.ensures c.in_ok-push_where.ensures c.loop-id.invariant

pub returns : goal.returns
returns c =
    filter_end (is_other c.args.drop.now c.args.video) c.loop-id.others (filter (is_other c.args.drop.now c.args.video) c.args.ids.now) c.args.ids.now c.loop-id.id-index (omega (arith, c.loop-id-test.false)) c.loop-id.invariant
