use Rattle.std.proofs.Common.{true, false, sym, ◌∙◌, arith}
use Rattle.pes_units.specs.PesHeader.{is_stream_id}
use Rattle.program_stream.proofs.IdSteps.{find_next, find_end}
use Rattle.program_stream.proofs.id_walk.find_video.Goals as goal

pub loop-id-preserved : goal.loop-id-preserved
loop-id-preserved c =
    find_next (is_stream_id true) c.args.ids.now c.loop-id.id-index false c.loop-id-test.true (sym c.if-is_video.false ∙ c.is_video.ensures) c.loop-id.invariant

pub returns-then-is_video : goal.returns-then-is_video
returns-then-is_video c =
    find_next (is_stream_id true) c.args.ids.now c.loop-id.id-index true c.loop-id-test.true (sym c.if-is_video.true ∙ c.is_video.ensures) c.loop-id.invariant

pub returns : goal.returns
returns c = find_end (is_stream_id true) c.args.ids.now c.loop-id.id-index (omega (arith, c.loop-id-test.false)) c.loop-id.invariant
