use Rattle.std.proofs.Common.{refl, sym, ap, ◌∙◌, arith}
use Rattle.ts_demux.specs.Streams.{is_video}
use Rattle.ts_demux.proofs.CarrySteps.{no_video, video_here, no_video_more}
use Rattle.ts_demux.proofs.carried_streams.find_video.Goals as goal

pub loop-at-init : goal.loop-at-init
loop-at-init c = record { video = refl; others = refl }

pub loop-at-preserved : goal.loop-at-preserved
loop-at-preserved c =
    let item = c.index-streams-at.result in
    no_video_more c.args.streams.now c.loop-at.at item c.loop-at-test.true (ap is_video (sym c.index-streams-at.is) ∙ sym c.is_video.ensures ∙ c.if-is_video.false) c.loop-at.invariant

pub returns-then-is_video : goal.returns-then-is_video
returns-then-is_video c =
    let item = c.index-streams-at.result in
    video_here c.args.streams.now c.loop-at.at item c.loop-at-test.true (ap is_video (sym c.index-streams-at.is) ∙ sym c.is_video.ensures ∙ c.if-is_video.true) c.loop-at.invariant

pub returns : goal.returns
returns c = no_video c.args.streams.now c.loop-at.at (omega arith) c.loop-at.invariant
