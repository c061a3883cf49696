use Rattle.std.proofs.Common.{drop, sym, ap, ◌∙◌}
use Rattle.audio_frames.proofs.Stepping.{walked_more}
use Rattle.audio_frames.proofs.frame_walk.FrameWalk.push.Goals as goal

pub returns-clause-walked : goal.returns-clause-walked
returns-clause-walked c = λ payload walked.
    (let all = c.as_slice.result.now in
    let stepped = c.in_ok-stepped.stepped in
    let more = walked_more payload c.args.piece.now c.args.self.kept.items all c.args.self.places c.step.new.places c.args.self.at c.args.self.stage stepped walked.within walked.kept
    (c.as_slice.ensures.value ∙ c.in_ok-extend_from_slice.ensures.items) walked.settled c.in_ok-stepped.ensures in
    record {
      within = more.0;
      kept = more.1 ∙ ap (drop stepped.done) c.as_slice.ensures.value ∙ sym c.drop_front.ensures;
      settled = more.2;
    })
