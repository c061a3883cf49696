use Rattle.std.proofs.Common.{List, ℕ, ◌+◌, subst}
use Rattle.audio_frames.specs.declared.ahead.Ahead.TheVariants.{Frame, Rest, Broken}
use Rattle.audio_frames.specs.Private.Ahead.{IsAhead}
use Rattle.audio_frames.proofs.Following.{follows_more, follows_rest, follows_broken}
use Rattle.audio_frames.proofs.Formats.{rest_whole}
use Rattle.audio_frames.proofs.followed.follow.Goals as goal

pub frames-preserved : goal.frames-preserved
frames-preserved c = rw c.in_ok-push-in-Frame.ensures.ok (follows_more c.args.format c.args.bytes.now c.args.at c.args.places.now c.frames.places c.frames.done
    c.frames.invariant c.in-Frame.len
    (subst (λ (b : List ℕ). IsAhead c.args.format b (c.args.at + c.frames.done) (Frame c.in-Frame.len)) (rest_whole c.args.bytes.now c.frames.done) c.in-Frame.ensures))

pub returns-in-Rest : goal.returns-in-Rest
returns-in-Rest c = follows_rest c.args.format c.args.bytes.now c.args.at c.args.places.now c.frames.places c.frames.done c.frames.invariant
    (subst (λ (b : List ℕ). IsAhead c.args.format b (c.args.at + c.frames.done) Rest) (rest_whole c.args.bytes.now c.frames.done) c.in-Rest.ensures)

pub returns-in-Broken : goal.returns-in-Broken
returns-in-Broken c = follows_broken c.args.format c.args.bytes.now c.args.at c.args.places.now c.frames.places c.frames.done c.frames.invariant c.in-Broken.fault
    (subst (λ (b : List ℕ). IsAhead c.args.format b (c.args.at + c.frames.done) (Broken c.in-Broken.fault)) (rest_whole c.args.bytes.now c.frames.done) c.in-Broken.ensures)
