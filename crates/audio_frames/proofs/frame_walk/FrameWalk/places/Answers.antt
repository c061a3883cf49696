use Rattle.std.proofs.Common.{sym, subst}
use Rattle.audio_frames.specs.Walk.{AreCertain}
use Rattle.audio_frames.proofs.Certain.{certain}
use Rattle.audio_frames.proofs.frame_walk.FrameWalk.places.Goals as goal

pub returns-clause-certain : goal.returns-clause-certain
returns-clause-certain c = λ payload walked.
    subst (AreCertain payload) (sym c.as_slice.ensures) (certain payload c.args.self.now.places c.args.self.now.at c.args.self.now.stage walked.settled)
