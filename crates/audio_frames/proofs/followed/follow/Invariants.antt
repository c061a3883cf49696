use Rattle.std.proofs.Common.{◌-◌, length}
use Rattle.audio_frames.specs.Private.Followed.{FollowsUpTo}
use Rattle.audio_frames.proofs.followed.follow.Given as goal

abbrev pub invariant-frames : goal.invariant-frames
invariant-frames l = FollowsUpTo l.format l.bytes l.at l.fn.places l.places l.done

abbrev pub decreases-frames : goal.decreases-frames
decreases-frames l = length l.bytes - l.done
