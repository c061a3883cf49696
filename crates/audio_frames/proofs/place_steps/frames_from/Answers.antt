use Rattle.std.proofs.Common.{sym}
use Rattle.audio_frames.proofs.Formats.{rest_whole}
use Rattle.audio_frames.proofs.Stepping.{steps_resting, steps_breaking}
use Rattle.audio_frames.proofs.place_steps.frames_from.Goals as goal

pub returns-in-Some : goal.returns-in-Some
returns-in-Some c = steps_breaking c.args.format c.args.bytes.now _ c.args.from c.args.at c.args.places.now c.follow.new.places c.requires.within
    (sym (rest_whole c.args.bytes.now c.args.from)) c.in_ok-followed.followed c.in-Some.fault c.in-Some.is c.in_ok-followed.ensures

pub returns-in-None : goal.returns-in-None
returns-in-None c = steps_resting c.args.format c.args.bytes.now _ c.args.from c.args.at c.args.places.now c.follow.new.places c.requires.within
    (sym (rest_whole c.args.bytes.now c.args.from)) c.in_ok-followed.followed c.in-None.is c.in_ok-followed.ensures
