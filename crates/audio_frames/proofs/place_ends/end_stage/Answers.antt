use Rattle.std.proofs.Common.{subst}
use Rattle.audio_frames.specs.Walk.{IsSettled}
use Rattle.audio_frames.proofs.Certain.{stage_ends, stage_refused}
use Rattle.audio_frames.proofs.place_ends.end_stage.Goals as goal

pub returns-in-Frames-clause-all : goal.returns-in-Frames-clause-all
returns-in-Frames-clause-all c = λ payload settled rest.
    stage_ends payload c.args.places.now c.args.at c.in-Frames.format (subst (IsSettled payload c.args.places.now c.args.at) c.in-Frames.is settled)

pub returns-in-Broken-clause-refused : goal.returns-in-Broken-clause-refused
returns-in-Broken-clause-refused c = λ payload settled rest.
    stage_refused payload c.args.places.now c.args.at c.in-Broken.fault (subst (IsSettled payload c.args.places.now c.args.at) c.in-Broken.is settled)
