use Rattle.std.proofs.Common.{length, subst, sym}
use Rattle.audio_frames.specs.declared.place_steps.Stage.{Stage}
use Rattle.audio_frames.specs.Private.Steps.{Steps}
use Rattle.audio_frames.proofs.Stepping.{steps_off}
use Rattle.audio_frames.proofs.place_steps.step.Goals as goal

pub returns-in-Broken : goal.returns-in-Broken
returns-in-Broken c =
    subst (λ (s : Stage). Steps s c.args.bytes.now c.args.at c.args.places.now c.args.places.now (record { done = length c.args.bytes.now; stage = s })) (sym c.in-Broken.is)
    (steps_off _ c.args.bytes.now c.args.at c.args.places.now)
