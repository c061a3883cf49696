use Rattle.std.proofs.Common.{ap, ◌∙◌}
use Rattle.audio_frames.specs.Frames.{has_low_rate}
use Rattle.audio_walk.proofs.Rates.{rate_known, rate_sought}
use Rattle.audio_walk.proofs.first_rate.FirstRate.is_low.Goals as goal

pub returns-in-Some : goal.returns-in-Some
returns-in-Some c payload has = rate_known payload c.args.self.now.bytes.items c.args.self.now.low c.in-Some.low has c.in-Some.is

pub returns-in-None : goal.returns-in-None
returns-in-None c payload has =
    c.has_low_rate.ensures ∙ ap has_low_rate c.as_slice.ensures.value ∙ rate_sought payload c.args.self.now.bytes.items c.args.self.now.low has c.in-None.is
