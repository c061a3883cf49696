use Rattle.video_headers.proofs.Flags.{answers-flag, answers-no_flag}
use Rattle.video_headers.proofs.fields.read_flag.Goals as goal

pub returns-in_err-bit : goal.returns-in_err-bit
returns-in_err-bit g c = answers-no_flag c.from_residual.result c.from_residual.ensures.1 c.in_err-bit.ensures.answers

pub returns : goal.returns
returns g c = answers-flag c.in_ok-bit.bit c.in_ok-bit.ensures.below c.in_ok-bit.ensures.answers
