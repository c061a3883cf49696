use Rattle.video_headers.proofs.Flags.{answers-limited_flag, answers-no_limited_flag}
use Rattle.video_headers.proofs.fields.read_limited_flag.Goals as goal

pub returns-in_err-bit : goal.returns-in_err-bit
returns-in_err-bit g c = λ r is. answers-no_limited_flag c.args.limit r is c.from_residual.result c.from_residual.ensures.1 c.in_err-bit.ensures.answers

pub returns : goal.returns
returns g c = λ r is. answers-limited_flag c.args.limit r is c.in_ok-bit.bit c.in_ok-bit.ensures.below c.in_ok-bit.ensures.answers
