use Rattle.std.proofs.Common.{◌≡◌, drop}
use Rattle.video_headers.specs.Private.Limits.{first_broken}
use Rattle.video_headers.proofs.limit.first_broken.Given as goal

abbrev pub invariant-loop-limit : goal.invariant-loop-limit
invariant-loop-limit l = first_broken l.low l.high (drop l.limit-index l.limits) ≡ first_broken l.fn.least l.fn.most l.fn.limits
