use Rattle.std.proofs.Common.{◌+◌, ◌≤◌, length, sym, ap, ◌∙◌, arith}
use Rattle.audio_frames.specs.Private.Format.{has_format}
use Rattle.audio_frames.proofs.Appended.{never_first, first_is}
use Rattle.audio_frames.proofs.Formats.{no_header, rest_whole}
use Rattle.audio_frames.proofs.sought.judge_candidate.Goals as goal

pub returns-in_default : goal.returns-in_default
returns-in_default c = never_first c.args.bytes.now (omega arith) (no_header c.args.bytes.now (sym c.in_default.ensures.header))

pub returns-then-goes_on : goal.returns-then-goes_on
returns-then-goes_on c =
    let header = c.in-Some.header in
    let far : header.len + 4 ≤ length c.args.bytes.now = omega arith in
    let long : 4 ≤ length c.args.bytes.now = omega (arith, far) in (
      sym c.in-Some.ensures.header,
      λ more. first_is c.args.bytes.now more header (sym c.in-Some.ensures.header) long far
          ∙ ap (has_format header) (sym (rest_whole c.args.bytes.now header.len)) ∙ sym c.goes_on.ensures ∙ c.if-goes_on.true,
    )

pub returns-else-goes_on : goal.returns-else-goes_on
returns-else-goes_on c =
    let header = c.in-Some.header in
    let far : header.len + 4 ≤ length c.args.bytes.now = omega arith in
    let long : 4 ≤ length c.args.bytes.now = omega (arith, far) in
    λ more. first_is c.args.bytes.now more header (sym c.in-Some.ensures.header) long far
    ∙ ap (has_format header) (sym (rest_whole c.args.bytes.now header.len)) ∙ sym c.goes_on.ensures ∙ c.if-goes_on.false
