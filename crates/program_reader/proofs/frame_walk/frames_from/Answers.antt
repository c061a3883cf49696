use Rattle.std.proofs.Common.{List, length, subst, sym, ap, ◌∙◌, refl, arith}
use Rattle.std.proofs.lemmas.List.{nil_from_length}
use Rattle.audio_frames.specs.declared.frame.Frame.{Frame}
use Rattle.program_reader.specs.Audio.{time_of_byte}
use Rattle.program_reader.specs.Private.FrameWalk.{IsFirstFrame}
use Rattle.program_reader.proofs.FrameLemmas.{frame_passed}
use Rattle.program_reader.proofs.frame_walk.frames_from.Goals as goal

pub loop-frame-init : goal.loop-frame-init
loop-frame-init c = λ later le. refl

pub returns-then-ends_behind-clause-first : goal.returns-then-ends_behind-clause-first
returns-then-ends_behind-clause-first c = subst (IsFirstFrame c.args.place) (sym c.in-Some.ensures.cases.0) (sym c.ends_behind.ensures ∙ c.if-ends_behind.true)

pub loop-frame-smaller : goal.loop-frame-smaller
loop-frame-smaller c = omega (arith, ap (λ (xs : List Frame). length xs) c.in-Some.ensures.cases.0)

pub loop-frame-preserved : goal.loop-frame-preserved
loop-frame-preserved c = λ later le.
    frame_passed c.in-Some.frame.now c.in-Some.behind.now c.args.place later le (sym c.ends_behind.ensures ∙ c.if-ends_behind.false)
    ∙ ap (λ (fs : List Frame). time_of_byte fs later) (sym c.in-Some.ensures.cases.0) ∙ c.loop-frame.invariant later le

pub returns-clause-first : goal.returns-clause-first
returns-clause-first c = subst (IsFirstFrame c.args.place) (sym (nil_from_length c.loop-frame.left.now c.in_default.ensures.cases)) tt
