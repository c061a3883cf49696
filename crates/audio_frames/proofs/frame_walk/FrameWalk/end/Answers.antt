use Rattle.std.proofs.Common.{◌+◌, List, ℕ, sym, ◌∙◌, subst, arith}
use Rattle.audio_frames.specs.Private.Packets.{IsTimedFor}
use Rattle.audio_frames.proofs.Certain.{timed_for, time_refused, on_error, rest_size}
use Rattle.audio_frames.proofs.Stepping.{on_ok}
use Rattle.audio_frames.proofs.frame_walk.FrameWalk.end.Goals as goal

pub returns-clause-frames : goal.returns-clause-frames
returns-clause-frames c =
    on_ok c.timed_frames.result _ _ (λ frames each payload walked. each payload
    (subst (λ (ps : List ℕ). IsTimedFor payload ps (c.args.self.at + c.len.result) c.hertz.result) (sym c.as_slice-2.ensures)
    (timed_for payload c.end_stage.new.places c.in_ok-format.format (c.args.self.at + c.len.result) c.hertz.result
    (omega (arith, rest_size payload c.args.self.kept.items c.args.self.at (walked.within, walked.kept)))
    (c.in_ok-format.ensures.all payload walked.settled (walked.within, walked.kept ∙ sym c.as_slice.ensures.value)) c.hertz.ensures.value)))
    c.timed_frames.ensures.frames

pub returns-clause-refused : goal.returns-clause-refused
returns-clause-refused c =
    on_error c.timed_frames.result _ _ (λ fault each payload walked. time_refused payload c.args.starts.now fault (each payload
    (subst (λ (ps : List ℕ). IsTimedFor payload ps (c.args.self.at + c.len.result) c.hertz.result) (sym c.as_slice-2.ensures)
    (timed_for payload c.end_stage.new.places c.in_ok-format.format (c.args.self.at + c.len.result) c.hertz.result
    (omega (arith, rest_size payload c.args.self.kept.items c.args.self.at (walked.within, walked.kept)))
    (c.in_ok-format.ensures.all payload walked.settled (walked.within, walked.kept ∙ sym c.as_slice.ensures.value)) c.hertz.ensures.value))))
    c.timed_frames.ensures.refused
