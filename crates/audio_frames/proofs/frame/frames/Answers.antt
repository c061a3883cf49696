use Rattle.std.proofs.Common.{List, ℕ, length, refl, sym, subst, arith}
use Rattle.audio_frames.specs.Private.Packets.{IsTimedFor}
use Rattle.audio_frames.proofs.Certain.{timed_for, time_refused, on_error}
use Rattle.audio_frames.proofs.Stepping.{on_ok}
use Rattle.audio_frames.proofs.frame.frames.Goals as goal

pub returns-clause-frames : goal.returns-clause-frames
returns-clause-frames c =
    on_ok c.timed_frames.result _ _ (λ frames each. each c.args.payload.now
    (subst (λ (ps : List ℕ). IsTimedFor c.args.payload.now ps (length c.args.payload.now) c.hertz.result) (sym c.as_slice.ensures)
    (timed_for c.args.payload.now c.end_search.new.places c.in_ok-format.format _ c.hertz.result refl
    (c.in_ok-format.ensures.all c.args.payload.now c.new-places.ensures (λ k lt. absurd (omega (arith, lt))) (omega arith, refl)) c.hertz.ensures.value)))
    c.timed_frames.ensures.frames

pub returns-clause-refused : goal.returns-clause-refused
returns-clause-refused c =
    on_error c.timed_frames.result _ _ (λ fault each. time_refused c.args.payload.now c.args.starts.now fault (each c.args.payload.now
    (subst (λ (ps : List ℕ). IsTimedFor c.args.payload.now ps (length c.args.payload.now) c.hertz.result) (sym c.as_slice.ensures)
    (timed_for c.args.payload.now c.end_search.new.places c.in_ok-format.format _ c.hertz.result refl
    (c.in_ok-format.ensures.all c.args.payload.now c.new-places.ensures (λ k lt. absurd (omega (arith, lt))) (omega arith, refl)) c.hertz.ensures.value))))
    c.timed_frames.ensures.refused
