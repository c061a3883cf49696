use Rattle.std.proofs.Common.{List, ℕ, drop, refl, subst, below_more, arith}
use Rattle.audio_frames.specs.declared.sought.Candidate.TheVariants.{First}
use Rattle.audio_frames.specs.Walk.{NeverFirst}
use Rattle.audio_frames.specs.Private.Sought.{IsCandidate}
use Rattle.audio_frames.proofs.Formats.{rest_whole}
use Rattle.audio_frames.proofs.Rests.{never_rest, always_rest}
use Rattle.audio_frames.proofs.sought.seek.Goals as goal

pub returns-in-First : goal.returns-in-First
returns-in-First c =
    let bytes = c.args.bytes.now in
    let at = c.loop-at.at in
    let found : IsCandidate (drop at bytes) (First c.in-First.header) = subst (λ (b : List ℕ). IsCandidate b (First c.in-First.header)) (rest_whole bytes at) c.in-First.ensures in
    record {
      within = omega arith;
      passed = c.loop-at.invariant;
      found = (found.0, always_rest bytes (drop at bytes) at (omega arith) refl found.1);
    }

pub loop-at-preserved : goal.loop-at-preserved
loop-at-preserved c =
    let bytes = c.args.bytes.now in
    let at = c.loop-at.at in
    below_more _ _ c.loop-at.invariant (never_rest bytes (drop at bytes) at (omega arith) refl (subst (λ (b : List ℕ). NeverFirst b 0) (rest_whole bytes at) c.in-Other.ensures))
