use Rattle.std.proofs.Common.{◌≡◌, ◌+◌, ◌-◌, ◌≤◌, ◌++◌, List, ℕ, length, take, drop, sym, ap, ◌∙◌, subst, arith}
use Rattle.std.proofs.lemmas.List.{length-take-le, take-append-drop, take_all}
use Rattle.std.proofs.Math.Seq.{take-append-add}
use Rattle.audio_frames.specs.Walk.{IsWalked}
use Rattle.audio_frames.proofs.Stepping.{on_ok}
use Rattle.audio_frames_tests.proofs.walk_tests.walked.Goals as goal

joined : (payload : List ℕ) (from to : ℕ) → from ≤ to → to ≤ length payload → take from payload ++ take (to - from) (drop from payload) ≡ take to payload
joined payload from to order within =
    let size : length (take from payload) ≡ from = length-take-le from payload (omega (arith, order, within)) in
    let sum : length (take from payload) + (to - from) ≡ to = omega (arith, size, order) in
    sym (take-append-add (take from payload) (drop from payload) (to - from))
    ∙ ap (λ (xs : List ℕ). take (length (take from payload) + (to - from)) xs) (take-append-drop from payload)
    ∙ ap (λ (n : ℕ). take n payload) sum

pub loop-from-preserved : goal.loop-from-preserved
loop-from-preserved c =
    let payload = c.args.payload.now in
    let from = c.loop-from.from in
    let to = from + c.min-count.result in
    let within : to ≤ length payload = omega arith in
    record {
      within = within;
      seen = omega (arith, c.in_ok-walk.ensures.seen, c.loop-from.invariant.seen, length-take-le (to - from) (drop from payload));
      walked = subst (λ (xs : List ℕ). IsWalked xs c.in_ok-walk.walk) (joined payload from to (omega arith) within) (c.in_ok-walk.ensures.walked (take from payload) c.loop-from.invariant.walked);
    }

pub returns-clause-frames : goal.returns-clause-frames
returns-clause-frames c =
    let payload = c.args.payload.now in
    let whole : take c.loop-from.from payload ≡ payload = take_all c.loop-from.from payload (omega arith) in
    on_ok c.end.result _ _ (λ frames each. each payload (subst (λ (xs : List ℕ). IsWalked xs c.loop-from.walk) whole c.loop-from.invariant.walked)) c.end.ensures.frames
