use Rattle.std.proofs.Common.{◌≡◌, ◌≢◌, ◌+◌, length, ℕ, refl, sym, subst, ◌∙◌, SFits, w64, rules, arith}
use Rattle.std.proofs.lemmas.Bool.{eqb-false, eqb-true}
use Rattle.std.proofs.lemmas.Int.{ints, to_z-of_z}
use Rattle.std.specs.Prelude.{slice_index}
use Rattle.audio_frames.proofs.Chains.{some_frame}
use Rattle.audio_frames.proofs.Timed.{TimedUpTo, timed_first, timed_more, timed_all, out_of_order}
use Rattle.audio_frames.proofs.frame_times.timed_frames.Goals as goal

pub start-requires-clause-first : goal.start-requires-clause-first
start-requires-clause-first c =
    let some : length c.args.places.now ≢ 0 = eqb-false (length c.args.places.now) 0 (sym c.is_empty.ensures ∙ c.if-is_empty.false) in
    c.requires.starts.first (omega (arith, c.requires.apart.inside 0 (omega (arith, some))))

pub returns-then-is_empty-clause-frames : goal.returns-then-is_empty-clause-frames
returns-then-is_empty-clause-frames c = λ payload timed.
    (let none : length c.args.places.now ≡ 0 = eqb-true (length c.args.places.now) 0 (sym c.is_empty.ensures ∙ c.if-is_empty.true) in
    absurd (omega (arith, none, (some_frame payload c.args.places.now timed.all).0)))

pub loop-frame-init : goal.loop-frame-init
loop-frame-init c = rw c.new-frames.ensures (timed_first c.args.size c.args.rate c.args.starts.now c.args.places.now
    c.in-Some.clock c.in-Some.ensures.clock c.in-Some.ensures.rate)

pub next-next-requires-clause-behind : goal.next-next-requires-clause-behind
next-next-requires-clause-behind c = omega (arith, c.requires.apart.rising c.loop-frame.frame (omega arith))

pub returns-then-next-clock-clause-refused : goal.returns-then-next-clock-clause-refused
returns-then-next-clock-clause-refused c = λ payload timed.
    out_of_order payload c.args.rate c.args.starts.now c.args.places.now c.loop-frame.frame c.loop-frame.clock c.next-next.result
    c.loop-frame.begin c.loop-frame.frames timed.all timed.rate_is
    (subst (λ (n : ℕ). TimedUpTo n c.args.rate c.args.starts.now c.args.places.now c.loop-frame.frame c.loop-frame.clock c.loop-frame.begin c.loop-frame.frames) (sym timed.long) c.loop-frame.invariant)
    c.next-next.ensures.clock c.next-next.ensures.rate (omega arith) (omega (arith, ints, c.if-next-clock.true))

pub frame_of-requires : goal.frame_of-requires
frame_of-requires c = omega (arith, c.loop-frame.invariant.begun, c.requires.apart.rising c.loop-frame.frame (omega arith))

pub loop-frame-preserved : goal.loop-frame-preserved
loop-frame-preserved c =
    let fits : SFits w64 c.loop-frame.clock.time = search rules in
    rw c.in_ok-push.ensures.ok (timed_more c.args.size c.args.rate c.args.starts.now c.args.places.now c.loop-frame.frame
    c.loop-frame.clock c.next-next.result c.loop-frame.begin
    (slice_index c.args.places.now (c.loop-frame.frame + 1)) c.loop-frame.frames c.frame_of.result
    c.loop-frame.invariant c.next-next.ensures.clock c.next-next.ensures.rate (omega arith) refl
    (omega (arith, ints, c.if-next-clock.false)) c.frame_of.ensures.at c.frame_of.ensures.end
    (c.frame_of.ensures.time ∙ to_z-of_z w64 c.loop-frame.clock.time fits))

pub frame_of-requires-2 : goal.frame_of-requires-2
frame_of-requires-2 c =
    let some : length c.args.places.now ≢ 0 = eqb-false (length c.args.places.now) 0 (sym c.is_empty.ensures ∙ c.if-is_empty.false) in
    omega (arith, c.loop-frame.invariant.begun, c.requires.apart.inside c.loop-frame.frame (omega (arith, some)))

pub returns-clause-frames : goal.returns-clause-frames
returns-clause-frames c = λ payload timed.
    (let fits : SFits w64 c.loop-frame.clock.time = search rules in
    let some : length c.args.places.now ≢ 0 = eqb-false (length c.args.places.now) 0 (sym c.is_empty.ensures ∙ c.if-is_empty.false) in
    rw c.in_ok-push-2.ensures.ok (timed_all payload c.args.rate c.args.starts.now c.args.places.now c.loop-frame.frame
    c.loop-frame.clock c.loop-frame.begin c.loop-frame.frames c.frame_of-2.result timed.all timed.rate_is
    (subst (λ (n : ℕ). TimedUpTo n c.args.rate c.args.starts.now c.args.places.now c.loop-frame.frame c.loop-frame.clock c.loop-frame.begin c.loop-frame.frames) (sym timed.long) c.loop-frame.invariant)
    (omega (arith, some)) c.frame_of-2.ensures.at (c.frame_of-2.ensures.end ∙ sym timed.long) (c.frame_of-2.ensures.time ∙ to_z-of_z w64 c.loop-frame.clock.time fits)))
