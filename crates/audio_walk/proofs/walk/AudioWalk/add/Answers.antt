use Rattle.std.proofs.Common.{◌≡◌, ◌+◌, ◌++◌, ◌∷◌, [], ℕ, List, drop, length, refl, ap, subst, ◌∙◌, arith, length-append}
use Rattle.audio_frames.specs.Walk.{IsWalked}
use Rattle.elementary_streams.specs.Packets.{joined}
use Rattle.elementary_streams.proofs.TakenLemmas.{held_more}
use Rattle.audio_walk.specs.AudioWalk.{HasRate}
use Rattle.audio_walk.proofs.walk.AudioWalk.add.Goals as goal

pub returns : goal.returns
returns c packets is =
    let walk = c.args.self in
    let payload = c.bytes_behind-payload.result.now in
    let all = packets ++ c.args.packet.now ∷ [] in
    let end : walk.bytes + length payload ≡ length (joined packets ++ payload) = omega (arith, is.bytes, length-append (joined packets) payload) in
    let both = held_more packets c.args.packet.now (joined packets) payload walk.packets.items walk.bytes (walk.bytes + length payload) c.args.header refl is.placed c.requires.header
    (c.bytes_behind-payload.ensures ∙ ap (λ (xs : List ℕ). drop c.args.header.len xs) c.as_slice.ensures) is.bytes end in
    let walked = c.in_ok-frames.ensures.walked (joined packets) is.walked in
    record {
      placed = c.in_ok-push.ensures.items ∙ both.1;
      bytes = end ∙ ap length both.0;
      walked = subst (λ (bytes : List ℕ). IsWalked bytes c.in_ok-frames.frames) both.0 walked;
      rate = subst (λ (bytes : List ℕ). HasRate bytes c.push-3.new.self) both.0 (c.in_ok-push-2.ensures (joined packets) is.rate walked);
    }
