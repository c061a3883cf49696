use Rattle.std.proofs.Common.{◌≤◌, ◌^◌, [], List, All, refl, sym, subst, arith}
use Rattle.std.proofs.lemmas.List.Elements.{All-push}
use Rattle.tstd_model.specs.declared.decoder_input.Removal.{Removal}
use Rattle.stream_audit.proofs.FrameLaws.{frame_counted, next_standing, removal_more}
use Rattle.stream_audit.proofs.frame_removals.frame_removals.Goals as goal

pub loop-frame-init : goal.loop-frame-init
loop-frame-init c = record {
  stands = record { at = 0; chained = c.requires.chained; earlier = []; split = refl; before = λ k packet less. absurd (omega (arith, less)); climb = c.requires.climb };
  same = c.new-removals.ensures;
  fit = subst (λ (removals : List Removal). All (λ removal. removal.due ≤ 2 ^ 53) removals) (sym c.new-removals.ensures) (λ k removal less. absurd (omega (arith, less)));
}

pub loop-frame-preserved : goal.loop-frame-preserved
loop-frame-preserved c =
    let was = c.loop-frame.invariant in
    let packets = c.args.packets.now in
    let frames = c.args.frames.now in
    let i = c.loop-frame.frame-index in
    let ahead = c.loop-frame.headers.packets.now in
    let now = c.count_before.new.self.packets.now in
    record {
      stands = next_standing packets frames i _ ahead now c.count_before.result c.loop-frame-test.true was.stands c.count_before.ensures;
      same = removal_more c.args.clock.now packets frames i _ c.loop-frame.removals c.push.new.self c.removed.result c.count_before.result c.loop-frame-test.true was.same
          c.in_ok-push.ensures.ok c.removed.ensures.value (frame_counted packets frames i _ ahead now c.count_before.result c.loop-frame-test.true was.stands c.count_before.ensures);
      fit = subst (λ (removals : List Removal). All (λ removal. removal.due ≤ 2 ^ 53) removals) (sym c.in_ok-push.ensures.ok)
          (All-push (λ (removal : Removal). removal.due ≤ 2 ^ 53) c.loop-frame.removals _ was.fit c.removed.ensures.most);
    }
