use Rattle.std.proofs.Common.{◌≡◌, ◌+◌, slice_get, Some, refl, sym, ap, subst, ◌∙◌}
use Rattle.slot_rule.specs.declared.queue_items.QueueItems.{QueueItems}
use Rattle.slot_rule.specs.declared.queue_state.QueueState.{QueueState}
use Rattle.slot_rule.specs.Private.QueueState.{IsNumbered, packets_at}
use Rattle.slot_rule.proofs.Places.{All-at_place}
use Rattle.slot_rule.proofs.StateLaws.{KeepsPlace-release, Releases-more}
use Rattle.slot_rule.proofs.queue_state.QueueState.release.Goals as goal

pub overflow_sub-self : goal.overflow_sub-self
overflow_sub-self c =
    let packets = packets_at c.args.table.now c.args.choice.now c.args.self.now.items in
    (KeepsPlace-release packets c.loop-self.self c.in-Some.packet (slice_get packets (c.loop-self.self.gone + 1)) c.loop-self.invariant.keeps c.loop-self-test.true c.in-Some.is refl).0

pub packet_after-self-requires-clause-numbered : goal.packet_after-self-requires-clause-numbered
packet_after-self-requires-clause-numbered c =
    let packets = packets_at c.args.table.now c.args.choice.now c.args.self.now.items in
    All-at_place IsNumbered packets c.requires.numbered c.loop-self.self.gone c.in-Some.packet (sym c.loop-self.invariant.keeps.oldest ∙ c.in-Some.is)

pub loop-self-preserved : goal.loop-self-preserved
loop-self-preserved c =
    let table = c.args.table.now in
    let choice = c.args.choice.now in
    let packets = packets_at table choice c.args.self.now.items in
    let state = c.loop-self.self in
    let packet = c.in-Some.packet in
    let got : slice_get packets state.gone ≡ Some packet = sym c.loop-self.invariant.keeps.oldest ∙ c.in-Some.is in
    let items : state.items ≡ c.args.self.now.items = ap (λ (s : QueueState). s.items) c.loop-self.invariant.releases.changed in
    let after = subst (λ (s : QueueItems). slice_get (packets_at table choice s) state.gone ≡ Some packet
    → c.packet_after-self.result ≡ slice_get (packets_at table choice s) (state.gone + 1)) items (c.packet_after-self.ensures state.gone) in
    record {
      keeps = (KeepsPlace-release packets state packet c.packet_after-self.result c.loop-self.invariant.keeps c.loop-self-test.true c.in-Some.is (after got)).1;
      releases = Releases-more packets c.args.start c.args.self.now state packet c.packet_after-self.result c.loop-self.invariant.releases got c.if-start-packet.false;
    }
