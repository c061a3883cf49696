-- What a stream's state keeps through its steps.
use Rattle.std.proofs.Common.{◌≡◌, ℕ, ◌+◌, ◌<◌, ◌≤◌, ◌-◌, All, List, length, get_or, slice_get, Option, Some, sym, ap, ◌∙◌, inl, inr, arith}
use Rattle.std.proofs.lemmas.Bool.{cases_lt}
use Rattle.std.proofs.lemmas.Option.{same_Some, slice_get_within, get_or_from_slice_get}
use Rattle.slot_rule.specs.declared.queue_state.QueueState.{QueueState}
use Rattle.stream_constants.specs.declared.decoder.TheConstants.{AUDIO_TB_SUBTICKS}
use Rattle.slot_rule.specs.Buffers.{queue_tb_subticks}
use Rattle.slot_rule.specs.Private.QueueState.{IsNumbered, KeepsPlace, Releases, held_bytes}
use Rattle.slot_rule.specs.Queues.{QueueKind, Video, Audio, QueuedPacket}
use Rattle.slot_rule.proofs.Places.{All-at_place}
use Rattle.slot_rule.proofs.RuleSent.{held-push, held-pop}

-- a byte takes at most so long to leave the transport buffer
pub tb_subticks-le : (kind : QueueKind) → queue_tb_subticks kind ≤ AUDIO_TB_SUBTICKS
tb_subticks-le (Video program vbv) = omega arith
tb_subticks-le Audio = omega arith

-- the head packet is one of the packets
pub head_numbered : (packets : List QueuedPacket) (state : QueueState) (packet : QueuedPacket) → All IsNumbered packets → KeepsPlace packets state → state.head ≡ Some packet
    → IsNumbered packet
head_numbered packets state packet numbered keeps head = All-at_place IsNumbered packets numbered state.sent packet (sym keeps.head ∙ head)

-- the head packet goes
pub KeepsPlace-send : (packets : List QueuedPacket) (old : QueueState) (packet : QueuedPacket) (next : Option QueuedPacket) (tb mb : ℕ) → KeepsPlace packets old
    → old.head ≡ Some packet → next ≡ slice_get packets (old.sent + 1)
    → KeepsPlace packets (record old { tb_empty = tb; mb_empty = mb; sent = old.sent + 1; head = next; held = old.held + packet.payload })
KeepsPlace-send packets old packet next tb mb keeps head next_is =
    let got : slice_get packets old.sent ≡ Some packet = sym keeps.head ∙ head in
    let within : old.sent < length packets = slice_get_within packets old.sent packet got in
    let here : get_or packets old.sent packet ≡ packet = get_or_from_slice_get packets old.sent packet packet got in
    let order = keeps.order in
    record {
      within = omega arith;
      head = next_is;
      order = omega arith;
      oldest = keeps.oldest;
      held = ap (λ n. n + packet.payload) keeps.held ∙ sym (held-push old.gone old.sent packets packet keeps.order within
          ∙ ap (λ (p : QueuedPacket). held_bytes old.gone old.sent packets + p.payload) here);
    }

-- the oldest packet that is held is gone
pub KeepsPlace-release : (packets : List QueuedPacket) (old : QueueState) (packet : QueuedPacket) (next : Option QueuedPacket) → KeepsPlace packets old → old.gone < old.sent
    → old.oldest ≡ Some packet → next ≡ slice_get packets (old.gone + 1)
    → (packet.payload ≤ old.held) × KeepsPlace packets (record old { gone = old.gone + 1; oldest = next; held = old.held - packet.payload })
KeepsPlace-release packets old packet next keeps some oldest next_is =
    let within = keeps.within in
    let got : slice_get packets old.gone ≡ Some packet = sym keeps.oldest ∙ oldest in
    let here : get_or packets old.gone packet ≡ packet = get_or_from_slice_get packets old.gone packet packet got in
    let held_is : old.held ≡ packet.payload + held_bytes (old.gone + 1) old.sent packets =
    keeps.held ∙ held-pop old.gone old.sent packets packet some keeps.within ∙ ap (λ (p : QueuedPacket). p.payload + held_bytes (old.gone + 1) old.sent packets) here in (
      omega arith,
      record { within = keeps.within; head = keeps.head; order = omega arith; oldest = next_is; held = omega arith },
    )

-- one more packet is gone
pub Releases-more : (packets : List QueuedPacket) (start : ℕ) (old new : QueueState) (packet : QueuedPacket) (next : Option QueuedPacket) → Releases packets start old new
    → slice_get packets new.gone ≡ Some packet → packet.gone ≤ start
    → Releases packets start old (record new { gone = new.gone + 1; oldest = next; held = new.held - packet.payload })
Releases-more packets start old new packet next released got past =
    let rises = released.rises in
    let fewer = released.fewer in
    record {
      changed = ap (λ (s : QueueState). record s { gone = new.gone + 1; oldest = next; held = new.held - packet.payload }) released.changed;
      rises = omega arith;
      fewer = omega arith;
      gone = λ k p from to at. elim (cases_lt k new.gone) as (λ _. p.gone ≤ start) [
        | inl before ↦ released.gone k p from before at
        | inr here ↦ (let same : k ≡ new.gone = omega arith in
            let is : p ≡ packet = same_Some p packet (sym at ∙ ap (λ i. slice_get packets i) same ∙ got) in rw is past)
      ];
    }
