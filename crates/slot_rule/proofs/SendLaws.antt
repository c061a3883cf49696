-- What stays of the states once packets that are gone are left out, and what the send of one packet changes.
use Rattle.std.proofs.Common.{◌≡◌, ℕ, ◌<◌, ◌≤◌, All, List, length, get_or, set, sym, ap, subst, ◌∙◌, length-set, arith}
use Rattle.std.proofs.lemmas.Option.{same_Some, slice_get-get_or, get_or_from_slice_get}
use Rattle.version_table.specs.declared.table.Table.{Table}
use Rattle.slot_rule.specs.declared.queue_items.QueueItems.{QueueItems}
use Rattle.slot_rule.specs.declared.queue_state.QueueState.{QueueState}
use Rattle.slot_rule.specs.Private.Slots.{Sends, SendsOne}
use Rattle.slot_rule.specs.Private.QueueItems.{IsPlace}
use Rattle.slot_rule.specs.Private.States.{ChangesEach, IsPlaced, ReleasesAll, queue_of}
use Rattle.slot_rule.specs.Private.QueueState.{IsKind, IsNumbered, IsReady, KeepsPlace, packets_at}
use Rattle.slot_rule.specs.Queues.{QueueKind, QueuedPacket}
use Rattle.list_types.proofs.Lists.{slice_get-set_same, slice_get-set_other}

pub released_placed : (table : Table) (choice : List ℕ) (start : ℕ) (old new : QueueState) → ReleasesAll table choice start old new
    → IsPlaced table choice old → IsPlaced table choice new
released_placed table choice start old new released placed =
    let same : old.items ≡ new.items = sym (ap (λ (s : QueueState). s.items) released.releases.changed) in
    record {
      place = subst (λ (s : QueueItems). IsPlace table choice s) same placed.place;
      numbered = subst (λ (s : QueueItems). All IsNumbered (packets_at table choice s)) same placed.numbered;
      keeps = subst (λ (s : QueueItems). KeepsPlace (packets_at table choice s) new) same released.keeps;
    }

pub released_ready : (table : Table) (choice : List ℕ) (start : ℕ) (old new : QueueState) → ReleasesAll table choice start old new → IsReady old → IsReady new
released_ready table choice start old new released ready =
    let changed = released.releases.changed in
    let tb : new.tb_empty ≡ old.tb_empty = ap (λ (s : QueueState). s.tb_empty) changed in
    let mb : new.mb_empty ≡ old.mb_empty = ap (λ (s : QueueState). s.mb_empty) changed in
    let sent : new.sent ≡ old.sent = ap (λ (s : QueueState). s.sent) changed in
    let fewer : new.held ≤ old.held = released.releases.fewer in
    let kind : old.kind ≡ new.kind = sym (ap (λ (s : QueueState). s.kind) changed) in
    let head : old.head ≡ new.head = sym (ap (λ (s : QueueState). s.head) changed) in
    let small = ready.small in
    record {
      small = record { tb = omega (arith, small.tb); mb = omega (arith, small.mb); sent = omega (arith, small.sent); held = omega (arith, small.held) };
      kind = subst (λ (k : QueueKind). IsKind k) kind ready.kind;
      payload = λ packet is. ready.payload packet (head ∙ is);
      gone = λ packet is. ready.gone packet (head ∙ is);
    }

-- what holds of each state goes over a change of each
pub All-over : (R : QueueState → QueueState → Type 0) (P Q : QueueState → Type 0) (olds news : List QueueState) → ChangesEach R olds news
    → ((old new : QueueState) → R old new → P old → Q new)
    → All P olds → All Q news
All-over R P Q olds news changes over each k d within =
    let within' : k < length olds = omega (arith, changes.as_many) in
    over (get_or olds k d) (get_or news k d) (changes.each k (get_or olds k d) (get_or news k d) (slice_get-get_or olds k d within') (slice_get-get_or news k d within)) (each k d within')

pub SendsOne-set : (table : Table) (choice : List ℕ) (stream : ℕ) (packet : QueuedPacket) (now : ℕ) (olds : List QueueState) (d new : QueueState) → stream < length olds
    → Sends (queue_of table choice (get_or olds stream d)).packets packet now (get_or olds stream d) new → SendsOne table choice stream packet now olds (set olds stream new)
SendsOne-set table choice stream packet now olds d new within sends = record {
  as_many = length-set olds stream new;
  own = λ old new' there there'.
      let old_is : get_or olds stream d ≡ old = get_or_from_slice_get olds stream old d there in
      let new_is : new ≡ new' = same_Some new new' (sym (slice_get-set_same olds stream new within) ∙ there') in
      subst (λ (n : QueueState). Sends (queue_of table choice old).packets packet now old n) new_is (subst (λ (o : QueueState). Sends (queue_of table choice o).packets packet now o new) old_is sends);
  others = λ other apart. slice_get-set_other olds stream other new apart;
}
