-- What is kept of all queues over a slot: what is gone is left out, a PCR goes, a packet goes.
use Rattle.std.proofs.Common.{◌≡◌, ℕ, ◌+◌, ◌*◌, ◌^◌, ◌<◌, ◌≤◌, ◌⊎◌, max, All, List, length, get_or, set, slice_get, Option, Some, refl, sym, ap, subst, ◌∙◌, inl, inr, le_refl, length-set, arith}
use Rattle.std.specs.List.{refill}
use Rattle.std.proofs.lemmas.Bool.{cases_eq, cases_lt}
use Rattle.std.proofs.lemmas.Option.{same_Some, slice_get_within, slice_get-get_or}
use Rattle.version_table.specs.declared.table.Table.{Table}
use Rattle.stream_constants.specs.declared.packets.TheConstants.{PACKET_BYTES}
use Rattle.slot_rule.specs.declared.queue_state.QueueState.{QueueState}
use Rattle.slot_rule.specs.declared.turns.Turn.{Turn}
use Rattle.slot_rule.specs.Buffers.{queue_tb_subticks}
use Rattle.slot_rule.specs.Queues.{QueuedPacket}
use Rattle.slot_rule.specs.Private.Heads.{IsFirst, NoneGoneBefore, PassesAt}
use Rattle.slot_rule.specs.Private.QueueState.{HoldsUntil, IsReady, KeepsPlace, packets_at}
use Rattle.slot_rule.specs.Private.Slots.{IsSender, Sends, SendsOne}
use Rattle.slot_rule.specs.Private.States.{ChangesEach, IsPlaced, ReleasesAll, TakesPcr, queue_of}
use Rattle.slot_rule.specs.Private.Turns.{AreTurns, IsTurnOrder, PassesTurn, turn_of}
use Rattle.slot_rule.proofs.BringLaws.{pcr_cases}
use Rattle.slot_rule.proofs.Places.{All-at_place}
use Rattle.list_types.proofs.Lists.{slice_get-set_same}
use Rattle.slot_rule.proofs.SendLaws.{All-over, SendsOne-set, released_placed, released_ready}
use Rattle.slot_rule.proofs.TurnLaws.{AreTurns-kept, AreTurns-passed, NoneGoneBefore-kept, refill_all}

-- ---- what is gone is left out
-- nothing is left out of a state that holds nothing that is gone
pub releases_none : (table : Table) (choice : List ℕ) (start first : ℕ) (states : List QueueState) → All (IsPlaced table choice) states
    → NoneGoneBefore states first → start < first
    → ChangesEach (ReleasesAll table choice start) states states
releases_none table choice start first states placed none before = record {
  as_many = refl;
  each = λ stream old new there there'.
      let same : old ≡ new = same_Some old new (sym there ∙ there') in
      let keeps = (All-at_place (IsPlaced table choice) states placed stream old there).keeps in
      subst (λ (s : QueueState). ReleasesAll table choice start old s) same
      (record {
        keeps = keeps;
        releases = record { changed = refl; rises = le_refl old.gone; fewer = le_refl old.held; gone = λ k packet from to. absurd (omega arith) };
        rest = λ packet some got. (let later = none stream old there packet some (keeps.oldest ∙ got) in omega arith);
      });
}

pub released_turns : (table : Table) (choice : List ℕ) (start : ℕ) (olds news : List QueueState) (turns : List Turn)
    → ChangesEach (ReleasesAll table choice start) olds news → AreTurns olds turns
    → AreTurns news turns
released_turns table choice start olds news turns changes are =
    AreTurns-kept (ReleasesAll table choice start) olds news turns changes (λ old new released. ap (λ (s : QueueState). s.head) released.releases.changed) are

-- ---- a PCR goes
TakesPcr-cases : (program now : ℕ) (old new : QueueState) → TakesPcr program now old new
    → (new ≡ record old { tb_empty = max old.tb_empty now + PACKET_BYTES * queue_tb_subticks old.kind }) ⊎ (new ≡ old)
TakesPcr-cases program now old new takes =
    elim (pcr_cases old.kind program 0) as (λ _. (new ≡ record old { tb_empty = max old.tb_empty now + PACKET_BYTES * queue_tb_subticks old.kind }) ⊎ (new ≡ old)) [
      | inl own ↦ inl (takes.own own.0)
      | inr other ↦ inr (takes.other other.0)
    ]

pub pcr_turns : (program now : ℕ) (olds news : List QueueState) (turns : List Turn) → ChangesEach (TakesPcr program now) olds news → AreTurns olds turns → AreTurns news turns
pcr_turns program now olds news turns changes are =
    AreTurns-kept (TakesPcr program now) olds news turns changes
    (λ old new takes. elim (TakesPcr-cases program now old new takes) as (λ _. new.head ≡ old.head) [
      | inl own ↦ ap (λ (s : QueueState). s.head) own
      | inr same ↦ ap (λ (s : QueueState). s.head) same
    ]) are

pub pcr_gone : (program now : ℕ) (olds news : List QueueState) (time : ℕ) → ChangesEach (TakesPcr program now) olds news → NoneGoneBefore olds time → NoneGoneBefore news time
pcr_gone program now olds news time changes none =
    NoneGoneBefore-kept (TakesPcr program now) olds news time changes
    (λ old new takes holds. elim (TakesPcr-cases program now old new takes) as (λ _. HoldsUntil time new) [
      | inl own ↦ subst (λ (s : QueueState). HoldsUntil time s) (sym own) (λ packet some oldest. holds packet some oldest)
      | inr same ↦ subst (λ (s : QueueState). HoldsUntil time s) (sym same) holds
    ]) none

-- ---- a packet goes
-- the turns, once the turn of the packet has passed
pub sent_turns : (table : Table) (choice : List ℕ) (stream place now : ℕ) (packet : QueuedPacket) (next : Option QueuedPacket) (olds news : List QueueState) (turns turns' : List Turn)
    → IsSender table choice olds stream packet → SendsOne table choice stream packet now olds news
    → ((new : QueueState) → slice_get news stream ≡ Some new → next ≡ new.head) → AreTurns olds turns → slice_get turns place ≡ Some (turn_of stream packet)
    → IsTurnOrder turns' → PassesTurn place next turns turns' → AreTurns news turns'
sent_turns table choice stream place now packet next olds news turns turns' sender sends next_is are at order passes =
    let within : stream < length news = omega (arith, slice_get_within olds stream sender.state sender.there, sends.as_many) in
    let new = get_or news stream sender.state in
    let there : slice_get news stream ≡ Some new = slice_get-get_or news stream sender.state within in
    AreTurns-passed olds news place stream sender.state new packet turns turns' are at there sends.others order
    (subst (λ (n : Option QueuedPacket). PassesTurn place n turns turns') (next_is new there) passes)

-- a queue whose packet goes holds none that is gone before it held, nor before the packet is
own_gone : (packets : List QueuedPacket) (old new : QueueState) (packet : QueuedPacket) (time both : ℕ) → KeepsPlace packets old
    → old.head ≡ Some packet → new.gone ≡ old.gone → new.sent ≡ old.sent + 1
    → new.oldest ≡ old.oldest → both ≤ time → both ≤ packet.gone → HoldsUntil time old → HoldsUntil both new
own_gone packets old new packet time both keeps head gone sent oldest low low' holds packet' some is =
    let order = keeps.order in
    elim (cases_lt old.gone old.sent) as (λ _. both ≤ packet'.gone) [
      | inl held ↦ (let later = holds packet' held (sym oldest ∙ is) in omega arith)
      | inr none ↦
          (let same : old.gone ≡ old.sent = omega arith in
          let packet_is : packet ≡ packet' = same_Some packet packet' (sym head ∙ keeps.head ∙ ap (λ n. slice_get packets n) (sym same) ∙ sym keeps.oldest ∙ sym oldest ∙ is) in
          subst (λ (p : QueuedPacket). both ≤ p.gone) packet_is low')
    ]

-- what is held, with the packet
pub sent_gone : (table : Table) (choice : List ℕ) (stream now time both : ℕ) (packet : QueuedPacket) (olds news : List QueueState) → IsSender table choice olds stream packet
    → SendsOne table choice stream packet now olds news → both ≤ time → both ≤ packet.gone → NoneGoneBefore olds time → NoneGoneBefore news both
sent_gone table choice stream now time both packet olds news sender sends low low' none other state there =
    elim (cases_eq other stream) as (λ _. HoldsUntil both state) [
      | inl own ↦
          (let old = sender.state in
          let sent = sends.own sender.state state sender.there (ap (λ n. slice_get news n) (sym own) ∙ there) in
          own_gone (packets_at table choice sender.state.items) sender.state state packet time both sender.placed.keeps sender.head (ap (λ (s : QueueState). s.gone) sent.changed)
          (ap (λ (s : QueueState). s.sent) sent.changed) (ap (λ (s : QueueState). s.oldest) sent.changed) low low' (none stream sender.state sender.there))
      | inr apart ↦ (let holds = none other state (sym (sends.others other apart) ∙ there) in λ packet' some oldest. (let later = holds packet' some oldest in omega arith))
    ]

-- what holds of the sender's state holds of the state that is read at its place
pub at_read : (P : QueueState → Type 0) (table : Table) (choice : List ℕ) (olds read : List QueueState) (stream : ℕ) (packet : QueuedPacket) (d : QueueState) → read ≡ olds
    → (sender : IsSender table choice olds stream packet) → P sender.state → P (get_or read stream d)
at_read P table choice olds read stream packet d same sender holds =
    let within : stream < length olds = slice_get_within olds stream sender.state sender.there in
    let state_is : sender.state ≡ get_or olds stream d = same_Some _ _ (sym sender.there ∙ slice_get-get_or olds stream d within) in
    subst P (state_is ∙ ap (λ (list : List QueueState). get_or list stream d) (sym same)) holds

-- ---- a state that is written back
-- the states, with one written in a list that is known under another name
pub written : (olds read : List QueueState) (stream : ℕ) (new : QueueState) → read ≡ olds → refill (length olds) olds (set read stream new) ≡ set olds stream new
written olds read stream new same =
    refill_all (length olds) olds (set read stream new) (length-set read stream new ∙ ap (λ (list : List QueueState). length list) same) ∙ ap (λ (list : List QueueState). set list stream new) same

pub sends_written : (table : Table) (choice : List ℕ) (stream : ℕ) (packet : QueuedPacket) (now : ℕ) (olds read : List QueueState) (d new : QueueState)
    → read ≡ olds → stream < length olds
    → Sends (queue_of table choice (get_or read stream d)).packets packet now (get_or read stream d) new
    → SendsOne table choice stream packet now olds (refill (length olds) olds (set read stream new))
sends_written table choice stream packet now olds read d new same within sends =
    subst (λ (list : List QueueState). SendsOne table choice stream packet now olds list) (sym (written olds read stream new same))
    (SendsOne-set table choice stream packet now olds d new within
    (subst (λ (list : List QueueState). Sends (queue_of table choice (get_or list stream d)).packets packet now (get_or list stream d) new) same sends))

pub written_there : (olds read : List QueueState) (stream : ℕ) (new new' : QueueState) → read ≡ olds → stream < length olds
    → slice_get (refill (length olds) olds (set read stream new)) stream ≡ Some new'
    → new ≡ new'
written_there olds read stream new new' same within there =
    same_Some new new' (sym (slice_get-set_same olds stream new within) ∙ ap (λ (list : List QueueState). slice_get list stream) (sym (written olds read stream new same)) ∙ there)

-- the packet that goes first is the head of its queue, once what is gone is left out
pub IsSender-released : (table : Table) (choice : List ℕ) (start : ℕ) (olds news : List QueueState) (stream : ℕ) (packet : QueuedPacket) → length olds < 2 ^ 32
    → ChangesEach (ReleasesAll table choice start) olds news → All (IsPlaced table choice) olds → All IsReady olds → IsFirst (PassesAt start) news stream packet
    → IsSender table choice news stream packet
IsSender-released table choice start olds news stream packet few changes placed ready is = record {
  few = omega (arith, changes.as_many);
  state = is.state;
  there = is.there;
  placed = All-at_place (IsPlaced table choice) news
      (All-over (ReleasesAll table choice start) (IsPlaced table choice) (IsPlaced table choice) olds news changes (released_placed table choice start) placed) stream is.state is.there;
  small = (All-at_place IsReady news (All-over (ReleasesAll table choice start) IsReady IsReady olds news changes (released_ready table choice start) ready) stream is.state is.there).small;
  head = is.head;
}
