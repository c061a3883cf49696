-- The states over one slot: packets that are gone are left out, the row brings work, work is done.
use Rattle.std.proofs.Common.{
  ◌≡◌,
  ℕ,
  ◌+◌,
  ◌-◌,
  ◌*◌,
  ◌<◌,
  ◌≤◌,
  ◌⊎◌,
  false,
  List,
  [],
  ◌∷◌,
  ◌++◌,
  length,
  map,
  get_or,
  slice_get,
  count_by,
  Some,
  None,
  refl,
  sym,
  ap,
  subst,
  ◌∙◌,
  inl,
  inr,
  cond,
  max,
  add-zero,
  mul-zero,
  mul-one,
  le_trans,
  mul-le-mul_right,
  arith,
}
use Rattle.std.proofs.lemmas.Bool.{cases_eq, cases_lt}
use Rattle.std.proofs.lemmas.List.{length_push, length-map, get_or-map, same_lists}
use Rattle.std.proofs.lemmas.Option.{slice_get-get_or, slice_get_within}
use Rattle.version_table.specs.declared.table.Table.{Table}
use Rattle.stream_constants.specs.declared.decoder.TheConstants.{MB_SUBTICKS}
use Rattle.stream_constants.specs.declared.packets.TheConstants.{PACKET_BYTES}
use Rattle.slot_rule.specs.declared.sent.Sent.TheVariants.{Pcr}
use Rattle.slot_rule.specs.declared.queue_items.QueueItems.{QueueItems}
use Rattle.slot_rule.specs.declared.queue_state.QueueState.{QueueState}
use Rattle.slot_rule.specs.Buffers.{Row, Reserved, Carries, is_of, packets_in, payload_in, slot_subticks, queue_tb_subticks, tb_work, mb_work}
use Rattle.slot_rule.specs.Private.Slots.{HasRun, Sends, Tracks, subtick_after}
use Rattle.slot_rule.specs.Private.QueueItems.{IsPlace, queue_at}
use Rattle.slot_rule.specs.Private.States.{ChangesEach, ReleasesAll, TakesPcr, places_kept, queue_of}
use Rattle.slot_rule.specs.Private.QueueState.{HasPcr, HoldsNoneGone, IsKind, KeepsPlace, packets_at}
use Rattle.slot_rule.specs.Queues.{QueueKind, Video, Audio, QueuedPacket}
use Rattle.slot_rule.proofs.RuleSent.{count-push, count-carried, count-reserved}
use Rattle.slot_rule.proofs.RuleWork.{tb_work-push, mb_work-push, packets_in-carried, payload_in-carried, packets_in-pcr, packets_in-other_pcr}
use Rattle.slot_rule.proofs.TrackLaws.{AllHoldNoneGone}

-- lists of states whose elements have the same streams
pub same_places : (olds news : List QueueState) → length news ≡ length olds
    → ((stream : ℕ) (old new : QueueState) → slice_get olds stream ≡ Some old → slice_get news stream ≡ Some new → new.items ≡ old.items)
    → places_kept news ≡ places_kept olds
same_places olds news many sources =
    same_lists (places_kept news) (places_kept olds) (length-map news (λ s. s.items) ∙ many ∙ sym (length-map olds (λ s. s.items)))
    (λ k d within.
    let below : k < length news = omega (arith, length-map news (λ (s : QueueState). s.items)) in
    let below' : k < length olds = omega arith in
    let e : QueueState = record { kind = Audio; items = QueueItems.Packets 0 0; tb_empty = 0; mb_empty = 0; sent = 0; head = None; gone = 0; oldest = None; held = 0 } in
    get_or-map (λ (s : QueueState). s.items) news k e d below
    ∙ sources k (get_or olds k e) (get_or news k e) (slice_get-get_or olds k e below') (slice_get-get_or news k e below)
    ∙ sym (get_or-map (λ (s : QueueState). s.items) olds k e d below'))

pub same_queues : (table : Table) (choice : List ℕ) (olds news : List QueueState) → length news ≡ length olds
    → ((stream : ℕ) (old new : QueueState) → slice_get olds stream ≡ Some old → slice_get news stream ≡ Some new → new.items ≡ old.items)
    → map (queue_of table choice) news ≡ map (queue_of table choice) olds
same_queues table choice olds news many sources =
    same_lists (map (queue_of table choice) news) (map (queue_of table choice) olds) (length-map news (queue_of table choice) ∙ many ∙ sym (length-map olds (queue_of table choice)))
    (λ k d within.
    let below : k < length news = omega (arith, length-map news (queue_of table choice)) in
    let below' : k < length olds = omega arith in
    let e : QueueState = record { kind = Audio; items = QueueItems.Packets 0 0; tb_empty = 0; mb_empty = 0; sent = 0; head = None; gone = 0; oldest = None; held = 0 } in
    get_or-map (queue_of table choice) news k e d below
    ∙ ap (λ (s : QueueItems). queue_at table choice s) (sources k (get_or olds k e) (get_or news k e) (slice_get-get_or olds k e below') (slice_get-get_or news k e below))
    ∙ sym (get_or-map (queue_of table choice) olds k e d below'))

-- ---- packets that are gone are left out
Tracks-release : (table : Table) (choice : List ℕ) (rows : List Row) (stream : ℕ) (old new : QueueState) → ReleasesAll table choice (length rows * table.slot) old new
    → Tracks table choice rows stream old → Tracks table choice rows stream new
Tracks-release table choice rows stream old new released tracks =
    let changed = released.releases.changed in
    let items : old.items ≡ new.items = sym (ap (λ (s : QueueState). s.items) changed) in
    let kind : old.kind ≡ new.kind = sym (ap (λ (s : QueueState). s.kind) changed) in
    let packets : packets_at table choice new.items ≡ packets_at table choice old.items = ap (λ (s : QueueItems). packets_at table choice s) (sym items) in
    record {
      place = subst (λ (s : QueueItems). IsPlace table choice s) items tracks.place;
      sized = subst (λ (k : QueueKind). IsKind k) kind tracks.sized;
      kind = sym kind ∙ tracks.kind ∙ ap (λ (s : QueueItems). (queue_at table choice s).kind) items;
      keeps = subst (λ (s : QueueItems). KeepsPlace (packets_at table choice s) new) items released.keeps;
      sent = ap (λ (s : QueueState). s.sent) changed ∙ tracks.sent;
      gone = λ k packet is got.
          let got' : slice_get (packets_at table choice old.items) k ≡ Some packet = ap (λ (list : List QueuedPacket). slice_get list k) (sym packets) ∙ got in
          elim (cases_lt k old.gone) as (λ _. packet.gone ≤ length rows * table.slot) [
            | inl before ↦ (let rises = released.releases.rises in let same : old.gone ≡ k + 1 = omega arith in tracks.gone k packet same got')
            | inr after ↦ released.releases.gone k packet after (omega arith) got'
          ];
      tb = ap (λ (s : QueueState). s.tb_empty - subtick_after table.slot rows) changed ∙ tracks.tb ∙ ap (λ (k : QueueKind). tb_work table.slot stream k rows) kind;
      mb = ap (λ (s : QueueState). s.mb_empty - subtick_after table.slot rows) changed ∙ tracks.mb;
    }

-- the state that a state was before the change
pub state_before : (R : QueueState → QueueState → Type 0) (olds news : List QueueState) (stream : ℕ) (new : QueueState) → ChangesEach R olds news → slice_get news stream ≡ Some new
    → (old : QueueState) × (slice_get olds stream ≡ Some old) × R old new
state_before R olds news stream new changes there =
    let within : stream < length olds = omega (arith, slice_get_within news stream new there, changes.as_many) in
    let was : slice_get olds stream ≡ Some (get_or olds stream new) = slice_get-get_or olds stream new within in
    (get_or olds stream new, was, changes.each stream (get_or olds stream new) new was there)

pub HasRun-release : (table : Table) (choice : List ℕ) (rows : List Row) (olds news : List QueueState) → ChangesEach (ReleasesAll table choice (length rows * table.slot)) olds news
    → HasRun table choice rows olds → HasRun table choice rows news × AllHoldNoneGone table choice (length rows * table.slot) news
HasRun-release table choice rows olds news changes run = (
  record {
    follows = run.follows;
    queues = same_queues table choice olds news changes.as_many
        (λ stream old new there there'. ap (λ (s : QueueState). s.items) (changes.each stream old new there there').releases.changed) ∙ run.queues;
    places = same_places olds news changes.as_many (λ stream old new there there'. ap (λ (s : QueueState). s.items) (changes.each stream old new there there').releases.changed)
        ∙ run.places;
    tracks = λ stream new there.
        let before = state_before (ReleasesAll table choice (length rows * table.slot)) olds news stream new changes there in
        Tracks-release table choice rows stream before.0 new before.2 (run.tracks stream before.0 before.1);
  },
  (λ stream new there.
      let before = state_before (ReleasesAll table choice (length rows * table.slot)) olds news stream new changes there in
      let items : new.items ≡ before.0.items = ap (λ (s : QueueState). s.items) before.2.releases.changed in
      subst (λ (s : QueueItems). HoldsNoneGone (packets_at table choice s) (length rows * table.slot) new) (sym items) before.2.rest),
)

-- ---- the row brings work
-- the state tells what these rows left of its stream, with the work that one more row brings, before a slot's work is done
pub record Brings (table : Table) (choice : List ℕ) (rows : List Row) (row : Row) (stream : ℕ) (state : QueueState) : Type 0 where
  pub place : IsPlace table choice state.items
  pub sized : IsKind state.kind
  pub kind : state.kind ≡ (queue_of table choice state).kind
  pub keeps : KeepsPlace (packets_at table choice state.items) state
  pub sent : state.sent ≡ count_by (is_of stream) (rows ++ row ∷ [])
  pub gone : (k : ℕ) (packet : QueuedPacket) → state.gone ≡ k + 1 → slice_get (packets_at table choice state.items) k ≡ Some packet → packet.gone ≤ length rows * table.slot
  pub tb : state.tb_empty - subtick_after table.slot rows ≡ tb_work table.slot stream state.kind rows + PACKET_BYTES * queue_tb_subticks state.kind * packets_in stream state.kind row
  pub mb : state.mb_empty - subtick_after table.slot rows ≡ mb_work table.slot stream rows + MB_SUBTICKS * payload_in stream row

-- a row without a packet of the stream
pub Brings-nothing : (table : Table) (choice : List ℕ) (rows : List Row) (row : Row) (stream : ℕ) (state : QueueState) → Tracks table choice rows stream state
    → is_of stream row ≡ false → packets_in stream state.kind row ≡ 0 → payload_in stream row ≡ 0 → Brings table choice rows row stream state
Brings-nothing table choice rows row stream state tracks other packets payload =
    let count : count_by (is_of stream) (rows ++ row ∷ []) ≡ count_by (is_of stream) rows = count-push stream rows row ∙ ap (λ b. count_by (is_of stream) rows + cond b 1 0) other ∙ add-zero _ in
    let brought : PACKET_BYTES * queue_tb_subticks state.kind * packets_in stream state.kind row ≡ 0 = ap (λ n. PACKET_BYTES * queue_tb_subticks state.kind * n) packets ∙ mul-zero _ in
    record {
      place = tracks.place;
      sized = tracks.sized;
      kind = tracks.kind;
      keeps = tracks.keeps;
      sent = tracks.sent ∙ sym count;
      gone = tracks.gone;
      tb = tracks.tb ∙ (let e : tb_work table.slot stream state.kind rows
          ≡ tb_work table.slot stream state.kind rows + PACKET_BYTES * queue_tb_subticks state.kind
          * packets_in stream state.kind row = rw brought (sym (add-zero _)) in e);
      mb = tracks.mb ∙ (let e : mb_work table.slot stream rows ≡ mb_work table.slot stream rows + MB_SUBTICKS * payload_in stream row = rw payload (sym (add-zero _)) in e);
    }

-- the PCR of a program is that of the stream's program, or is not
pub pcr_cases : (kind : QueueKind) (program stream : ℕ)
    → (HasPcr kind program × (packets_in stream kind (Reserved (Pcr program)) ≡ 1)) ⊎ ((HasPcr kind program → ⊥) × (packets_in stream kind (Reserved (Pcr program)) ≡ 0))
pcr_cases Audio program stream = inr ((λ has. has), refl)
pcr_cases (Video number vbv) program stream =
    elim (cases_eq number program) as (λ _. ((number ≡ program) × (packets_in stream (Video number vbv) (Reserved (Pcr program)) ≡ 1))
    ⊎ ((number ≡ program → ⊥) × (packets_in stream (Video number vbv) (Reserved (Pcr program)) ≡ 0))) [
      | inl same ↦ inl (same, packets_in-pcr stream number vbv program (sym same))
      | inr apart ↦ inr (apart, packets_in-other_pcr stream number vbv program (λ e. apart (sym e)))
    ]

pub TakesPcr-items : (program now stream : ℕ) (old new : QueueState) → TakesPcr program now old new → new.items ≡ old.items
TakesPcr-items program now stream old new takes =
    elim (pcr_cases old.kind program stream) as (λ _. new.items ≡ old.items) [
      | inl own ↦ ap (λ (s : QueueState). s.items) (takes.own own.0)
      | inr other ↦ ap (λ (s : QueueState). s.items) (takes.other other.0)
    ]

-- the state's places among these packets don't depend on the work in its buffers
KeepsPlace-work : (packets : List QueuedPacket) (state : QueueState) (tb mb : ℕ) → KeepsPlace packets state → KeepsPlace packets (record state { tb_empty = tb; mb_empty = mb })
KeepsPlace-work packets state tb mb keeps = record { within = keeps.within; head = keeps.head; order = keeps.order; oldest = keeps.oldest; held = keeps.held }

-- work comes to a buffer that has some left at a time, or none
raised : (empty now work waits : ℕ) → empty - now ≡ waits → (max empty now + work) - now ≡ waits + work
raised empty now work waits e = omega arith

-- a PCR on the stream's PID
Brings-own_pcr : (table : Table) (choice : List ℕ) (rows : List Row) (program stream : ℕ) (old : QueueState)
    → packets_in stream old.kind (Reserved (Pcr program)) ≡ 1 → Tracks table choice rows stream old
    → Brings table choice rows (Reserved (Pcr program)) stream (record old { tb_empty = max old.tb_empty (subtick_after table.slot rows) + PACKET_BYTES * queue_tb_subticks old.kind })
Brings-own_pcr table choice rows program stream old one tracks =
    let brought : PACKET_BYTES * queue_tb_subticks old.kind ≡ PACKET_BYTES * queue_tb_subticks old.kind * packets_in stream old.kind (Reserved (Pcr program)) = rw one (sym (mul-one _)) in
    record {
      place = tracks.place;
      sized = tracks.sized;
      kind = tracks.kind;
      keeps = KeepsPlace-work (packets_at table choice old.items) old (max old.tb_empty (subtick_after table.slot rows) + PACKET_BYTES * queue_tb_subticks old.kind) old.mb_empty tracks.keeps;
      sent = tracks.sent ∙ sym (count-reserved stream (Pcr program) rows);
      gone = tracks.gone;
      tb = raised old.tb_empty (subtick_after table.slot rows) (PACKET_BYTES * queue_tb_subticks old.kind) _ tracks.tb ∙ ap (λ n. tb_work table.slot stream old.kind rows + n) brought;
      mb = tracks.mb ∙ sym (add-zero _);
    }

-- the PCR of a program
pub Brings-pcr : (table : Table) (choice : List ℕ) (rows : List Row) (program stream : ℕ) (old new : QueueState)
    → TakesPcr program (subtick_after table.slot rows) old new → Tracks table choice rows stream old
    → Brings table choice rows (Reserved (Pcr program)) stream new
Brings-pcr table choice rows program stream old new takes tracks =
    elim (pcr_cases old.kind program stream) as (λ _. Brings table choice rows (Reserved (Pcr program)) stream new) [
      | inl own ↦ subst (λ (s : QueueState). Brings table choice rows (Reserved (Pcr program)) stream s) (sym (takes.own own.0)) (Brings-own_pcr table choice rows program stream old own.1 tracks)
      | inr other ↦ subst (λ (s : QueueState). Brings table choice rows (Reserved (Pcr program)) stream s) (sym (takes.other other.0))
          (Brings-nothing table choice rows (Reserved (Pcr program)) stream old tracks refl other.1 refl)
    ]

-- a packet of the stream
pub Brings-packet : (table : Table) (choice : List ℕ) (rows : List Row) (stream : ℕ) (packet : QueuedPacket) (old new : QueueState)
    → Sends (queue_of table choice old).packets packet (subtick_after table.slot rows) old new
    → Tracks table choice rows stream old → Brings table choice rows (Carries stream packet) stream new
Brings-packet table choice rows stream packet old new sends tracks =
    let row : Row = Carries stream packet in
    let after : QueueState = record old {
      tb_empty = max old.tb_empty (subtick_after table.slot rows) + PACKET_BYTES
          * queue_tb_subticks old.kind;
      mb_empty = max old.mb_empty (subtick_after table.slot rows) + MB_SUBTICKS * packet.payload;
      sent = old.sent
          + 1;
      head = new.head;
      held = old.held + packet.payload;
    } in
    let one : packets_in stream old.kind (Carries stream packet) ≡ 1 = packets_in-carried stream stream old.kind packet refl in
    let payload : payload_in stream (Carries stream packet) ≡ packet.payload = payload_in-carried stream stream packet refl in
    let brought : PACKET_BYTES * queue_tb_subticks old.kind ≡ PACKET_BYTES * queue_tb_subticks old.kind * packets_in stream old.kind (Carries stream packet) = rw one (sym (mul-one _)) in
    let brings : Brings table choice rows (Carries stream packet) stream after = record {
      place = tracks.place;
      sized = tracks.sized;
      kind = tracks.kind;
      keeps = subst (λ (s : QueueState). KeepsPlace (packets_at table choice old.items) s) sends.changed sends.keeps;
      sent = ap (λ n. n + 1) tracks.sent ∙ sym (count-carried stream stream packet rows refl);
      gone = tracks.gone;
      tb = raised old.tb_empty (subtick_after table.slot rows) (PACKET_BYTES * queue_tb_subticks old.kind) _ tracks.tb ∙ ap (λ n. tb_work table.slot stream old.kind rows + n) brought;
      mb = raised old.mb_empty (subtick_after table.slot rows) (MB_SUBTICKS * packet.payload) _ tracks.mb ∙ ap (λ n. mb_work table.slot stream rows + MB_SUBTICKS * n) (sym payload);
    } in
    subst (λ (s : QueueState). Brings table choice rows (Carries stream packet) stream s) (sym sends.changed) brings

-- ---- the slot passes
-- what waits at a time waits at a later one, less the time between
passed : (empty now slot next waits brought : ℕ) → next ≡ now + slot → empty - now ≡ waits + brought → empty - next ≡ (waits + brought) - slot
passed empty now slot next waits brought later e = omega arith

-- the state is not touched while a slot passes
pub Tracks-passed : (table : Table) (choice : List ℕ) (rows : List Row) (row : Row) (stream : ℕ) (state : QueueState) → Brings table choice rows row stream state
    → Tracks table choice (rows ++ row ∷ []) stream state
Tracks-passed table choice rows row stream state brings =
    let later : length rows * table.slot ≤ length (rows ++ row ∷ []) * table.slot = rw length_push (mul-le-mul_right table.slot (let e : length rows ≤ length rows + 1 = omega arith in e)) in
    let next : subtick_after table.slot (rows ++ row ∷ []) ≡ subtick_after table.slot rows + slot_subticks table.slot = rw length_push (omega arith) in
    record {
      place = brings.place;
      sized = brings.sized;
      kind = brings.kind;
      keeps = brings.keeps;
      sent = brings.sent;
      gone = λ k packet is got. le_trans (brings.gone k packet is got) later;
      tb = passed state.tb_empty (subtick_after table.slot rows) (slot_subticks table.slot) _ _ _ next brings.tb ∙ sym (tb_work-push table.slot stream state.kind rows row);
      mb = passed state.mb_empty (subtick_after table.slot rows) (slot_subticks table.slot) _ _ _ next brings.mb ∙ sym (mb_work-push table.slot stream rows row);
    }
