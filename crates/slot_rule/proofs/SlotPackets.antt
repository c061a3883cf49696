-- The packets of a queue stand in the slots of a schedule in its order, each once.
use Rattle.std.proofs.Common.{
  ◌≡◌,
  ℕ,
  ◌%◌,
  ◌≤◌,
  Bool,
  true,
  false,
  eqb,
  leb,
  eq-eqb,
  ne_eqb,
  if◌then◌else◌,
  List,
  [],
  ◌∷◌,
  ◌++◌,
  length,
  map,
  slice_get,
  count_by,
  nat_le,
  ◌-◌,
  ◌*◌,
  Option,
  Some,
  None,
  refl,
  sym,
  ap,
  ap₂,
  ◌∙◌,
  inl,
  inr,
}
use Rattle.std.specs.List.{filter}
use Rattle.std.proofs.lemmas.Bool.{cases_eq}
use Rattle.std.proofs.lemmas.List.{map-append, map_push, take_all}
use Rattle.std.proofs.lemmas.List.Elements.{filter-append}
use Rattle.std.proofs.lemmas.Option.{none-some, same_Some, slice_get_cases}
use Rattle.version_table.specs.declared.table.Table.{Table}
use Rattle.slot_rule.specs.Buffers.{Row, Reserved, Carries, Empty, is_of}
use Rattle.slot_rule.specs.Queues.{QueueKind, Video, Audio, QueuedPacket, Queue, queues_of}
use Rattle.slot_rule.specs.Schedule.{AllSent, FollowRule}
use Rattle.slot_rule.specs.SlotList.{IsSlotList, is_sent_of, kind_at, piece_sent, sent_of}
use Rattle.slot_rule.specs.Timetable.{period, reserved_at}
use Rattle.slot_rule.specs.declared.sent.Sent.{Sent}
use Rattle.slot_rule.specs.declared.sent.Sent.TheVariants.{Pat, Pmt, Pcr}
use Rattle.slot_rule.specs.declared.slot_list.SlotList.{SlotList}
use Rattle.slot_rule.proofs.RuleFronts.{by_push}
use Rattle.slot_rule.proofs.RuleRows.{IsNext, FollowRule-front, FollowRule-last}
use Rattle.slot_rule.proofs.RuleSent.{FollowRule-sent, packet_of, packet_of-carried, packet_of-other, packets_sent, packets_sent-push}
use Rattle.slot_rule.proofs.SlotListLaws.{kind_at-head}

-- ---- what the timetable has in a slot is of no queue
reserved_if : (stream : ℕ) (b : Bool) (own : Sent) (rest : Option Sent) (sent : Sent) → is_sent_of stream own ≡ false → (rest ≡ Some sent → is_sent_of stream sent ≡ false)
    → (if b then Some own else rest) ≡ Some sent → is_sent_of stream sent ≡ false
reserved_if stream true own rest sent none later e = ap (is_sent_of stream) (sym (same_Some own sent e)) ∙ none
reserved_if stream false own rest sent none later e = later e

reserved_of_none : (stream programs offset : ℕ) (sent : Sent) → reserved_at programs offset ≡ Some sent → is_sent_of stream sent ≡ false
reserved_of_none stream programs offset sent e =
    let pcr : Option Sent = if nat_le offset (2 * programs) then Some (Pcr (offset - programs - 1)) else None in
    let pmt : Option Sent = if nat_le offset programs then Some (Pmt (offset - 1)) else pcr in
    reserved_if stream (eqb offset 0) Pat pmt sent refl
    (reserved_if stream (leb offset programs) (Pmt (offset - 1)) pcr sent refl
    (reserved_if stream (leb offset (2 * programs)) (Pcr (offset - programs - 1)) None sent refl (λ none. absurd (none-some sent none)))) e

-- ---- what a row's slot shows of a queue is the packet that the row carries of it
is_sent_of-piece : (kind : QueueKind) (stream s : ℕ) (packet : QueuedPacket) → is_sent_of stream (piece_sent kind s packet) ≡ eqb s stream
is_sent_of-piece (Video program vbv) stream s packet = refl
is_sent_of-piece Audio stream s packet = refl

filter-one : (stream : ℕ) (sent : Sent) → is_sent_of stream sent ≡ true → filter (is_sent_of stream) (sent ∷ []) ≡ sent ∷ []
filter-one stream sent own = ap (λ b. if b then sent ∷ [] else []) own

filter-none : (stream : ℕ) (sent : Sent) → is_sent_of stream sent ≡ false → filter (is_sent_of stream) (sent ∷ []) ≡ []
filter-none stream sent other = ap (λ b. if b then sent ∷ [] else []) other

row_shows : (table : Table) (choice : List ℕ) (stream : ℕ) (kind : QueueKind) (packets : List QueuedPacket) (rows : List Row) (row : Row)
    → slice_get (queues_of table choice) stream ≡ Some (record { kind = kind; packets = packets }) → IsNext table choice rows row
    → filter (is_sent_of stream) (sent_of (queues_of table choice) row ∷ []) ≡ map (piece_sent kind stream) (packet_of stream row)
row_shows table choice stream kind packets rows (Reserved sent) got next =
    filter-none stream sent (reserved_of_none stream (length table.programs) (length rows % period table.slot) sent next)
row_shows table choice stream kind packets rows Empty got next = refl
row_shows table choice stream kind packets rows (Carries s packet) got next =
    let queues = queues_of table choice in
    let shown : Sent = piece_sent (kind_at queues s) s packet in
    elim (cases_eq s stream) as (λ _. filter (is_sent_of stream) (sent_of queues (Carries s packet) ∷ []) ≡ map (piece_sent kind stream) (packet_of stream (Carries s packet))) [
      | inl e ↦
          (let own : is_sent_of stream shown ≡ true = is_sent_of-piece (kind_at queues s) stream s packet ∙ eq-eqb s stream e in
          let there : slice_get queues stream ≡ Some (record { kind = next.1.kind; packets = next.1.head.0 }) = ap (λ n. slice_get queues n) (sym e) ∙ next.1.head.1 in
          let kinds : next.1.kind ≡ kind = ap (λ (q : Queue). q.kind) (same_Some _ _ (sym there ∙ got)) in
          let kind_is : kind_at queues s ≡ kind = kind_at-head queues rows s next.1.kind packet next.1.head ∙ kinds in
          filter-one stream shown own ∙ ap₂ (λ (k : QueueKind) (n : ℕ). piece_sent k n packet ∷ []) kind_is e ∙ ap (map (piece_sent kind stream)) (sym (packet_of-carried stream s packet e)))
      | inr apart ↦
          filter-none stream shown (is_sent_of-piece (kind_at queues s) stream s packet ∙ ne_eqb s stream apart) ∙ ap (map (piece_sent kind stream)) (sym (packet_of-other stream s packet apart))
    ]

-- ---- what all slots show of a queue
slots_show : (table : Table) (choice : List ℕ) (stream : ℕ) (kind : QueueKind) (packets : List QueuedPacket)
    → slice_get (queues_of table choice) stream ≡ Some (record { kind = kind; packets = packets }) → (rows : List Row) → FollowRule table choice rows
    → filter (is_sent_of stream) (map (sent_of (queues_of table choice)) rows) ≡ map (piece_sent kind stream) (packets_sent stream rows)
slots_show table choice stream kind packets got =
    let queues = queues_of table choice in
    by_push (λ rows. FollowRule table choice rows → filter (is_sent_of stream) (map (sent_of queues) rows) ≡ map (piece_sent kind stream) (packets_sent stream rows)) (λ follows. refl)
    (λ rows row before follows.
    ap (filter (is_sent_of stream)) (map_push (sent_of queues) rows row) ∙ filter-append (is_sent_of stream) (map (sent_of queues) rows) (sent_of queues row ∷ [])
    ∙ ap₂ ◌++◌ (before (FollowRule-front table choice rows (row ∷ []) follows)) (row_shows table choice stream kind packets rows row got (FollowRule-last table choice rows row follows))
    ∙ sym (ap (map (piece_sent kind stream)) (packets_sent-push stream rows row) ∙ map-append (piece_sent kind stream) (packets_sent stream rows) (packet_of stream row)))

-- where all is sent, the packets in the rows are all of the queue
all_sent : (table : Table) (choice : List ℕ) (stream : ℕ) (kind : QueueKind) (packets : List QueuedPacket)
    → slice_get (queues_of table choice) stream ≡ Some (record { kind = kind; packets = packets }) → (rows : List Row) → FollowRule table choice rows
    → AllSent (queues_of table choice) rows
    → packets_sent stream rows ≡ packets
all_sent table choice stream kind packets got rows follows sent =
    let first = FollowRule-sent table choice stream kind packets got rows follows in
    let long : length packets ≤ count_by (is_of stream) rows = elim (slice_get_cases packets (count_by (is_of stream) rows)).1 as (λ _. length packets ≤ count_by (is_of stream) rows) [
      | inl at ↦ absurd (sent stream kind at.0 (packets, got, at.2))
      | inr past ↦ past.0
    ] in
    first.1 ∙ take_all (count_by (is_of stream) rows) packets long

pub packets_in_slots : (table : Table) (choice : List ℕ) (stream : ℕ) (queue : Queue) (list : SlotList)
    → slice_get (queues_of table choice) stream ≡ Some queue → IsSlotList table choice list
    → filter (is_sent_of stream) list.rows ≡ map (piece_sent queue.kind stream) queue.packets
packets_in_slots table choice stream queue list got is =
    ap (filter (is_sent_of stream)) is.rows_are ∙ slots_show table choice stream queue.kind queue.packets got is.rows is.schedule.follows
    ∙ ap (map (piece_sent queue.kind stream)) (all_sent table choice stream queue.kind queue.packets got is.rows is.schedule.follows is.schedule.sent)
