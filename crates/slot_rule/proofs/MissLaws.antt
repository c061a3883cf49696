-- What the states after a row tell of misses, said of the rows; and the states before the first slot.
use Rattle.std.proofs.Common.{
  ◌≡◌,
  ℕ,
  ◌+◌,
  ◌-◌,
  ◌*◌,
  ◌<◌,
  ◌≤◌,
  ◌⊎◌,
  Bool,
  false,
  cond,
  All,
  List,
  [],
  ◌∷◌,
  ◌++◌,
  length,
  map,
  count_by,
  slice_get,
  Some,
  None,
  refl,
  sym,
  ap,
  subst,
  ◌∙◌,
  inl,
  inr,
  zero-le,
  le_refl,
  mul-le-mul_left,
  arith,
}
use Rattle.std.proofs.Math.Nat.{zero-sub}
use Rattle.std.proofs.lemmas.List.{length_push, same_from_push}
use Rattle.std.proofs.lemmas.List.Sums.{sum_by-append}
use Rattle.std.proofs.lemmas.Option.{same_Some, slice_get_within}
use Rattle.version_table.specs.declared.limits.TheConstants.{TIME_SLOTS_MOST}
use Rattle.version_table.specs.declared.table.Table.{Table}
use Rattle.version_table.specs.Table.{IsValidTable}
use Rattle.version_table.specs.Choice.{Fits}
use Rattle.slot_rule.specs.declared.after.After.{After}
use Rattle.slot_rule.specs.declared.after.After.TheVariants.{Missed, Waiting}
use Rattle.stream_constants.specs.declared.clock.TheConstants.{SUBTICKS_PER_TICK}
use Rattle.slot_rule.specs.declared.sent.Miss.{Miss}
use Rattle.slot_rule.specs.declared.queue_state.QueueState.{QueueState}
use Rattle.slot_rule.specs.declared.run_state.RunState.{RunState}
use Rattle.slot_rule.specs.Buffers.{Row, Reserved, Carries, Empty, is_of, tb_work}
use Rattle.slot_rule.specs.Private.Heads.{IsFirst, IsFirstHead, Passes}
use Rattle.slot_rule.specs.Schedule.{AllSent, IsHead, Misses, NoMiss, SentLate, end_with_margin, mb_or_tb_work, IsFirstMiss, IsSchedule, IsScheduled}
use Rattle.slot_rule.specs.SlotList.{CarriesPacket}
use Rattle.slot_rule.specs.Private.Runs.{IsFirstRun, IsRun, Reached}
use Rattle.slot_rule.specs.Private.Slots.{ComesLate, FirstOverdue, HasRun, NoneLate, NoneOverdue, RowStands, TellsAfter, Tracks, subtick_after}
use Rattle.slot_rule.specs.Private.States.{AreOfStreams, IsFirstState, queue_of}
use Rattle.slot_rule.specs.Private.QueueState.{KeepsPlace, mb_or_tb_of_kind, mb_or_tb_of_state}
use Rattle.slot_rule.specs.Queues.{QueueKind, Video, Audio, QueuedPacket, Queue, queues_of}
use Rattle.slot_rule.proofs.Places.{All-at_place}
use Rattle.slot_rule.proofs.RuleEnd.{AllSent-at_end}
use Rattle.slot_rule.proofs.RuleRows.{IsNext, NoneMisses, FollowRule-nil, NoMiss-nil, NoMiss-push}
use Rattle.slot_rule.proofs.RuleQueues.{IsHead-limited}
use Rattle.slot_rule.proofs.TrackLaws.{head_from_state, state_from_head, state_there, stream_there}

-- ---- before the first slot
Tracks-first : (table : Table) (choice : List ℕ) (stream : ℕ) (state : QueueState) → IsFirstState table choice state → Tracks table choice [] stream state
Tracks-first table choice stream state first =
    let packets = (queue_of table choice state).packets in
    let is = first.state_is in
    let none : List Row = [] in
    let zero_gone : state.gone ≡ 0 = ap (λ (s : QueueState). s.gone) is in
    let zero_sent : state.sent ≡ 0 = ap (λ (s : QueueState). s.sent) is in
    record {
      place = first.place;
      sized = first.kind;
      kind = ap (λ (s : QueueState). s.kind) is;
      keeps = subst (λ (s : QueueState). KeepsPlace packets s) (sym is) (record { within = zero-le; head = refl; order = le_refl 0; oldest = refl; held = refl });
      sent = zero_sent;
      gone = λ k packet e got. absurd (omega arith);
      tb = ap (λ (s : QueueState). s.tb_empty - subtick_after table.slot none) is ∙ zero-sub _;
      mb = ap (λ (s : QueueState). s.mb_empty - subtick_after table.slot none) is ∙ zero-sub _;
    }

pub HasRun-first : (table : Table) (choice : List ℕ) (states : List QueueState) → map (queue_of table choice) states ≡ queues_of table choice → AreOfStreams table states
    → All (IsFirstState table choice) states
    → HasRun table choice [] states
HasRun-first table choice states queues places first = record {
  follows = FollowRule-nil table choice;
  queues = queues;
  places = places;
  tracks = λ stream state there. Tracks-first table choice stream state (All-at_place (IsFirstState table choice) states first stream state there);
}

-- ---- after a row
mb_or_tb_work-is : (table : Table) (choice : List ℕ) (rows : List Row) (stream : ℕ) (state : QueueState) → Tracks table choice rows stream state
    → (kind : QueueKind) → state.kind ≡ kind → mb_or_tb_work table.slot stream kind rows ≡ mb_or_tb_of_state state (subtick_after table.slot rows)
mb_or_tb_work-is table choice rows stream state tracks (Video program vbv) e = sym
    (ap (λ (k : QueueKind). mb_or_tb_of_kind k (state.tb_empty - subtick_after table.slot rows) (state.mb_empty - subtick_after table.slot rows)) e
    ∙ tracks.mb)
mb_or_tb_work-is table choice rows stream state tracks Audio e =
    sym (ap (λ (k : QueueKind). mb_or_tb_of_kind k (state.tb_empty - subtick_after table.slot rows) (state.mb_empty - subtick_after table.slot rows))
    e ∙ tracks.tb ∙ ap (λ (k : QueueKind). tb_work table.slot stream k rows) e)

module _ (table : Table) (choice : List ℕ) (rows : List Row) (row : Row) (states : List QueueState) (run : HasRun table choice (rows ++ row ∷ []) states) (next : IsNext table choice rows row) where
  -- the kind of a stream that is said of a head packet is that of its state
  kind_of_head : (stream : ℕ) (kind : QueueKind) (packet : QueuedPacket) (before : List Row) (state : QueueState) → IsHead (queues_of table choice) before stream kind packet
      → slice_get states stream ≡ Some state → state.kind ≡ kind
  kind_of_head stream kind packet before state head there =
      let same : ◌≡◌ {A = Queue} (queue_of table choice state) (record { kind = kind; packets = head.0 }) =
      same_Some _ _ (sym (stream_there table choice states run.queues stream state there) ∙ head.1) in
      (run.tracks stream state there).kind ∙ ap (λ (s : Queue). s.kind) same

  SentLate-from_states : (stream : ℕ) (packet : QueuedPacket) → ComesLate states (subtick_after table.slot (rows ++ row ∷ [])) row stream packet
      → SentLate table.slot (queues_of table choice) (rows ++ row ∷ []) stream packet
  SentLate-from_states stream packet late =
      let goes = subst (λ (r : Row). IsNext table choice rows r) late.went next in
      let kind = kind_of_head stream goes.1.kind packet rows late.state goes.1.head late.there in
      record {
        before = rows;
        went = ap (λ (r : Row). rows ++ r ∷ []) late.went;
        kind = goes.1.kind;
        head = goes.1.head;
        late = subst (λ n. SUBTICKS_PER_TICK * packet.due < end_with_margin table.slot (rows ++ row ∷ []) + n)
            (sym (mb_or_tb_work-is table choice (rows ++ row ∷ []) stream late.state (run.tracks stream late.state late.there) goes.1.kind kind)) late.late;
      }

  SentLate-to_states : (stream : ℕ) (packet : QueuedPacket) → SentLate table.slot (queues_of table choice) (rows ++ row ∷ []) stream packet
      → ComesLate states (subtick_after table.slot (rows ++ row ∷ [])) row stream packet
  SentLate-to_states stream packet late =
      let found = state_there table choice states run.queues stream (record { kind = late.kind; packets = late.head.0 }) late.head.1 in
      let kind = kind_of_head stream late.kind packet late.before found.0 late.head found.1 in
      record {
        state = found.0;
        there = found.1;
        went = (same_from_push rows late.before row (Carries stream packet) late.went).1;
        late = subst (λ n. SUBTICKS_PER_TICK * packet.due < end_with_margin table.slot (rows ++ row ∷ []) + n)
            (mb_or_tb_work-is table choice (rows ++ row ∷ []) stream found.0 (run.tracks stream found.0 found.1) late.kind kind) late.late;
      }

  -- a miss that the states tell
  pub Misses-from_states : (stream : ℕ) (packet : QueuedPacket)
      → ComesLate states (subtick_after table.slot (rows ++ row ∷ [])) row stream packet
      ⊎ (NoneLate states (subtick_after table.slot (rows ++ row ∷ [])) row × FirstOverdue states (subtick_after table.slot (rows ++ row ∷ [])) stream packet)
      → Misses table.slot (queues_of table choice) (rows ++ row ∷ []) stream packet
  Misses-from_states stream packet (inl late) = inl (SentLate-from_states stream packet late)
  Misses-from_states stream packet (inr (none, (is, late))) = inr (
    (λ other packet' sent. none other packet' (SentLate-to_states other packet' sent)),
    record { kind = is.state.kind; head = head_from_state table choice (rows ++ row ∷ []) states run stream is.state packet is.there is.head; late = late },
    (λ other packet' over.
        let found = state_from_head table choice (rows ++ row ∷ []) states run other over.kind packet' over.head in
        is.first other found.0 packet' found.1 found.3 tt),
  )

  -- where the states tell none, nothing misses
  pub NoneMisses-from_states : NoneLate states (subtick_after table.slot (rows ++ row ∷ [])) row → NoneOverdue states (subtick_after table.slot (rows ++ row ∷ []))
      → NoneMisses table.slot (queues_of table choice) rows row
  NoneMisses-from_states none_late none_overdue stream packet (inl late) = none_late stream packet (SentLate-to_states stream packet late)
  NoneMisses-from_states none_late none_overdue stream packet (inr over) =
      let found = state_from_head table choice (rows ++ row ∷ []) states run stream over.1.kind packet over.1.head in
      let in_time = none_overdue stream found.0 packet found.1 found.3 in
      let late = over.1.late in
      omega arith

  pub AllSent-from_states : IsFirstHead Passes states None → AllSent (queues_of table choice) (rows ++ row ∷ [])
  AllSent-from_states none stream kind packet head =
      let found = state_from_head table choice (rows ++ row ∷ []) states run stream kind packet head in
      none stream found.0 packet found.1 found.3 tt

-- the last packet stands in the row with which all is sent
carries_cases : (queues : List Queue) (rows : List Row) (row : Row) (stream : ℕ) (kind : QueueKind) (packet : QueuedPacket) → is_of stream row ≡ false
    → IsHead queues rows stream kind packet → AllSent queues (rows ++ row ∷ []) → ⊥
carries_cases queues rows row stream kind packet other head sent =
    let own : count_by (is_of stream) (row ∷ []) ≡ count_by {X = Row} (λ _. false) (row ∷ []) = ap (λ (b : Bool). count_by {X = Row} (λ _. b) (row ∷ [])) other in
    let sums = sum_by-append (λ r. cond (is_of stream r) 1 0) rows (row ∷ []) in
    let same : count_by (is_of stream) (rows ++ row ∷ []) ≡ count_by (is_of stream) rows = omega (arith, own, sums) in
    sent stream kind packet (head.0, head.1, ap (λ k. slice_get head.0 k) same ∙ head.2)

pub carries_last : (table : Table) (choice : List ℕ) (rows : List Row) (row : Row) (states : List QueueState) → HasRun table choice rows states
    → (stream : ℕ) (packet : QueuedPacket) → IsFirst Passes states stream packet → AllSent (queues_of table choice) (rows ++ row ∷ []) → CarriesPacket row
carries_last table choice rows (Carries s p) states run stream packet is sent = tt
carries_last table choice rows Empty states run stream packet is sent =
    absurd (carries_cases (queues_of table choice) rows Empty stream is.state.kind packet refl (head_from_state table choice rows states run stream is.state packet is.there is.head) sent)
carries_last table choice rows (Reserved reserved) states run stream packet is sent =
    absurd (carries_cases (queues_of table choice) rows (Reserved reserved) stream is.state.kind packet refl
    (head_from_state table choice rows states run stream is.state packet is.there is.head) sent)

-- where no stream has a head packet, none is overdue
pub NoneOverdue-from_none : (states : List QueueState) (time : ℕ) → IsFirstHead Passes states None → NoneOverdue states time
NoneOverdue-from_none states time none stream state packet there head = absurd (none stream state packet there head tt)

-- the stream of the row has a state, and its packet's due time is small
pub RowStands-next : (table : Table) (choice : List ℕ) → IsValidTable table → Fits table choice → (rows : List Row) (row : Row) (states : List QueueState)
    → map (queue_of table choice) states ≡ queues_of table choice → IsNext table choice rows row → RowStands states row
RowStands-next table choice valid fits rows (Reserved sent) states queues next = tt
RowStands-next table choice valid fits rows Empty states queues next = tt
RowStands-next table choice valid fits rows (Carries stream packet) states queues next =
    let head = next.1.head in
    let found = state_there table choice states queues stream (record { kind = next.1.kind; packets = head.0 }) head.1 in
    let limits = IsHead-limited table choice rows stream next.1.kind packet valid fits head in
    (slice_get_within states stream found.0 found.1, omega (arith, limits.due, limits.gone, mul-le-mul_left TIME_SLOTS_MOST valid.slot_most))

-- ---- a run of slots in which nothing misses
pub Reached-first : (table : Table) (choice : List ℕ) (run : RunState) → IsFirstRun table choice run → Reached table choice 0 run
Reached-first table choice run first = record {
  rows = [];
  slots_are = refl;
  run = record { states = HasRun-first table choice run.states.items first.queues first.places first.first; turns = first.turns; gone = first.gone };
  in_time = NoMiss-nil table.slot (queues_of table choice);
}

subtick_after-push : (table : Table) (rows : List Row) (row : Row) (n : ℕ) → length rows ≡ n
    → subtick_after table.slot (rows ++ row ∷ []) ≡ SUBTICKS_PER_TICK * ((n + 1) * table.slot)
subtick_after-push table rows row n slots_are = ap (λ (k : ℕ). SUBTICKS_PER_TICK * (k * table.slot)) (length_push rows row ∙ ap (λ k. k + 1) slots_are)

-- what is found after one more slot
module _ (table : Table) (choice : List ℕ) (valid : IsValidTable table) (fits : Fits table choice) (n : ℕ) (olds news : RunState) (row : Row)
    (reached : Reached table choice n olds) (next : IsNext table choice reached.rows row)
    (run : IsRun table choice (reached.rows ++ row ∷ []) news) where
  pub miss_found : (miss : Miss) → TellsAfter news.states.items (SUBTICKS_PER_TICK * ((n + 1) * table.slot)) row n (Missed miss) → IsFirstMiss table choice miss
  miss_found miss tells =
      let time : ℕ = SUBTICKS_PER_TICK * ((n + 1) * table.slot) in
      let at : time ≡ subtick_after table.slot (reached.rows ++ row ∷ []) = sym (subtick_after-push table reached.rows row n reached.slots_are) in
      let packet = tells.0 in
      record {
        earlier = reached.rows;
        last = row;
        packet = packet;
        follows = run.states.follows;
        in_time = reached.in_time;
        misses = Misses-from_states table choice reached.rows row news.states.items run.states next miss.stream packet
            (subst (λ (t : ℕ). ComesLate news.states.items t row miss.stream packet ⊎ (NoneLate news.states.items t row × FirstOverdue news.states.items t miss.stream packet)) at tells.2);
        unit_is = ap (λ (m : Miss). m.unit) tells.1;
        slot_is = ap (λ (m : Miss). m.slot) tells.1 ∙ sym reached.slots_are;
        due_is = ap (λ (m : Miss). m.due) tells.1;
      }

  pub no_miss_found : NoneLate news.states.items (SUBTICKS_PER_TICK * ((n + 1) * table.slot)) row → NoneOverdue news.states.items (SUBTICKS_PER_TICK * ((n + 1) * table.slot))
      → NoMiss table.slot (queues_of table choice) (reached.rows ++ row ∷ [])
  no_miss_found none_late none_overdue =
      let at : SUBTICKS_PER_TICK * ((n + 1) * table.slot) ≡ subtick_after table.slot (reached.rows ++ row ∷ []) = sym (subtick_after-push table reached.rows row n reached.slots_are) in
      NoMiss-push table.slot (queues_of table choice) reached.rows row reached.in_time
      (NoneMisses-from_states table choice reached.rows row news.states.items run.states next
      (subst (λ (t : ℕ). NoneLate news.states.items t row) at none_late) (subst (λ (t : ℕ). NoneOverdue news.states.items t) at none_overdue))

  pub schedule_found : TellsAfter news.states.items (SUBTICKS_PER_TICK * ((n + 1) * table.slot)) row n After.AllSent → IsSchedule table choice (reached.rows ++ row ∷ [])
  schedule_found tells = record {
    follows = run.states.follows;
    in_time = no_miss_found tells.0 (NoneOverdue-from_none news.states.items (SUBTICKS_PER_TICK * ((n + 1) * table.slot)) tells.1);
    sent = AllSent-from_states table choice reached.rows row news.states.items run.states next tells.1;
  }

  pub Reached-next : TellsAfter news.states.items (SUBTICKS_PER_TICK * ((n + 1) * table.slot)) row n Waiting → Reached table choice (n + 1) news
  Reached-next tells =
      record { rows = reached.rows ++ row ∷ []; slots_are = length_push reached.rows row ∙ ap (λ k. k + 1) reached.slots_are; run = run; in_time = no_miss_found tells.0 tells.1 }

-- after the last slot in which a packet can be due, all is sent
pub schedule_at_end : (table : Table) (choice : List ℕ) → IsValidTable table → Fits table choice → (n : ℕ) (run : RunState) → Reached table choice n run → TIME_SLOTS_MOST ≤ n
    → IsScheduled table choice
schedule_at_end table choice valid fits n run reached long = (
  reached.rows,
  record {
    follows = reached.run.states.follows;
    in_time = reached.in_time;
    sent = AllSent-at_end table choice reached.rows valid fits reached.run.states.follows reached.in_time (omega (arith, reached.slots_are));
  },
)
