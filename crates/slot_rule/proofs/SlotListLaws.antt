-- The list of slots of a choice: how many there are, what they show, and that there is one list.
use Rattle.std.proofs.Common.{
  ◌≡◌,
  ℕ,
  ◌+◌,
  ◌*◌,
  ◌/◌,
  ◌<◌,
  ◌≤◌,
  ◌⊎◌,
  List,
  [],
  ◌∷◌,
  ◌++◌,
  length,
  map,
  take,
  drop,
  get_or,
  slice_get,
  Some,
  refl,
  sym,
  ap,
  ap₂,
  subst,
  ◌∙◌,
  inl,
  inr,
  append_assoc,
  length-append,
  mul-le-mul_right,
  arith,
}
use Rattle.std.proofs.Math.Nat.{le_antisymm}
use Rattle.std.proofs.lemmas.Nat.{div_below, le-div}
use Rattle.std.proofs.lemmas.Bool.{cases_lt}
use Rattle.std.proofs.lemmas.List.{get_or_at, length_push, length-take-le, map-append}
use Rattle.std.proofs.lemmas.Option.{same_Some, slice_get_within, slice_get-get_or}
use Rattle.version_table.specs.declared.table.Table.{Table}
use Rattle.version_table.specs.Table.{IsValidTable}
use Rattle.slot_rule.specs.declared.constants.TheConstants.{PERIOD_TICKS}
use Rattle.slot_rule.specs.declared.sent.Sent.{Sent}
use Rattle.slot_rule.specs.declared.slot_list.SlotList.{SlotList}
use Rattle.slot_rule.specs.declared.queue_state.QueueState.{QueueState}
use Rattle.slot_rule.specs.Timetable.{period}
use Rattle.slot_rule.specs.Queues.{QueueKind, QueuedPacket, Queue, queues_of, Audio}
use Rattle.slot_rule.specs.Buffers.{Row, Reserved, Carries, Empty}
use Rattle.slot_rule.specs.Schedule.{IsHead, AllSent, IsSchedule}
use Rattle.slot_rule.specs.Private.IdleSlots.{FillsPeriod, idle_slots}
use Rattle.slot_rule.specs.SlotList.{kind_at, piece_sent, sent_of, CarriesPacket, PassesSent, IsSlotCount, IsSlotList}
use Rattle.slot_rule.specs.Private.Slots.{HasRun, IsWhatStands}
use Rattle.slot_rule.proofs.IdleRows.{AllSent-more, IsSchedule-idle, idle_rows, idle_rows-sent, length-idle_rows}
use Rattle.slot_rule.proofs.RuleRows.{IsNext, FollowRule-at, FollowRule-take}
use Rattle.slot_rule.proofs.RuleSent.{count-empty, count-reserved}
use Rattle.slot_rule.proofs.RuleUnique.{FollowRule-longer, FollowRule-unique}
use Rattle.slot_rule.proofs.TrackLaws.{state_there}

-- ---- what a row shows
pub kind_at-head : (queues : List Queue) (rows : List Row) (stream : ℕ) (kind : QueueKind) (packet : QueuedPacket)
    → IsHead queues rows stream kind packet → kind_at queues stream ≡ kind
kind_at-head queues rows stream kind packet head =
    let none : Queue = record { kind = Audio; packets = [] } in
    let within : stream < length queues = slice_get_within queues stream _ head.1 in
    let same : ◌≡◌ {A = Queue} (get_or queues stream none) (record { kind = kind; packets = head.0 }) =
    same_Some _ _ (sym (slice_get-get_or queues stream none within) ∙ head.1) in
    ap (λ (s : Queue). s.kind) same

-- what the states tell of the slot is what stands there
pub sent_of-shown : (table : Table) (choice : List ℕ) (rows : List Row) (row : Row) (states : List QueueState) (sent : Sent) → HasRun table choice (rows ++ row ∷ []) states
    → IsNext table choice rows row → IsWhatStands states row sent → sent ≡ sent_of (queues_of table choice) row
sent_of-shown table choice rows (Reserved reserved) states sent run next shows = shows
sent_of-shown table choice rows Empty states sent run next shows = shows
sent_of-shown table choice rows (Carries stream packet) states sent run next shows =
    let kind = next.1.kind in
    let head = next.1.head in
    let found = state_there table choice states run.queues stream (record { kind = kind; packets = head.0 }) head.1 in
    let own : found.0.kind ≡ kind = (run.tracks stream found.0 found.1).kind ∙ ap (λ (s : Queue). s.kind) found.2 in
    let at : kind_at (queues_of table choice) stream ≡ kind = kind_at-head (queues_of table choice) rows stream kind packet head in
    shows found.0 found.1 ∙ ap (λ (k : QueueKind). piece_sent k stream packet) (own ∙ sym at)

-- ---- how many slots there are
-- the row in which the last packet is sent carries it
pub carries_last : (queues : List Queue) (rows : List Row) (row : Row) → (AllSent queues rows → ⊥) → AllSent queues (rows ++ row ∷ []) → CarriesPacket row
carries_last queues rows (Carries stream packet) left sent = tt
carries_last queues rows (Reserved reserved) left sent =
    left (λ stream kind packet head. sent stream kind packet (head.0, head.1, ap (λ k. slice_get head.0 k) (count-reserved stream reserved rows) ∙ head.2))
carries_last queues rows Empty left sent =
    left (λ stream kind packet head. sent stream kind packet (head.0, head.1, ap (λ k. slice_get head.0 k) (count-empty stream rows) ∙ head.2))

-- a valid table's period has a slot
pub some_period : (table : Table) → IsValidTable table → 1 ≤ period table.slot
some_period table valid = le-div 1 PERIOD_TICKS table.slot (omega (arith, valid.slot_least)) (omega (arith, valid.slot_most))

-- the period that ends after the last sent slot ends at the count of slots
pub IsSlotCount-at : (period slots : ℕ) (before : List Row) (row : Row) (more : List Row) → 1 ≤ period → slots ≡ (length before / period + 1) * period
    → length (before ++ row ∷ more) ≡ slots → (length before ≡ 0) ⊎ CarriesPacket row → IsSlotCount period (before ++ row ∷ more) slots
IsSlotCount-at period slots before row more some whole ends last = record {
  passes = record {
    positive = omega (arith, past);
    multiple = (length before / period + 1, whole);
    greater = λ n r there carries. subst
        (λ k. n < k) ends (slice_get_within (before ++ row ∷ more) n r there);
  };
  least = λ other passes.
      (let q = passes.multiple.0 in
      let sent : length before < other = sent_before other passes last in
      let below : length before / period < q = div_below (length before) period q some (subst (λ k. length before < k) passes.multiple.1 sent) in
      let product : (length before / period + 1) * period ≤ q * period = mul-le-mul_right period (omega arith) in
      omega (arith, passes.multiple.1));
}
  where
    past : 1 ≤ slots
    past = let sum : length (before ++ row ∷ more) ≡ length before + length (row ∷ more) = length-append before (row ∷ more) in
        omega (arith, ends)

    there : slice_get (before ++ row ∷ more) (length before) ≡ Some row
    there =
        let within : length before < length (before ++ row ∷ more) = omega (arith, length-append before (row ∷ more)) in
        slice_get-get_or (before ++ row ∷ more) (length before) row within ∙ ap Some (get_or_at before row more row (length before) refl)

    sent_before : (other : ℕ) → PassesSent period (before ++ row ∷ more) other → (length before ≡ 0) ⊎ CarriesPacket row → length before < other
    sent_before other passes (inl none) = omega (arith, passes.positive)
    sent_before other passes (inr carries) = passes.greater (length before) row there carries

-- the list that the code fills to the end of the period
pub IsSlotList-filled : (table : Table) (choice : List ℕ) (before : List Row) (row : Row) (last : ℕ) (rows : List Sent) (list : SlotList)
    → 1 ≤ period table.slot → length before ≡ last
    → IsSchedule table choice (before ++ row ∷ []) → (length before ≡ 0) ⊎ CarriesPacket row → rows ≡ map (sent_of (queues_of table choice)) (before ++ row ∷ [])
    → FillsPeriod table.slot (length table.programs) last rows list → IsSlotList table choice list
IsSlotList-filled table choice before row last rows list some last_is schedule carries rows_are fills =
    let queues = queues_of table choice in
    let programs = length table.programs in
    let front = before ++ row ∷ [] in
    let idle = idle_rows table.slot programs (length front) fills.idle in
    let first : length front ≡ last + 1 = length_push before row ∙ ap (λ n. n + 1) last_is in
    let ends : length (front ++ idle) ≡ list.slots =
    length-append front idle ∙ ap₂ ◌+◌ first (length-idle_rows table.slot programs (length front) fills.idle) ∙ sym fills.ends in
    let split : front ++ idle ≡ before ++ row ∷ idle = append_assoc before (row ∷ []) idle in
    let shown : idle_slots table.slot programs (last + 1) fills.idle ≡ map (sent_of queues) idle =
    ap (λ n. idle_slots table.slot programs n fills.idle) (sym first) ∙ sym (idle_rows-sent queues table.slot programs (length front) fills.idle) in
    record {
      rows = front ++ idle;
      schedule = IsSchedule-idle table choice front schedule fills.idle;
      count = subst (λ (all : List Row). IsSlotCount (period table.slot) all list.slots) (sym split)
          (IsSlotCount-at (period table.slot) list.slots before row idle some
          (fills.whole ∙ ap (λ n. (n / period table.slot + 1) * period table.slot) (sym last_is)) (ap length (sym split) ∙ ends) carries);
      one_each = ends;
      rows_are = fills.rows_are ∙ ap₂ (λ (a b : List Sent). a ++ b) rows_are shown ∙ sym (map-append (sent_of queues) front idle);
    }

-- ---- one list
-- where all is sent, no row carries a packet
none_carried : (table : Table) (choice : List ℕ) (rows : List Row) (row : Row) → AllSent (queues_of table choice) rows → IsNext table choice rows row → CarriesPacket row → ⊥
none_carried table choice rows (Carries stream packet) sent next carries = sent stream next.1.kind packet next.1.head
none_carried table choice rows (Reserved reserved) sent next carries = carries
none_carried table choice rows Empty sent next carries = carries

-- the rows of one schedule carry no packet past the end of another
pub carries_within : (table : Table) (choice : List ℕ) (rows rows' : List Row) → IsSchedule table choice rows → IsSchedule table choice rows'
    → (n : ℕ) (row : Row) → slice_get rows' n ≡ Some row → CarriesPacket row → n < length rows
carries_within table choice rows rows' s s' n row there carries =
    elim (cases_lt n (length rows)) as (λ _. n < length rows) [
      | inl within ↦ within
      | inr past ↦
          (let within : n < length rows' = slice_get_within rows' n row there in
          let front = take n rows' in
          let size : length front ≡ n = length-take-le n rows' (omega arith) in
          let longer : front ≡ rows ++ drop (length rows) front =
          FollowRule-longer table choice rows front s.follows (FollowRule-take table choice n rows' s'.follows) (omega arith) in
          let sent : AllSent (queues_of table choice) front = subst (λ (all : List Row). AllSent (queues_of table choice) all) (sym longer)
          (AllSent-more (queues_of table choice) rows (drop (length rows) front) s.sent) in
          let is : get_or rows' n row ≡ row = same_Some _ _ (sym (slice_get-get_or rows' n row within) ∙ there) in
          let next : IsNext table choice front row = subst (λ (r : Row). IsNext table choice front r) is (FollowRule-at table choice rows' s'.follows n row within) in
          absurd (none_carried table choice front row sent next carries))
    ]

slots_upto : (table : Table) (choice : List ℕ) (a b : SlotList) → IsSlotList table choice a → IsSlotList table choice b → b.slots ≤ a.slots
slots_upto table choice a b is is' =
    is'.count.least a.slots (record {
      positive = is.count.passes.positive;
      multiple = is.count.passes.multiple;
      greater = λ n row there carries. subst (λ k. n < k) is.one_each (carries_within table choice is.rows is'.rows is.schedule is'.schedule n row there carries);
    })

SlotList-same : (a b : SlotList) → a.slots ≡ b.slots → a.rows ≡ b.rows → a ≡ b
SlotList-same a b slots rows = λ i. record { slots = slots i; rows = rows i }

-- a table has at most one list of slots under a choice
pub IsSlotList-same : (table : Table) (choice : List ℕ) (a b : SlotList) → IsSlotList table choice a → IsSlotList table choice b → a ≡ b
IsSlotList-same table choice a b is is' =
    let slots : a.slots ≡ b.slots = le_antisymm (slots_upto table choice b a is' is) (slots_upto table choice a b is is') in
    let rows : is.rows ≡ is'.rows = FollowRule-unique table choice is.rows is'.rows is.schedule.follows is'.schedule.follows (is.one_each ∙ slots ∙ sym is'.one_each) in
    SlotList-same a b slots (is.rows_are ∙ ap (λ (all : List Row). map (sent_of (queues_of table choice)) all) rows ∙ sym is'.rows_are)
