-- What is kept at checkpoints, and their number at the end of a run.
use Rattle.std.proofs.Common.{◌≡◌, ℕ, zero, suc, ◌+◌, ◌-◌, ◌*◌, ◌<◌, ◌≤◌, ◌⊎◌, List, [], ◌∷◌, ◌++◌, length, map, get_or, take, slice_get, Some, None, refl, sym, ap, subst, ◌∙◌, inl, inr, zero-le, mul-le-mul_left, drop, arith}
use Rattle.std.proofs.lemmas.Bool.{cases_lt}
use Rattle.std.proofs.lemmas.List.{length_push, length-map, get_or_push, get_or_append_left}
use Rattle.std.proofs.lemmas.Option.{none-some, slice_get_cases, slice_get_past, slice_get_within, slice_get-get_or, get_or_from_slice_get}
use Rattle.version_table.specs.declared.table.Table.{Table}
use Rattle.version_table.specs.Table.{IsValidTable}
use Rattle.slot_rule.specs.declared.queue_state.QueueState.{QueueState}
use Rattle.slot_rule.specs.declared.run_state.RunState.{RunState}
use Rattle.slot_rule.specs.declared.states.TheConstants.{QUEUES_MOST}
use Rattle.slot_rule.specs.declared.sent.Miss.{Miss}
use Rattle.slot_rule.specs.declared.turns.Turn.{Turn}
use Rattle.slot_rule.specs.Queues.{QueuedPacket, Queue, queues_of}
use Rattle.slot_rule.specs.Buffers.{Row}
use Rattle.slot_rule.specs.Schedule.{AllSent, IsFirstMiss, IsHead, IsSchedule, IsScheduled}
use Rattle.slot_rule.specs.SlotRun.{CountsCheckpoints, StillWaits, slots_apart}
use Rattle.slot_rule.specs.Private.Checkpoints.{AreCheckpoints, IsCheckpoint, reach}
use Rattle.slot_rule.proofs.LatestDue.{apart-some, next_place, place_below}
use Rattle.slot_rule.proofs.RuleUnique.{FollowRule-longer, IsHead-before, miss_after}
use Rattle.slot_rule.specs.Private.Heads.{IsFirst, IsFirstHead, NoneGoneBefore, Passes}
use Rattle.slot_rule.specs.Private.Runs.{EndsWithin, IsFirstRun}
use Rattle.slot_rule.specs.Private.Slots.{HasRun}
use Rattle.slot_rule.specs.Private.States.{queue_of}
use Rattle.slot_rule.specs.Private.Turns.{AreTurns}
use Rattle.slot_rule.proofs.MissLaws.{HasRun-first, Reached-first}
use Rattle.slot_rule.proofs.RuleQueues.{queues_of-few}
use Rattle.slot_rule.proofs.RuleRows.{FollowRule-nil, NoMiss-nil}
use Rattle.slot_rule.proofs.TrackLaws.{head_from_state, state_from_head}

-- ---- one more element at the end
-- the element at a place of a list with one more at its end: one of the list, or the last
pub push_cases : {X : Type 0} (xs : List X) (x y : X) (k : ℕ) → slice_get (xs ++ x ∷ []) k ≡ Some y
    → ((k < length xs) × (slice_get xs k ≡ Some y)) ⊎ ((k ≡ length xs) × (x ≡ y))
push_cases xs x y k there =
    let within : k < length xs + 1 = omega (arith, slice_get_within (xs ++ x ∷ []) k y there, length_push xs x) in
    let is : get_or (xs ++ x ∷ []) k y ≡ y = get_or_from_slice_get (xs ++ x ∷ []) k y y there in
    elim (cases_lt k (length xs)) as (λ _. ((k < length xs) × (slice_get xs k ≡ Some y)) ⊎ ((k ≡ length xs) × (x ≡ y))) [
      | inl before ↦ inl (before, slice_get-get_or xs k y before ∙ ap Some (sym (get_or_append_left xs (x ∷ []) y k before) ∙ is))
      | inr past ↦ (let at : k ≡ length xs = omega arith in inr (at, sym (get_or_push xs x y k (sym at)) ∙ is))
    ]

-- the element at a place of a front
pub take_there : {X : Type 0} (n : ℕ) (xs : List X) (k : ℕ) (x : X) → slice_get (take n xs) k ≡ Some x → (k < n) × (slice_get xs k ≡ Some x)
take_there zero xs k x there = absurd (none-some x (sym (slice_get_past [] k zero-le) ∙ there))
take_there (suc n) [] k x there = absurd (none-some x (sym (slice_get_past [] k zero-le) ∙ there))
take_there (suc n) (y ∷ ys) zero x there = (omega arith, there)
take_there (suc n) (y ∷ ys) (suc k) x there = (let later = take_there n ys k x there in (omega (arith, later.0), later.1))

pub push_last : {X : Type 0} (xs : List X) (x : X) → slice_get (xs ++ x ∷ []) (length xs) ≡ Some x
push_last xs x =
    slice_get-get_or (xs ++ x ∷ []) (length xs) x (omega (arith, length_push xs x)) ∙ ap Some (get_or_push xs x x (length xs) refl)

pub AreCheckpoints-push : (table : Table) (choice : List ℕ) (checkpoints : List RunState) (run : RunState) → AreCheckpoints table choice checkpoints
    → IsCheckpoint table choice (slots_apart table * length checkpoints) run → AreCheckpoints table choice (checkpoints ++ run ∷ [])
AreCheckpoints-push table choice checkpoints run are is k other there =
    elim (push_cases checkpoints run other k there) as (λ _. IsCheckpoint table choice (slots_apart table * k) other) [
      | inl earlier ↦ are k other earlier.1
      | inr last ↦ subst (λ (r : RunState). IsCheckpoint table choice (slots_apart table * k) r) last.1 (subst (λ n. IsCheckpoint table choice (slots_apart table * n) run) (sym last.0) is)
    ]

-- what is kept, copied
pub IsCheckpoint-copy : (table : Table) (choice : List ℕ) (slots : ℕ) (run copy : RunState) → copy.states.items ≡ run.states.items
    → copy.turns.items ≡ run.turns.items → copy.first_gone ≡ run.first_gone → IsCheckpoint table choice slots run → IsCheckpoint table choice slots copy
IsCheckpoint-copy table choice slots run copy states turns gone is =
    let reached = is.reached in
    record {
      reached = record {
        rows = reached.rows;
        slots_are = reached.slots_are;
        run = record {
          states = subst (λ (list : List QueueState). HasRun table choice reached.rows list) (sym states) reached.run.states;
          turns = subst (λ (list : List Turn). AreTurns copy.states.items list) (sym turns) (subst (λ (list : List QueueState). AreTurns list run.turns.items) (sym states) reached.run.turns);
          gone = subst (λ n. NoneGoneBefore copy.states.items n) (sym gone) (subst (λ (list : List QueueState). NoneGoneBefore list run.first_gone) (sym states) reached.run.gone);
        };
        in_time = reached.in_time;
      };
      waits = (is.waits.0, is.waits.1, subst (λ (list : List QueueState). IsFirst Passes list is.waits.0 is.waits.1) (sym states) is.waits.2);
    }

-- ---- how far a run comes
-- a checkpoint stands where a packet still waits
pub StillWaits-from : (table : Table) (choice : List ℕ) (n : ℕ) (run : RunState) → IsCheckpoint table choice n run → StillWaits table choice n
StillWaits-from table choice n run is =
    let reached = is.reached in
    let waits = is.waits.2 in
    record {
      rows = reached.rows;
      many = reached.slots_are;
      follows = reached.run.states.follows;
      in_time = reached.in_time;
      waits = λ sent. sent is.waits.0 waits.state.kind is.waits.1
          (head_from_state table choice reached.rows run.states.items reached.run.states is.waits.0 waits.state is.waits.1 waits.there waits.head);
    }

-- it stands before a schedule's end, and no later than a first miss
pub StillWaits-before : (table : Table) (choice : List ℕ) (n : ℕ) (rows : List Row) → IsSchedule table choice rows → StillWaits table choice n → n < length rows
StillWaits-before table choice n rows schedule still =
    elim (cases_lt n (length rows)) as (λ _. n < length rows) [
      | inl before ↦ before
      | inr past ↦
          (let longer = FollowRule-longer table choice rows still.rows schedule.follows still.follows (omega (arith, past, still.many)) in
          absurd (still.waits (λ stream kind packet head.
          (let earlier = IsHead-before (queues_of table choice) rows (drop (length rows) still.rows) stream kind packet
          (subst (λ (list : List Row). IsHead (queues_of table choice) list stream kind packet) longer head) in
          schedule.sent stream kind earlier.0 earlier.1))))
    ]

pub StillWaits-missed : (table : Table) (choice : List ℕ) (n : ℕ) (miss : Miss) → IsFirstMiss table choice miss → StillWaits table choice n → n ≤ miss.slot
StillWaits-missed table choice n miss first still =
    omega (
      arith,
      miss_after table choice still.rows first.earlier first.last miss.stream first.packet still.follows still.in_time first.follows first.misses,
      still.many,
      first.slot_is,
    )

-- all checkpoints stand that do up to a slot, where no packet still waits at the next one
counts-of : (table : Table) (choice : List ℕ) (checkpoints : List RunState) (upto : ℕ) → AreCheckpoints table choice checkpoints → 1 ≤ length checkpoints
    → slots_apart table * (length checkpoints - 1) ≤ upto
    → ((k : ℕ) → slots_apart table * k ≤ upto → StillWaits table choice (slots_apart table * k) → slots_apart table * k < slots_apart table * length checkpoints)
    → CountsCheckpoints table choice upto (length checkpoints)
counts-of table choice checkpoints upto are some within only k = (
  λ below. (
    (let low : k ≤ length checkpoints - 1 = omega (arith, below) in
        let by : slots_apart table * k ≤ slots_apart table * (length checkpoints - 1) = mul-le-mul_left (slots_apart table) low in
        omega (arith, within, by)),
    elim (slice_get_cases checkpoints k).1 as (λ _. StillWaits table choice (slots_apart table * k)) [
      | inl at ↦ StillWaits-from table choice (slots_apart table * k) at.0 (are k at.0 at.2)
      | inr past ↦ (let end = past.0 in absurd (omega (arith, end, below)))
    ],
  ),
  λ stands. place_below (slots_apart table) k (length checkpoints) (only k stands.0 stands.1),
)

-- a run that ended before the next checkpoint
pub counts-until : (table : Table) (choice : List ℕ) (checkpoints : List RunState) (end : ℕ) → AreCheckpoints table choice checkpoints → 1 ≤ length checkpoints
    → slots_apart table * (length checkpoints - 1) ≤ end
    → ((k : ℕ) → slots_apart table * k ≤ end → StillWaits table choice (slots_apart table * k) → slots_apart table * k < slots_apart table * length checkpoints)
    → CountsCheckpoints table choice (reach table end (length checkpoints)) (length checkpoints)
counts-until table choice checkpoints end are some within only =
    let at : reach table end (length checkpoints) ≡ end = omega (arith, within) in
    subst (λ n. CountsCheckpoints table choice n (length checkpoints)) (sym at) (counts-of table choice checkpoints end are some within only)

-- one whose last checkpoint stands at the end or behind it
pub counts-past : (table : Table) (choice : List ℕ) (checkpoints : List RunState) (end : ℕ) → AreCheckpoints table choice checkpoints → 1 ≤ length checkpoints
    → end ≤ slots_apart table * (length checkpoints - 1) → CountsCheckpoints table choice (reach table end (length checkpoints)) (length checkpoints)
counts-past table choice checkpoints end are some past =
    let last = slots_apart table * (length checkpoints - 1) in
    let at : reach table end (length checkpoints) ≡ last = omega (arith, past) in
    subst (λ n. CountsCheckpoints table choice n (length checkpoints)) (sym at)
    (counts-of table choice checkpoints last are some (omega arith)
    (λ k within still. omega (arith, within, next_place (slots_apart table) (length checkpoints) some, apart-some table)))

-- one that ended in a miss
pub counts-missed : (table : Table) (choice : List ℕ) (checkpoints : List RunState) (end : ℕ) (miss : Miss) → AreCheckpoints table choice checkpoints → 1 ≤ length checkpoints
    → slots_apart table * (length checkpoints - 1) ≤ end → IsFirstMiss table choice miss → miss.slot < slots_apart table * length checkpoints
    → CountsCheckpoints table choice (reach table end (length checkpoints)) (length checkpoints)
counts-missed table choice checkpoints end miss are some within first before =
    counts-until table choice checkpoints end are some within
    (λ k upto still. omega (arith, before, StillWaits-missed table choice (slots_apart table * k) miss first still))

-- one that ended with all sent
pub counts-sent : (table : Table) (choice : List ℕ) (checkpoints : List RunState) (end first stop : ℕ) (before : RunState) → AreCheckpoints table choice checkpoints
    → 1 ≤ length checkpoints → slots_apart table * (length checkpoints - 1) ≤ end → EndsWithin table choice first stop before → stop ≤ slots_apart table * length checkpoints
    → CountsCheckpoints table choice (reach table end (length checkpoints)) (length checkpoints)
counts-sent table choice checkpoints end first stop before are some within ends upto =
    counts-until table choice checkpoints end are some within
    (λ k by still. omega (
      arith,
      upto,
      ends.upto,
      length_push ends.rows ends.last,
      StillWaits-before table choice (slots_apart table * k) (ends.rows ++ ends.last ∷ []) ends.schedule still,
    ))

-- ---- before the first slot
pub states_few_first : (table : Table) (choice : List ℕ) (states : List QueueState) → IsValidTable table → map (queue_of table choice) states ≡ queues_of table choice → length states ≤ QUEUES_MOST
states_few_first table choice states valid queues =
    omega (arith, queues_of-few table choice valid, sym (length-map states (queue_of table choice)) ∙ ap (λ (list : List Queue). length list) queues)

pub IsCheckpoint-first : (table : Table) (choice : List ℕ) (run : RunState) (stream : ℕ) (packet : QueuedPacket) → IsFirstRun table choice run
    → IsFirst Passes run.states.items stream packet → IsCheckpoint table choice 0 run
IsCheckpoint-first table choice run stream packet first is = record { reached = Reached-first table choice run first; waits = (stream, packet, is) }

-- a table without packets
module _ (table : Table) (choice : List ℕ) (run : RunState) (first : IsFirstRun table choice run) (none : IsFirstHead Passes run.states.items None) where
  none_waits : AllSent (queues_of table choice) []
  none_waits stream kind packet head =
      let found = state_from_head table choice [] run.states.items (HasRun-first table choice run.states.items first.queues first.places first.first) stream kind packet head in
      none stream found.0 packet found.1 found.3 tt

  none_sent : IsSchedule table choice []
  none_sent = record { follows = FollowRule-nil table choice; in_time = NoMiss-nil table.slot (queues_of table choice); sent = none_waits }

  pub IsScheduled-empty : IsScheduled table choice
  IsScheduled-empty = ([], none_sent)

  pub CountsCheckpoints-empty : (end : ℕ) → CountsCheckpoints table choice (reach table end 0) 0
  CountsCheckpoints-empty end k = (
    λ below. absurd (omega (arith, below)),
    λ stands. absurd (let before = StillWaits-before table choice (slots_apart table * k) [] none_sent stands.1 in omega (arith, before)),
  )
