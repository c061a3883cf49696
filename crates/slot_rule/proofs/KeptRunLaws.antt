-- A kept run under another choice, the number of its checkpoints, and the work that they tell.
use Rattle.std.proofs.Common.{◌≡◌, ℕ, ◌-◌, ◌*◌, ◌<◌, ◌≤◌, ◌↔◌, Bool, true, false, List, [], length, map, get_or, slice_get, Some, None, if◌then◌else◌, refl, sym, ap, ap₂, subst, ◌∙◌, inl, inr, zero-le, arith}
use Rattle.std.specs.Option.{option_map}
use Rattle.std.proofs.lemmas.Bool.{cases_lt}
use Rattle.std.proofs.lemmas.List.{length-map}
use Rattle.std.proofs.lemmas.Option.{none-some, same_Some, slice_get-map, slice_get_past, slice_get_within, slice_get-get_or}
use Rattle.version_table.specs.declared.table.Table.{Table}
use Rattle.stream_constants.specs.declared.clock.TheConstants.{SUBTICKS_PER_TICK}
use Rattle.slot_rule.specs.declared.fronts.Front.{Front}
use Rattle.slot_rule.specs.declared.queue_items.QueueItems.{QueueItems}
use Rattle.slot_rule.specs.declared.queue_state.QueueState.{QueueState}
use Rattle.slot_rule.specs.declared.run_state.RunState.{RunState}
use Rattle.slot_rule.specs.declared.slot_run.SlotRun.TheInside.{Inside}
use Rattle.slot_rule.specs.Buffers.{Row, mb_work, tb_work}
use Rattle.slot_rule.specs.Queues.{QueueKind, Video, Audio, Queue, queues_of}
use Rattle.slot_rule.specs.SlotRun.{CountsCheckpoints, CountsKept, IsCheckpointCount, IsKeptWork, IsWorkAt, StillWaits, slots_apart, streams_of, work_of}
use Rattle.slot_rule.specs.Private.Checkpoints.{AreFronts, AreWithin, IsCheckpoint, IsFrontOf, IsWholeOf}
use Rattle.slot_rule.specs.Private.QueueItems.{IsPlace}
use Rattle.slot_rule.specs.Private.QueueState.{work_of_kind, work_of_state}
use Rattle.slot_rule.specs.Private.Runs.{IsFirstRun, Reached}
use Rattle.slot_rule.specs.Private.SlotRun.{KeepsRun, kept_run}
use Rattle.slot_rule.specs.Private.Slots.{subtick_after}
use Rattle.slot_rule.specs.Private.States.{IsFirstState, queue_of}
use Rattle.slot_rule.proofs.BringLaws.{same_queues}
use Rattle.slot_rule.proofs.FrontPackets.{SameSoFar-within}
use Rattle.slot_rule.proofs.Places.{All-at_place}
use Rattle.slot_rule.proofs.Resume.{HasRun-same, SameSoFar, heads_same}
use Rattle.slot_rule.proofs.RuleQueues.{length-queues_from}
use Rattle.slot_rule.proofs.SameHeads.{NoMiss-same}
use Rattle.slot_rule.proofs.TrackLaws.{stream_there}

-- ---- under another choice
module _ (table : Table) (old new : List ℕ) (first : RunState) (fronts : List Front) (first_is : IsFirstRun table new first)
    (are : AreFronts table old new first.states.items fronts) (slots : ℕ) (run : RunState) (within : AreWithin fronts run.states.items) (is : IsCheckpoint table old slots run) where
  -- the front of the queue of this number, and the queue's state before the first slot
  front_at : (stream : ℕ) (state : QueueState) → slice_get run.states.items stream ≡ Some state
      → (front : Front) × (before : QueueState) × (slice_get fronts stream ≡ Some front) × (slice_get first.states.items stream ≡ Some before)
  front_at stream state there =
      let here = slice_get_within run.states.items stream state there in
      let d : Front = record { same = 0; is_whole = false } in (
        get_or fronts stream d,
        get_or first.states.items stream state,
        slice_get-get_or fronts stream d (omega (arith, here, within.one_each)),
        slice_get-get_or first.states.items stream state (omega (arith, here, within.one_each, are.one_each)),
      )

  same_items : (stream : ℕ) (before state : QueueState) → slice_get first.states.items stream ≡ Some before → slice_get run.states.items stream ≡ Some state → state.items ≡ before.items
  same_items stream before state there there' =
      same_Some state.items before.items
      (sym (slice_get-map (λ (s : QueueState). s.items) run.states.items stream ∙ ap (option_map (λ (s : QueueState). s.items)) there')
      ∙ ap (λ (list : List QueueItems). slice_get list stream) (is.reached.run.states.places ∙ sym first_is.places)
      ∙ slice_get-map (λ (s : QueueState). s.items) first.states.items stream ∙ ap (option_map (λ (s : QueueState). s.items)) there)

  queues_new : map (queue_of table new) run.states.items ≡ queues_of table new
  queues_new = same_queues table new first.states.items run.states.items (within.one_each ∙ are.one_each) same_items ∙ first_is.queues

  same_so_far : (stream : ℕ) (state : QueueState) → slice_get run.states.items stream ≡ Some state → SameSoFar table old new state
  same_so_far stream state there =
      let at = front_at stream state there in
      let front = are.each stream at.1 at.0 at.3 at.2 in
      let items = sym (same_items stream at.1 state at.3 there) in
      SameSoFar-within table old new state at.0 (subst (λ (q : QueueItems). IsFrontOf table old new q at.0.same) items front.same)
      (λ all. subst (λ (q : QueueItems). IsWholeOf table q at.0.same) items (front.whole all)) (is.reached.run.states.tracks stream state there).keeps (within.each stream state at.0 there at.2)

  places_new : (stream : ℕ) (state : QueueState) → slice_get run.states.items stream ≡ Some state → IsPlace table new state.items
  places_new stream state there =
      let at = front_at stream state there in
      subst (λ (items : QueueItems). IsPlace table new items) (sym (same_items stream at.1 state at.3 there))
      (All-at_place (IsFirstState table new) first.states.items first_is.first stream at.1 at.3).place

  pub IsCheckpoint-under : IsCheckpoint table new slots run
  IsCheckpoint-under =
      let reached = is.reached in
      record {
        reached = record {
          rows = reached.rows;
          slots_are = reached.slots_are;
          run = record {
            states = HasRun-same table old new reached.rows run.states.items reached.run.states queues_new same_so_far places_new;
            turns = reached.run.turns;
            gone = reached.run.gone;
          };
          in_time = NoMiss-same table.slot (length table.programs) (queues_of table old) (queues_of table new) reached.rows
              (heads_same table old new reached.rows run.states.items reached.run.states queues_new same_so_far) reached.in_time;
        };
        waits = is.waits;
      }

-- ---- there is one number of checkpoints
-- numbers below which the same ones are
same-below : (P : ℕ → Type 0) (a b : ℕ) → ((k : ℕ) → (k < a) ↔ P k) → ((k : ℕ) → (k < b) ↔ P k) → a ≤ b
same-below P a b first second =
    elim (cases_lt b a) as (λ _. a ≤ b) [
      | inl less ↦ (let below : b < b = (second b).1 ((first b).0 less) in absurd (omega (arith, below)))
      | inr upto ↦ upto
    ]

pub CountsCheckpoints-one : (table : Table) (choice : List ℕ) (upto a b : ℕ) → CountsCheckpoints table choice upto a → CountsCheckpoints table choice upto b → a ≡ b
CountsCheckpoints-one table choice upto a b first second =
    let stands = λ (k : ℕ). (slots_apart table * k ≤ upto) × StillWaits table choice (slots_apart table * k) in
    omega (arith, same-below stands a b first second, same-below stands b a second first)

-- ---- what a kept run tells
count_cases : (run : Inside) (count : ℕ) → KeepsRun run → (b : Bool) → run.has_run ≡ b → CountsKept run.table.now (if b then Some run.choice.items else None) run.upto count
    → count ≡ length run.checkpoints.items
count_cases run count keeps true e is = CountsCheckpoints-one run.table.now run.choice.items run.upto count (length run.checkpoints.items) is (keeps.counts e)
count_cases run count keeps false e is = is ∙ sym (ap (λ (list : List RunState). length list) (keeps.fresh e))

-- the number of checkpoints is that of those that are kept
pub count_is : (run : Inside) (count : ℕ) → KeepsRun run → IsCheckpointCount (kept_run run) count → count ≡ length run.checkpoints.items
count_is run count keeps is = count_cases run count keeps run.has_run refl is

-- as many states are kept as the table has streams
pub streams_are : (table : Table) (choice : List ℕ) (n : ℕ) (run : RunState) → Reached table choice n run → length run.states.items ≡ streams_of table
streams_are table choice n run reached =
    sym (length-map run.states.items (queue_of table choice)) ∙ ap (λ (list : List Queue). length list) reached.run.states.queues ∙ length-queues_from 0 table.programs choice

work_is : (slot stream : ℕ) (rows : List Row) (kind : QueueKind) (tb mb : ℕ) → tb ≡ tb_work slot stream kind rows → mb ≡ mb_work slot stream rows
    → work_of_kind kind tb mb ≡ work_of slot stream kind rows
work_is slot stream rows (Video program vbv) tb mb e e' = ap₂ (λ (a b : ℕ). (a, b)) e e'
work_is slot stream rows Audio tb mb e e' = ap (λ (a : ℕ). (a, 0)) e

-- the work that the state of a queue tells
pub IsWorkAt-state : (table : Table) (choice : List ℕ) (n stream : ℕ) (run : RunState) (state : QueueState) → Reached table choice n run → slice_get run.states.items stream ≡ Some state
    → IsWorkAt table choice n stream (work_of_state state (SUBTICKS_PER_TICK * (n * table.slot)))
IsWorkAt-state table choice n stream run state reached there =
    let rows = reached.rows in
    let tracks = reached.run.states.tracks stream state there in
    let time : subtick_after table.slot reached.rows ≡ SUBTICKS_PER_TICK * (n * table.slot) = ap (λ k. SUBTICKS_PER_TICK * (k * table.slot)) reached.slots_are in
    record {
      rows = reached.rows;
      many = reached.slots_are;
      follows = reached.run.states.follows;
      queue = queue_of table choice state;
      queue_is = stream_there table choice run.states.items reached.run.states.queues stream state there;
      work_is = work_is table.slot stream reached.rows state.kind _ _ (ap (λ t. state.tb_empty - t) (sym time) ∙ tracks.tb) (ap (λ t. state.mb_empty - t) (sym time) ∙ tracks.mb)
          ∙ ap (λ (k : QueueKind). work_of table.slot stream k reached.rows) tracks.kind;
    }

kept_cases : (run : Inside) (k n stream : ℕ) (work : ℕ × ℕ) (checkpoint : RunState) → KeepsRun run → slice_get run.checkpoints.items k ≡ Some checkpoint
    → IsWorkAt run.table.now run.choice.items n stream work → (b : Bool) → run.has_run ≡ b
    → (choice : List ℕ) × ((if b then Some run.choice.items else None) ≡ Some choice) × IsWorkAt run.table.now choice n stream work
kept_cases run k n stream work checkpoint keeps there is true e = (run.choice.items, refl, is)
kept_cases run k n stream work checkpoint keeps there is false e =
    absurd (none-some checkpoint (sym (ap (λ (list : List RunState). slice_get list k) (keeps.fresh e) ∙ slice_get_past [] k zero-le) ∙ there))

-- the work that a kept state tells is that of the kept choice
pub IsKeptWork-state : (run : Inside) (k stream : ℕ) (checkpoint : RunState) (state : QueueState) → KeepsRun run → slice_get run.checkpoints.items k ≡ Some checkpoint
    → slice_get checkpoint.states.items stream ≡ Some state
    → IsKeptWork (kept_run run) (slots_apart run.table.now * k) stream (work_of_state state (SUBTICKS_PER_TICK * (slots_apart run.table.now * k * run.table.now.slot)))
IsKeptWork-state run k stream checkpoint state keeps there at =
    kept_cases run k (slots_apart run.table.now * k) stream (work_of_state state (SUBTICKS_PER_TICK * (slots_apart run.table.now * k * run.table.now.slot))) checkpoint keeps there
    (IsWorkAt-state run.table.now run.choice.items (slots_apart run.table.now * k) stream checkpoint state (keeps.are k checkpoint there).reached at) run.has_run refl
