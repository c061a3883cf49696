-- The slots that are listed so far, and what an answer of the schedule tells.
use Rattle.std.proofs.Common.{◌≡◌, ◌≢◌, ◌↔◌, ℕ, ◌+◌, ◌*◌, ◌≤◌, ◌⊎◌, List, [], ◌∷◌, ◌++◌, length, map, Ok, Err, Result, refl, sym, ap, ap₂, subst, ◌∙◌, inl, inr, arith}
use Rattle.std.proofs.lemmas.List.{length_push, map-append}
use Rattle.version_table.specs.declared.limits.TheConstants.{TIME_SLOTS_MOST}
use Rattle.version_table.specs.declared.table.Table.{Table}
use Rattle.version_table.specs.Table.{IsValidTable}
use Rattle.version_table.specs.Choice.{Fits}
use Rattle.slot_rule.specs.declared.after.After.TheVariants.{AllSent as AllAreSent, Waiting}
use Rattle.stream_constants.specs.declared.clock.TheConstants.{SUBTICKS_PER_TICK}
use Rattle.slot_rule.specs.declared.schedules.ScheduleFault.{ScheduleFault}
use Rattle.slot_rule.specs.declared.schedules.ScheduleFault.TheVariants.{Missed, OutOfMemory}
use Rattle.slot_rule.specs.declared.sent.Miss.{Miss}
use Rattle.slot_rule.specs.declared.sent.Sent.{Sent}
use Rattle.slot_rule.specs.declared.slot_list.SlotList.{SlotList}
use Rattle.slot_rule.specs.declared.run_state.RunState.{RunState}
use Rattle.slot_rule.specs.Buffers.{Row}
use Rattle.slot_rule.specs.Schedule.{AllSent, IsFirstMiss}
use Rattle.slot_rule.specs.Private.IdleSlots.{FillsPeriod}
use Rattle.slot_rule.specs.SlotList.{sent_of, IsSlotList, CarriesPacket}
use Rattle.slot_rule.specs.Private.Runs.{IsFirstRun, IsRun, Reached}
use Rattle.slot_rule.specs.Private.Slots.{IsWhatStands, TellsAfter}
use Rattle.slot_rule.specs.Queues.{queues_of}
use Rattle.slot_rule.specs.Timetable.{period}
use Rattle.slot_rule.proofs.MissLaws.{HasRun-first, no_miss_found, schedule_found}
use Rattle.slot_rule.proofs.RuleEnd.{AllSent-at_end}
use Rattle.slot_rule.proofs.RuleRows.{IsNext, NoMiss-nil}
use Rattle.slot_rule.proofs.RuleUnique.{IsScheduled-no_miss, IsFirstMiss-same}
use Rattle.slot_rule.proofs.SlotListLaws.{sent_of-shown, carries_last, IsSlotList-filled}
use Rattle.slot_rule.proofs.TrackLaws.{head_from_state}

-- so many slots are listed, in which nothing misses and after which something is left to send
pub record Listed (table : Table) (choice : List ℕ) (slots : ℕ) (run : RunState) (sent : List Sent) : Type 0 where
  pub reached : Reached table choice slots run
  pub sent_is : sent ≡ map (sent_of (queues_of table choice)) reached.rows
  pub left : (slots ≡ 0) ⊎ (AllSent (queues_of table choice) reached.rows → ⊥)

pub Listed-first : (table : Table) (choice : List ℕ) (run : RunState) → IsFirstRun table choice run → Listed table choice 0 run []
Listed-first table choice run first = record {
  reached = record {
    rows = [];
    slots_are = refl;
    run = record { states = HasRun-first table choice run.states.items first.queues first.places first.first; turns = first.turns; gone = first.gone };
    in_time = NoMiss-nil table.slot (queues_of table choice);
  };
  sent_is = refl;
  left = inl refl;
}

module _ (table : Table) (choice : List ℕ) (valid : IsValidTable table) (fits : Fits table choice) (n : ℕ) (olds news : RunState) (row : Row)
    (sent : List Sent) (last : Sent) (listed : Listed table choice n olds sent) (next : IsNext table choice listed.reached.rows row)
    (run : IsRun table choice (listed.reached.rows ++ row ∷ []) news) (shows : IsWhatStands news.states.items row last) where
  -- what is listed once the slot is run
  sent_more : sent ++ last ∷ [] ≡ map (sent_of (queues_of table choice)) (listed.reached.rows ++ row ∷ [])
  sent_more =
      ap₂ (λ (front : List Sent) (x : Sent). front ++ x ∷ []) listed.sent_is (sent_of-shown table choice listed.reached.rows row news.states.items last run.states next shows)
      ∙ sym (map-append (sent_of (queues_of table choice)) listed.reached.rows (row ∷ []))

  pub Listed-next : TellsAfter news.states.items (SUBTICKS_PER_TICK * ((n + 1) * table.slot)) row n Waiting → Listed table choice (n + 1) news (sent ++ last ∷ [])
  Listed-next tells =
      let head = tells.2 in
      let first = head.2 in
      record {
        reached = record {
          rows = listed.reached.rows ++ row ∷ [];
          slots_are = length_push listed.reached.rows row ∙ ap (λ k. k + 1) listed.reached.slots_are;
          run = run;
          in_time = no_miss_found table choice valid fits n olds news row listed.reached next run tells.0 tells.1;
        };
        sent_is = sent_more;
        left = inr (λ all_sent. all_sent head.0 first.state.kind head.1
            (head_from_state table choice (listed.reached.rows ++ row ∷ []) news.states.items run.states head.0 first.state head.1 first.there
            first.head));
      }

  carries_or_none : AllSent (queues_of table choice) (listed.reached.rows ++ row ∷ [])
      → (n ≡ 0) ⊎ (AllSent (queues_of table choice) listed.reached.rows → ⊥) → (n ≡ 0) ⊎ CarriesPacket row
  carries_or_none all_sent (inl none) = inl none
  carries_or_none all_sent (inr left) = inr (carries_last (queues_of table choice) listed.reached.rows row left all_sent)

  -- the list of a schedule, once its last period is filled
  pub IsSlotList-found : TellsAfter news.states.items (SUBTICKS_PER_TICK * ((n + 1) * table.slot)) row n AllAreSent → (list : SlotList) → 1 ≤ period table.slot
      → FillsPeriod table.slot (length table.programs) n (sent ++ last ∷ []) list → IsSlotList table choice list
  IsSlotList-found tells list some fills =
      let schedule = schedule_found table choice valid fits n olds news row listed.reached next run tells in
      IsSlotList-filled table choice listed.reached.rows row n (sent ++ last ∷ []) list some listed.reached.slots_are schedule
      (subst (λ k. (k ≡ 0) ⊎ CarriesPacket row) (sym listed.reached.slots_are) (carries_or_none schedule.sent listed.left)) sent_more fills

-- not all slots in which a packet can be due pass with something left to send
pub nothing_left_at_end : (table : Table) (choice : List ℕ) → IsValidTable table → Fits table choice → (n : ℕ) (run : RunState) (sent : List Sent) → Listed table choice n run sent
    → TIME_SLOTS_MOST ≤ n → ⊥
nothing_left_at_end table choice valid fits n run sent listed long =
    elim listed.left as (λ _. ⊥) [
      | inl none ↦ absurd (omega arith)
      | inr left ↦ left (AllSent-at_end table choice listed.reached.rows valid fits listed.reached.run.states.follows listed.reached.in_time (omega (arith, listed.reached.slots_are)))
    ]

-- ---- what an answer tells of misses
-- unless memory is wanted, a miss is answered exactly where it is the first
abbrev pub TellsMisses : Table → List ℕ → Result SlotList ScheduleFault → Type 0
TellsMisses table choice result =
    result ≢ Err OutOfMemory → (miss : Miss) → (result ≡ Err (Missed miss)) ↔ IsFirstMiss table choice miss

pub TellsMisses-listed : (table : Table) (choice : List ℕ) (list : SlotList) → IsSlotList table choice list → TellsMisses table choice (Ok list)
TellsMisses-listed table choice list is memory miss = (λ e. cc, λ first. absurd (IsScheduled-no_miss table choice miss (is.rows, is.schedule) first))

pub TellsMisses-missed : (table : Table) (choice : List ℕ) (found : Miss) → IsFirstMiss table choice found → TellsMisses table choice (Err (Missed found))
TellsMisses-missed table choice found is memory miss = (
  (λ e. (let same : found ≡ miss = cc in subst (λ (m : Miss). IsFirstMiss table choice m) same is)),
  (λ first. ap (λ (m : Miss). Err (Missed m)) (IsFirstMiss-same table choice found miss is first)),
)
