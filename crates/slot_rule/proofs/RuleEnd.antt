-- Where the rule ends: in a miss, or with all sent; and what an answer of the first miss tells.
use Rattle.std.proofs.Common.{◌≡◌, ℕ, ◌*◌, ◌≤◌, ◌↔◌, List, [], ◌∷◌, ◌++◌, length, Option, Some, None, MatchOption, IsNone, refl, ap, subst, inl, inr, true≢false, mul-le-mul_right, arith}
use Rattle.std.proofs.lemmas.Option.{none-some, same_Some}
use Rattle.version_table.specs.declared.limits.TheConstants.{TIME_SLOTS_MOST}
use Rattle.version_table.specs.declared.table.Table.{Table}
use Rattle.version_table.specs.Table.{IsValidTable}
use Rattle.version_table.specs.Choice.{Fits}
use Rattle.slot_rule.specs.declared.sent.Miss.{Miss}
use Rattle.slot_rule.specs.Queues.{QueuedPacket, Queue, queues_of}
use Rattle.slot_rule.specs.Buffers.{Row}
use Rattle.slot_rule.specs.Schedule.{IsRow, FollowRule, Overdue, Misses, NoMiss, AllSent, IsScheduled, IsFirstMiss}
use Rattle.slot_rule.proofs.RuleFronts.{last_cases}
use Rattle.slot_rule.proofs.RuleNext.{TellsMiss, miss_after_row, miss_after_row-is, overdue_tells}
use Rattle.slot_rule.proofs.RuleRows.{FollowRule-last, NoMiss-last}
use Rattle.slot_rule.proofs.RuleQueues.{IsLimited, IsHead-limited}
use Rattle.slot_rule.proofs.RuleUnique.{IsScheduled-no_miss, IsFirstMiss-same}

-- where a packet is overdue after a row, one misses there
pub Misses-from_overdue : (slot programs : ℕ) (queues : List Queue) (before : List Row) (row : Row) (stream : ℕ) (packet : QueuedPacket) → IsRow slot programs queues before row
    → Overdue slot queues (before ++ row ∷ []) stream packet → (found : ℕ × QueuedPacket) × Misses slot queues (before ++ row ∷ []) found.0 found.1
Misses-from_overdue slot programs queues before row stream packet is over =
    let found : (found : ℕ × QueuedPacket) × (miss_after_row slot queues before row ≡ Some found) = overdue_tells slot queues before row stream packet over in
    (found.0, subst (λ (o : Option (ℕ × QueuedPacket)). TellsMiss slot queues before row o) found.1 (miss_after_row-is slot programs queues before row is))

-- where nothing misses up to the end of all times of a table, all is sent
pub AllSent-at_end : (table : Table) (choice : List ℕ) (rows : List Row) → IsValidTable table → Fits table choice → FollowRule table choice rows
    → NoMiss table.slot (queues_of table choice) rows → TIME_SLOTS_MOST ≤ length rows → AllSent (queues_of table choice) rows
AllSent-at_end table choice rows valid fits follows none long stream kind packet head =
    elim (last_cases rows) as (λ _. ⊥) [
      | inl empty ↦ (let size : length rows ≡ 0 = ap length empty in omega arith)
      | inr some ↦
          (let before = some.0 in
          let row = some.1 in
          let limited : IsLimited table.slot packet = IsHead-limited table choice rows stream kind packet valid fits head in
          let time : TIME_SLOTS_MOST * table.slot ≤ length rows * table.slot = mul-le-mul_right table.slot long in
          let over : Overdue table.slot (queues_of table choice) rows stream packet = record { kind = kind; head = head; late = omega (arith, limited.due, limited.gone) } in
          let follows' : FollowRule table choice (some.0 ++ some.1 ∷ []) = subst (λ (list : List Row). FollowRule table choice list) some.2 follows in
          let none' : NoMiss table.slot (queues_of table choice) (some.0 ++ some.1 ∷ []) = subst (λ (list : List Row). NoMiss table.slot (queues_of table choice) list) some.2 none in
          let found = Misses-from_overdue table.slot (length table.programs) (queues_of table choice) some.0 some.1 stream packet (FollowRule-last table choice some.0 some.1 follows')
          (subst (λ (list : List Row). Overdue table.slot (queues_of table choice) list stream packet) some.2 over) in
          NoMiss-last table.slot (queues_of table choice) some.0 some.1 none' found.0.0 found.0.1 found.1)
    ]

-- an answer that is a schedule's, or a first miss, is the one answer
pub answer_scheduled : (table : Table) (choice : List ℕ) (result : Option Miss)
    → MatchOption result (IsScheduled table choice) (IsFirstMiss table choice) → IsNone result ↔ IsScheduled table choice
answer_scheduled table choice None answer = (λ none. answer, λ scheduled. refl)
answer_scheduled table choice (Some miss) answer = (λ none. absurd (true≢false none), λ scheduled. absurd (IsScheduled-no_miss table choice miss scheduled answer))

pub answer_missed : (table : Table) (choice : List ℕ) (result : Option Miss) → MatchOption result (IsScheduled table choice) (IsFirstMiss table choice)
    → (miss : Miss) → (result ≡ Some miss) ↔ IsFirstMiss table choice miss
answer_missed table choice None answer miss = (λ e. absurd (none-some miss e), λ first. absurd (IsScheduled-no_miss table choice miss answer first))
answer_missed table choice (Some found) answer miss =
    (λ e. subst (λ (m : Miss). IsFirstMiss table choice m) (same_Some found miss e) answer, λ first. ap Some (IsFirstMiss-same table choice found miss answer first))
