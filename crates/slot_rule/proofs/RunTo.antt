-- What a run up to a slot answers.
use Rattle.std.proofs.Common.{◌≡◌, ◌↔◌, ◌-◌, ◌≤◌, ℕ, List, Option, Some, None, MatchOption, IsNone, refl, ap, subst, inl, inr, true≢false, arith}
use Rattle.std.proofs.lemmas.Nat.{mul-le}
use Rattle.std.proofs.lemmas.Option.{none-some, same_Some}
use Rattle.version_table.specs.declared.limits.TheConstants.{TIME_SLOTS_MOST}
use Rattle.version_table.specs.declared.table.Table.{Table}
use Rattle.version_table.specs.Table.{IsValidTable}
use Rattle.slot_rule.specs.declared.checkpoints.TheConstants.{CHECKPOINTS_MOST}
use Rattle.slot_rule.specs.declared.sent.Miss.{Miss}
use Rattle.slot_rule.specs.Schedule.{HasNoMissBefore, IsFirstMiss, IsFirstMissBefore, IsScheduled}
use Rattle.slot_rule.specs.SlotRun.{slots_apart}
use Rattle.slot_rule.specs.Private.Checkpoints.{IsClearUpto, TellsUpto, reach}
use Rattle.slot_rule.proofs.LatestDue.{apart-most, begun-most, waits-by}
use Rattle.slot_rule.proofs.RuleUnique.{IsFirstMiss-same, IsScheduled-no_miss, miss_after}

-- where nothing misses before a slot, no first miss is found before it
pub no_miss_before : (table : Table) (choice : List ℕ) (n : ℕ) (miss : Miss) → HasNoMissBefore table choice n → IsFirstMissBefore table choice n miss → ⊥
no_miss_before table choice n miss (inl scheduled) before = IsScheduled-no_miss table choice miss scheduled before.0
no_miss_before table choice n miss (inr passed) before =
    let first = before.0 in
    omega (
      arith,
      miss_after table choice passed.0 first.earlier first.last miss.stream first.packet passed.2 passed.3 first.follows first.misses,
      passed.1,
      first.slot_is,
      before.1,
    )

clear-none : (table : Table) (choice : List ℕ) (end : ℕ) → IsClearUpto table choice end → HasNoMissBefore table choice end
clear-none table choice end (inl scheduled) = inl scheduled
clear-none table choice end (inr still) =
    let waits = still.2 in
    inr (waits.rows, omega (arith, still.1, waits.many), waits.follows, waits.in_time)

pub answer_none : (table : Table) (choice : List ℕ) (end : ℕ) (result : Option Miss) → TellsUpto table choice end result → IsNone result ↔ HasNoMissBefore table choice end
answer_none table choice end None answer = (λ none. clear-none table choice end answer, λ clear. refl)
answer_none table choice end (Some miss) answer = (λ none. absurd (true≢false none), λ clear. absurd (no_miss_before table choice end miss clear answer))

pub answer_before : (table : Table) (choice : List ℕ) (end : ℕ) (result : Option Miss) → TellsUpto table choice end result
    → (miss : Miss) → (result ≡ Some miss) ↔ IsFirstMissBefore table choice end miss
answer_before table choice end None answer miss =
    (λ e. absurd (none-some miss e), λ first. absurd (no_miss_before table choice end miss (clear-none table choice end answer) first))
answer_before table choice end (Some found) answer miss =
    (λ e. subst (λ (m : Miss). IsFirstMissBefore table choice end m) (same_Some found miss e) answer, λ first. ap Some (IsFirstMiss-same table choice found miss answer.0 first.0))

-- up to the end of all times of a table the answer is that of the whole run
clear-scheduled : (table : Table) (choice : List ℕ) → IsValidTable table → IsClearUpto table choice TIME_SLOTS_MOST → IsScheduled table choice
clear-scheduled table choice valid (inl scheduled) = scheduled
clear-scheduled table choice valid (inr still) =
    absurd (let by = waits-by table choice still.0 valid still.2 in omega (arith, by, still.1, begun-most table valid))

pub whole_answer : (table : Table) (choice : List ℕ) (result : Option Miss) → IsValidTable table → TellsUpto table choice TIME_SLOTS_MOST result
    → MatchOption result (IsScheduled table choice) (IsFirstMiss table choice)
whole_answer table choice None valid answer = clear-scheduled table choice valid answer
whole_answer table choice (Some miss) valid answer = answer.0

-- no checkpoint stands behind that end
pub whole_reach : (table : Table) (count : ℕ) → IsValidTable table → count ≤ CHECKPOINTS_MOST → reach table TIME_SLOTS_MOST count ≡ TIME_SLOTS_MOST
whole_reach table count valid few =
    let most = mul-le (slots_apart table) (count - 1) 2097152 1023 (apart-most table valid) (omega (arith, few)) in
    omega (arith, most)
