-- Slots in which nothing happens.
use Rattle.std.proofs.Common.{◌≡◌, ℕ, zero, suc, ◌+◌, ◌-◌, ◌*◌, ◌/◌, ◌%◌, ◌<◌, ◌≤◌, List, [], ◌∷◌, ◌++◌, length, None, refl, sym, ap, subst, ◌∙◌, mul-le-mul_right, add-zero, arith}
use Rattle.std.proofs.Math.Nat.{div-add-mod}
use Rattle.std.proofs.lemmas.List.{length_push}
use Rattle.version_table.specs.declared.limits.TheConstants.{TIME_SLOTS_MOST}
use Rattle.version_table.specs.declared.table.Table.{Table}
use Rattle.version_table.specs.Table.{IsValidTable}
use Rattle.version_table.specs.Choice.{Fits}
use Rattle.stream_constants.specs.declared.clock.TheConstants.{SUBTICKS_PER_TICK}
use Rattle.slot_rule.specs.declared.constants.TheConstants.{MARGIN_SUBTICKS}
use Rattle.slot_rule.specs.declared.run_state.RunState.{RunState}
use Rattle.slot_rule.specs.Buffers.{Empty}
use Rattle.slot_rule.specs.Private.Heads.{IsFirst, IsFirstHead, Passes, PassesAt}
use Rattle.slot_rule.specs.Private.Runs.{IsIdle, IsRun, Reached}
use Rattle.slot_rule.specs.Queues.{QueuedPacket}
use Rattle.slot_rule.specs.Timetable.{reserved}
use Rattle.slot_rule.proofs.AfterLaws.{NoneLate-other, NoneOverdue-from_first}
use Rattle.slot_rule.proofs.MissLaws.{no_miss_found}
use Rattle.slot_rule.proofs.RunLaws.{releases_none}
use Rattle.slot_rule.proofs.SlotLaws.{free_slot-run}
use Rattle.slot_rule.proofs.SmallLaws.{all_placed}

below_div : (m a b : ℕ) → m < a / b → (m + 1) * b ≤ a
below_div m a b below =
    let whole : b * (a / b) + a % b ≡ a = div-add-mod a b in
    let less : (m + 1) * b ≤ (a / b) * b = mul-le-mul_right b (omega arith) in
    omega arith

-- a slot that ends before anything can happen
pub IsIdle-from : (run : RunState) (slot m overdue going stream : ℕ) (packet : QueuedPacket) → 1 ≤ slot
    → IsFirst Passes run.states.items stream packet → overdue ≡ SUBTICKS_PER_TICK * packet.due - MARGIN_SUBTICKS
    → ((start : ℕ) → SUBTICKS_PER_TICK * start < going → IsFirstHead (PassesAt start) run.states.items None)
    → m < overdue / (SUBTICKS_PER_TICK * slot) → m < going / (SUBTICKS_PER_TICK * slot) → m < run.first_gone / slot → IsIdle slot run m
IsIdle-from run slot m overdue going stream packet some first overdue_is none before_overdue before_going before_gone =
    let ends = below_div m overdue (SUBTICKS_PER_TICK * slot) before_overdue in
    let goes = below_div m going (SUBTICKS_PER_TICK * slot) before_going in
    let gone = below_div m run.first_gone slot before_gone in
    record {
      held = omega arith;
      nothing = none (m * slot) (omega arith);
      in_time = NoneOverdue-from_first run.states.items (SUBTICKS_PER_TICK * ((m + 1) * slot)) stream packet first (omega arith);
    }

module _ (table : Table) (choice : List ℕ) (valid : IsValidTable table) (fits : Fits table choice) (run : RunState) where
  -- one slot passes in which nothing happens
  idle_one : (n : ℕ) → n < TIME_SLOTS_MOST → Reached table choice n run → IsIdle table.slot run n
      → reserved table.slot (length table.programs) n ≡ None → Reached table choice (n + 1) run
  idle_one n within reached idle free =
      let rows = reached.rows in
      let states = run.states.items in
      let kept = reached.run in
      let start : n * table.slot ≡ length rows * table.slot = ap (λ k. k * table.slot) (sym reached.slots_are) in
      let placed = all_placed table choice valid fits rows states kept.states (omega (arith, reached.slots_are)) in
      let none : IsFirstHead (PassesAt (length rows * table.slot)) states None = subst (λ k. IsFirstHead (PassesAt k) states None) start idle.nothing in
      let free' : reserved table.slot (length table.programs) (length rows) ≡ None = ap (λ k. reserved table.slot (length table.programs) k) reached.slots_are ∙ free in
      let step = free_slot-run table choice valid fits rows Empty states states states kept.states free'
      (releases_none table choice (length rows * table.slot) run.first_gone states placed kept.gone (subst (λ k. k < run.first_gone) start idle.held)) (none, refl) in
      let after : IsRun table choice (rows ++ Empty ∷ []) run = record { states = step.1; turns = kept.turns; gone = kept.gone } in
      record {
        rows = rows ++ Empty ∷ [];
        slots_are = length_push rows Empty ∙ ap (λ k. k + 1) reached.slots_are;
        run = after;
        in_time = no_miss_found table choice valid fits n run run Empty reached step.0 after
            (NoneLate-other states (SUBTICKS_PER_TICK * ((n + 1) * table.slot)) Empty (λ stream packet e. cc)) idle.in_time;
      }

  idle_more : (n count : ℕ) → n + count ≤ TIME_SLOTS_MOST → Reached table choice n run
      → ((k : ℕ) → n ≤ k → k < n + count → IsIdle table.slot run k × (reserved table.slot (length table.programs) k ≡ None)) → Reached table choice (n + count) run
  idle_more n zero within reached each = subst (λ k. Reached table choice k run) (sym (add-zero n)) reached
  idle_more n (suc count) within reached each =
      let before = idle_more n count (omega arith) reached (λ k from upto. each k from (omega arith)) in
      let here = each (n + count) (omega arith) (omega arith) in
      let next : n + count + 1 ≡ n + suc count = omega arith in
      subst (λ k. Reached table choice k run) next (idle_one (n + count) (omega arith) before here.0 here.1)

  -- slots pass in which nothing happens
  pub Reached-idle : (n m : ℕ) → n ≤ m → m ≤ TIME_SLOTS_MOST → Reached table choice n run
      → ((k : ℕ) → n ≤ k → k < m → IsIdle table.slot run k × (reserved table.slot (length table.programs) k ≡ None)) → Reached table choice m run
  Reached-idle n m from within reached each =
      let same : n + (m - n) ≡ m = omega arith in
      subst (λ k. Reached table choice k run) same (idle_more n (m - n) (omega arith) reached (λ k from' upto. each k from' (omega arith)))
