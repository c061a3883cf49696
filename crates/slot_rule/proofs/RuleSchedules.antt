-- The slots in which a stream's packets stand are the same in all schedules of a choice.
use Rattle.std.proofs.Common.{◌≡◌, ℕ, ◌+◌, ◌≤◌, List, [], ◌∷◌, ◌++◌, length, drop, if◌then◌else◌, refl, sym, ap, subst, ◌∙◌, inl, inr, append_assoc, All, false, arith}
use Rattle.std.proofs.lemmas.Bool.{cases_lt, cond-false}
use Rattle.std.proofs.lemmas.List.Elements.{All-nil, All-push, All-head, All-tail}
use Rattle.version_table.specs.declared.table.Table.{Table}
use Rattle.slot_rule.specs.Queues.{QueuedPacket, queues_of}
use Rattle.slot_rule.specs.Buffers.{Row, Reserved, Carries, Empty, is_of}
use Rattle.slot_rule.specs.Schedule.{IsHead, FollowRule, AllSent, IsSchedule}
use Rattle.slot_rule.specs.SlotList.{slots_of}
use Rattle.slot_rule.proofs.RuleFronts.{by_push}
use Rattle.slot_rule.proofs.RuleRows.{IsNext, FollowRule-front, FollowRule-last}
use Rattle.slot_rule.proofs.RuleUnique.{IsHead-before, FollowRule-longer}

-- no row carries a packet of the stream
abbrev pub CarryNone : (stream : ℕ) → List Row → Type 0
CarryNone stream rows = All (λ row. is_of stream row ≡ false) rows

-- where all is sent, no later row carries a packet
row_after_all : (table : Table) (choice : List ℕ) (stream : ℕ) (rows more : List Row) (row : Row) → AllSent (queues_of table choice) rows
    → IsNext table choice (rows ++ more) row → is_of stream row ≡ false
row_after_all table choice stream rows more (Reserved sent) all_sent next = refl
row_after_all table choice stream rows more Empty all_sent next = refl
row_after_all table choice stream rows more (Carries s packet) all_sent next =
    let head : (earlier : QueuedPacket) × IsHead (queues_of table choice) rows s next.1.kind earlier = IsHead-before (queues_of table choice) rows more s next.1.kind packet next.1.head in
    absurd (all_sent s next.1.kind head.0 head.1)

pub CarryNone-after_all : (table : Table) (choice : List ℕ) (stream : ℕ) (rows : List Row) → AllSent (queues_of table choice) rows
    → (more : List Row) → FollowRule table choice (rows ++ more) → CarryNone stream more
CarryNone-after_all table choice stream rows all_sent =
    by_push (λ more. FollowRule table choice (rows ++ more) → CarryNone stream more) (λ follows. All-nil (λ row. is_of stream row ≡ false))
    (λ more row none follows.
    let all : FollowRule table choice ((rows ++ more) ++ row ∷ []) = subst (λ (list : List Row). FollowRule table choice list) (sym (append_assoc rows more (row ∷ []))) follows in
    All-push (λ r. is_of stream r ≡ false) more row (none (FollowRule-front table choice (rows ++ more) (row ∷ []) all))
    (row_after_all table choice stream rows more row all_sent (FollowRule-last table choice (rows ++ more) row all)))

slots_of-none : (stream slot : ℕ) (rows : List Row) → CarryNone stream rows → slots_of stream slot rows ≡ []
slots_of-none stream slot [] none = refl
slots_of-none stream slot (row ∷ rows) none =
    cond-false (is_of stream row) (slot ∷ slots_of stream (slot + 1) rows) (slots_of stream (slot + 1) rows) (All-head (λ r. is_of stream r ≡ false) row rows none)
    ∙ slots_of-none stream (slot + 1) rows (All-tail (λ r. is_of stream r ≡ false) row rows none)

slots_of-append : (stream slot : ℕ) (rows more : List Row) → CarryNone stream more → slots_of stream slot (rows ++ more) ≡ slots_of stream slot rows
slots_of-append stream slot [] more none = slots_of-none stream slot more none
slots_of-append stream slot (row ∷ rows) more none =
    ap (λ (rest : List ℕ). if is_of stream row then slot ∷ rest else rest) (slots_of-append stream (slot + 1) rows more none)

slots_of-longer : (table : Table) (choice : List ℕ) (stream : ℕ) (rows rows' : List Row) → IsSchedule table choice rows → IsSchedule table choice rows' → length rows ≤ length rows'
    → slots_of stream 0 rows ≡ slots_of stream 0 rows'
slots_of-longer table choice stream rows rows' s s' fits =
    let longer : rows' ≡ rows ++ drop (length rows) rows' = FollowRule-longer table choice rows rows' s.follows s'.follows fits in
    let none : CarryNone stream (drop (length rows) rows') = CarryNone-after_all table choice stream rows s.sent (drop (length rows) rows')
    (subst (λ (list : List Row). FollowRule table choice list) longer s'.follows) in
    sym (slots_of-append stream 0 rows (drop (length rows) rows') none) ∙ ap (slots_of stream 0) (sym longer)

-- each packet stands in one slot, whichever rows are the schedule
pub slots_of-same : (table : Table) (choice : List ℕ) (stream : ℕ) (rows rows' : List Row) → IsSchedule table choice rows → IsSchedule table choice rows'
    → slots_of stream 0 rows ≡ slots_of stream 0 rows'
slots_of-same table choice stream rows rows' s s' =
    elim (cases_lt (length rows) (length rows')) as (λ _. slots_of stream 0 rows ≡ slots_of stream 0 rows') [
      | inl short ↦ slots_of-longer table choice stream rows rows' s s' (omega arith)
      | inr long ↦ sym (slots_of-longer table choice stream rows' rows s' s long)
    ]
