-- The rows of the first slots of a table, computed from the definitions up to the first miss.
use Rattle.std.proofs.Common.{◌≡◌, ℕ, zero, suc, Bool, true, List, [], ◌∷◌, ◌++◌, length, Option, Some, None, refl, subst, is_none}
use Rattle.std.proofs.lemmas.Bool.{false≢true}
use Rattle.std.proofs.lemmas.Option.{same_Some, none-some}
use Rattle.slot_rule.specs.Queues.{QueuedPacket, Queue, queues_of}
use Rattle.slot_rule.specs.Buffers.{Row}
use Rattle.slot_rule.specs.Schedule.{Misses, FollowRule, NoMiss, AllSent, IsSchedule, IsFirstMiss}
use Rattle.slot_rule.specs.declared.sent.Miss.{Miss}
use Rattle.version_table.specs.declared.table.Table.{Table}
use Rattle.slot_rule.proofs.RuleRows.{IsNext, FollowRule-push, FollowRule-nil, NoMiss-push, NoMiss-nil}
use Rattle.slot_rule.proofs.RuleFirst.{IsEarliest, earliest-is, head_where, some_head_where, first_head}
use Rattle.slot_rule.proofs.RuleNext.{next_row, next_row-is, miss_after_row, miss_after_row-is, TellsMiss}

-- the rows of so many slots in which nothing misses, or those before the row of the first miss
pub data Run : Type 0 where
  Clean : List Row → Run
  Missed : (earlier : List Row) (last : Row) → (ℕ × QueuedPacket) → Run

-- the rows of so many more slots after these
abbrev pub run : (slot programs : ℕ) → List Queue → (slots : ℕ) → List Row → Run
run slot programs queues zero rows = Clean rows
run slot programs queues (suc slots) rows =
    let row = next_row slot programs queues rows in
    elim (miss_after_row slot queues rows row) [
      | Some found ↦ Missed rows row found
      | None ↦ run slot programs queues slots (rows ++ row ∷ [])
    ]

-- what a run tells of a table under a choice
abbrev pub TellsRun : Table → List ℕ → Run → Type 0
TellsRun table choice (Clean rows) = FollowRule table choice rows × NoMiss table.slot (queues_of table choice) rows
TellsRun table choice (Missed earlier last found) =
    FollowRule table choice (earlier ++ last ∷ []) × NoMiss table.slot (queues_of table choice) earlier
    × Misses table.slot (queues_of table choice) (earlier ++ last ∷ []) found.0 found.1

step_cases : (table : Table) (choice : List ℕ) (slots : ℕ) (rows : List Row) (row : Row) (found : Option (ℕ × QueuedPacket))
    → FollowRule table choice rows → NoMiss table.slot (queues_of table choice) rows
    → IsNext table choice rows row → TellsMiss table.slot (queues_of table choice) rows row found
    → (FollowRule table choice (rows ++ row ∷ []) → NoMiss table.slot (queues_of table choice) (rows ++ row ∷ [])
    → TellsRun table choice (run table.slot (length table.programs) (queues_of table choice) slots (rows ++ row ∷ [])))
    → TellsRun table choice (elim found [
      | Some found ↦ Missed rows row found
      | None ↦ run table.slot (length table.programs) (queues_of table choice) slots (rows ++ row ∷ [])
    ])
step_cases table choice slots rows row (Some found) follows none next tells more = (FollowRule-push table choice rows row follows next, none, tells)
step_cases table choice slots rows row None follows none next tells more =
    more (FollowRule-push table choice rows row follows next) (NoMiss-push table.slot (queues_of table choice) rows row none tells)

pub run-is : (table : Table) (choice : List ℕ) (slots : ℕ) (rows : List Row) → FollowRule table choice rows → NoMiss table.slot (queues_of table choice) rows
    → TellsRun table choice (run table.slot (length table.programs) (queues_of table choice) slots rows)
run-is table choice zero rows follows none = (follows, none)
run-is table choice (suc slots) rows follows none =
    let row = next_row table.slot (length table.programs) (queues_of table choice) rows in
    let next : IsNext table choice rows (next_row table.slot (length table.programs) (queues_of table choice) rows) = next_row-is table.slot (length table.programs) (queues_of table choice) rows in
    step_cases table choice slots rows row (miss_after_row table.slot (queues_of table choice) rows row) follows none next
    (miss_after_row-is table.slot (length table.programs) (queues_of table choice) rows row next) (run-is table choice slots (rows ++ row ∷ []))

-- the rows of the first slots of a table
abbrev pub first_rows : Table → List ℕ → (slots : ℕ) → Run
first_rows table choice slots = run table.slot (length table.programs) (queues_of table choice) slots []

pub first_rows-is : (table : Table) (choice : List ℕ) (slots : ℕ) → TellsRun table choice (first_rows table choice slots)
first_rows-is table choice slots = run-is table choice slots [] (FollowRule-nil table choice) (NoMiss-nil table.slot (queues_of table choice))

-- the miss that a run comes to, and the rows of one that comes to none
abbrev pub miss_in : Run → Option Miss
miss_in (Clean rows) = None
miss_in (Missed earlier last found) = Some (record { stream = found.0; unit = found.1.item; slot = length earlier; due = found.1.due })

abbrev pub clean_rows : Run → Option (List Row)
clean_rows (Clean rows) = Some rows
clean_rows (Missed earlier last found) = None

run_misses : (table : Table) (choice : List ℕ) (result : Run) (miss : Miss) → TellsRun table choice result → miss_in result ≡ Some miss → IsFirstMiss table choice miss
run_misses table choice (Clean rows) miss tells e = absurd (none-some miss e)
run_misses table choice (Missed earlier last found) miss tells e =
    subst (λ (m : Miss). IsFirstMiss table choice m) (same_Some _ miss e)
    (record { earlier = earlier; last = last; packet = found.1; follows = tells.0; in_time = tells.1; misses = tells.2; unit_is = refl; slot_is = refl; due_is = refl })

run_clean : (table : Table) (choice : List ℕ) (result : Run) (rows : List Row) → TellsRun table choice result → clean_rows result ≡ Some rows
    → FollowRule table choice rows × NoMiss table.slot (queues_of table choice) rows
run_clean table choice (Clean rows') rows tells e = subst (λ (list : List Row). FollowRule table choice list × NoMiss table.slot (queues_of table choice) list) (same_Some rows' rows e) tells
run_clean table choice (Missed earlier last found) rows tells e = absurd (none-some rows e)

-- a run over the first slots that comes to a miss
pub IsFirstMiss-from_run : (table : Table) (choice : List ℕ) (slots : ℕ) (miss : Miss) → miss_in (first_rows table choice slots) ≡ Some miss → IsFirstMiss table choice miss
IsFirstMiss-from_run table choice slots miss e = run_misses table choice (first_rows table choice slots) miss (first_rows-is table choice slots) e

-- no stream has a packet left to send
abbrev pub nothing_left : List Queue → List Row → Bool
nothing_left queues rows = is_none (first_head (λ n kind packet. true) queues rows)

left_cases : (queues : List Queue) (rows : List Row) (found : Option (ℕ × QueuedPacket))
    → IsEarliest (head_where (λ n kind packet. true) rows) 0 queues found → is_none found ≡ true → AllSent queues rows
left_cases queues rows (Some found) first e = absurd (false≢true e)
left_cases queues rows None none e = λ stream kind packet head. none stream packet (some_head_where (λ n kind packet. true) queues rows stream kind packet head refl)

pub AllSent-from_test : (queues : List Queue) (rows : List Row) → nothing_left queues rows ≡ true → AllSent queues rows
AllSent-from_test queues rows e = left_cases queues rows (first_head (λ n kind packet. true) queues rows) (earliest-is (head_where (λ n kind packet. true) rows) 0 queues) e

-- a run over the first slots that comes to no miss, after which all is sent
pub IsSchedule-from_run : (table : Table) (choice : List ℕ) (slots : ℕ) (rows : List Row) → clean_rows (first_rows table choice slots) ≡ Some rows
    → nothing_left (queues_of table choice) rows ≡ true
    → IsSchedule table choice rows
IsSchedule-from_run table choice slots rows e left =
    let clean : FollowRule table choice rows × NoMiss table.slot (queues_of table choice) rows = run_clean table choice (first_rows table choice slots) rows (first_rows-is table choice slots) e in
    record { follows = clean.0; in_time = clean.1; sent = AllSent-from_test (queues_of table choice) rows left }
