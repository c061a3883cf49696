-- The verdict on a table, by its smallest choice and its first window without room.
use Rattle.std.proofs.Common.{◌≡◌, ℕ, List, Option, Some, None, subst}
use Rattle.branch_plan.specs.Plan.{SmallestIsScheduled}
use Rattle.slot_rule.specs.Schedule.{IsScheduled}
use Rattle.version_table.specs.declared.table.Table.{Table}
use Rattle.version_table.specs.Choice.{IsSmallestChoice}
use Rattle.version_table.specs.Table.{IsValidTable}
use Rattle.impossible_proof.specs.declared.window.NoRoom.{NoRoom}
use Rattle.impossible_proof.specs.NoRoom.{HasNoRoom, IsAnswer}
use Rattle.impossible_command.specs.Verdict.{IsVerdict, NothingIsScheduled, SmallestMisses}
use Rattle.impossible_command.specs.Private.Judged.{report_of}

-- a table has one smallest choice
module _ (one : (table : Table) (a b : List ℕ) → IsSmallestChoice table a → IsSmallestChoice table b → a ≡ b) where
  pub scheduled_one : (table : Table) (choice : List ℕ) → IsSmallestChoice table choice → IsScheduled table choice → SmallestIsScheduled table
  scheduled_one table choice small scheduled other least = subst (λ (c : List ℕ). IsScheduled table c) (one table choice other small least) scheduled

  pub missed_one : (table : Table) (choice : List ℕ) → IsSmallestChoice table choice → (IsScheduled table choice → ⊥) → SmallestMisses table
  missed_one table choice small misses other least scheduled =
      misses (subst (λ (c : List ℕ). IsScheduled table c) (one table other choice least small) scheduled)

pub report_is : (table : Table) (found : Option NoRoom) → ((from due : ℕ) → HasNoRoom table from due → NothingIsScheduled table) → SmallestMisses table → IsAnswer table found
    → IsVerdict table (report_of found)
report_is table (Some found) law misses answer = (law found.from found.due answer.has_no_room, answer)
report_is table None law misses answer = (misses, answer)
