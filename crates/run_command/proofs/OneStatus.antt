-- What `run` is called for is one status.
use Rattle.std.proofs.Common.{◌≡◌, ℕ, List, Some, refl, ap, subst}
use Rattle.shelf_io.specs.Files.{Files}
use Rattle.slot_rule.specs.declared.sent.Miss.{Miss}
use Rattle.slot_rule.specs.Schedule.{IsScheduled, IsFirstMiss}
use Rattle.version_table.specs.declared.table.Table.{Table}
use Rattle.version_table.specs.Choice.{IsSmallestChoice}
use Rattle.command_words.specs.declared.status.Status.{Status}
use Rattle.command_words.specs.declared.status.Status.TheVariants.{Ok, Unschedulable}
use Rattle.command_words.specs.Status.{IsSameStatus}
use Rattle.job_files.specs.declared.job_table.JobTable.{JobTable}
use Rattle.job_files.proofs.OneStop.{StopLaws}
use Rattle.run_command.specs.RunCommand.{RunCallsFor, files_of_run}

-- the laws of slots that the status of a table stands on
pub record SlotLaws : Type 0 where
  pub smallest : (table : Table) (a b : List ℕ) → IsSmallestChoice table a → IsSmallestChoice table b → a ≡ b
  pub scheduled : (table : Table) (choice : List ℕ) (miss : Miss) → IsScheduled table choice → IsFirstMiss table choice miss → ⊥
  pub miss : (table : Table) (choice : List ℕ) (a b : Miss) → IsFirstMiss table choice a → IsFirstMiss table choice b → a ≡ b

-- no smallest choice of a job's table misses, or one has a first miss
scheduled_or_missed : SlotLaws → StopLaws → (job out certificate : List ℕ) (files : Files) (miss : Miss) → RunCallsFor job out certificate (Some files) Ok
    → RunCallsFor job out certificate (Some files) (Unschedulable miss) → ⊥
scheduled_or_missed slots jobs job out certificate files miss (made, is, scheduled) (other, choice, has, small, first) =
    let named = files_of_run job out certificate in
    let tables : other ≡ made = jobs.table files job named other made has is in
    let least : IsSmallestChoice made.table choice = subst (λ (m : JobTable). IsSmallestChoice m.table choice) tables small in
    slots.scheduled made.table choice miss (scheduled choice least) (subst (λ (m : JobTable). IsFirstMiss m.table choice miss) tables first)

-- the first miss of the smallest choice of a job's table is one
one_miss : SlotLaws → StopLaws → (job out certificate : List ℕ) (files : Files) (a b : Miss) → RunCallsFor job out certificate (Some files) (Unschedulable a)
    → RunCallsFor job out certificate (Some files) (Unschedulable b) → a ≡ b
one_miss slots jobs job out certificate files a b (made, choice, is, small, first) (other, least, has, smallest, missed) =
    let named = files_of_run job out certificate in
    let tables : other ≡ made = jobs.table files job named other made has is in
    let moved : IsSmallestChoice made.table least = subst (λ (m : JobTable). IsSmallestChoice m.table least) tables smallest in
    let choices : least ≡ choice = slots.smallest made.table least choice moved small in
    let here : IsFirstMiss made.table least b = subst (λ (m : JobTable). IsFirstMiss m.table least b) tables missed in
    slots.miss made.table choice a b first (subst (λ (c : List ℕ). IsFirstMiss made.table c b) choices here)

-- what `run` is called for is one
pub run_calls_for_one : SlotLaws → StopLaws → (job out certificate : List ℕ) (files : Files) (s t : Status) → RunCallsFor job out certificate (Some files) s
    → RunCallsFor job out certificate (Some files) t → IsSameStatus s t
run_calls_for_one slots jobs job out certificate files Ok Ok a b = refl
run_calls_for_one slots jobs job out certificate files Ok (Unschedulable miss) a b = absurd (scheduled_or_missed slots jobs job out certificate files miss a b)
run_calls_for_one slots jobs job out certificate files (Unschedulable miss) Ok a b = absurd (scheduled_or_missed slots jobs job out certificate files miss b a)
run_calls_for_one slots jobs job out certificate files (Unschedulable miss) (Unschedulable other) a b =
    ap Unschedulable (one_miss slots jobs job out certificate files miss other a b)
run_calls_for_one slots jobs job out certificate files Ok t a b = absurd (jobs.never_both files job (files_of_run job out certificate) a.0 t a.1 b)
run_calls_for_one slots jobs job out certificate files (Unschedulable miss) t a b = absurd (jobs.never_both files job (files_of_run job out certificate) a.0 t a.2 b)
run_calls_for_one slots jobs job out certificate files s Ok a b = absurd (jobs.never_both files job (files_of_run job out certificate) b.0 s b.1 a)
run_calls_for_one slots jobs job out certificate files s (Unschedulable miss) a b = absurd (jobs.never_both files job (files_of_run job out certificate) b.0 s b.2 a)
run_calls_for_one slots jobs job out certificate files s t a b = jobs.stop files job (files_of_run job out certificate) s t a b
