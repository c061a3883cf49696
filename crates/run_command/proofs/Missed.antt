-- A job whose table's smallest choice misses, and what is asked for.
use Rattle.std.proofs.Common.{◌≡◌, ℕ, List, Option, IfSome, inl, refl, subst}
use Rattle.branch_plan.specs.declared.planner.PlanFault.{PlanFault}
use Rattle.branch_plan.specs.declared.planner.PlanFault.TheVariants.{Missed}
use Rattle.branch_plan.specs.Plan.{IsMissOfSmallest}
use Rattle.job_report.specs.declared.report.Report.{Report}
use Rattle.shelf_io.specs.Files.{Files}
use Rattle.slot_rule.specs.declared.sent.Miss.{Miss}
use Rattle.command_words.specs.declared.ended.Ended.{Ended}
use Rattle.command_words.specs.declared.status.Status.TheVariants as statuses
use Rattle.command_words.specs.Ended.{EndsBy, Performs, answer_of}
use Rattle.shelf_io.specs.Facts.{ShelfFacts}
use Rattle.command_words.specs.Report.{miss_report}
use Rattle.command_words.specs.Task.{AsksOnly}
use Rattle.command_words.proofs.Performed.{performs_uncalled}
use Rattle.job_files.specs.declared.job_table.JobTable.{JobTable}
use Rattle.job_files.specs.JobTable.{IsJobTable}
use Rattle.job_files.specs.Stops.{AsksForJob}
use Rattle.run_command.specs.RunCommand.{files_of_run, run_task}

-- a job whose smallest choice misses ends the command with its first miss
pub missed_ends : (job out certificate : List ℕ) (facts : ShelfFacts) (made : JobTable) (result : Option Ended) (fault : PlanFault) (miss : Miss) (report : Report)
    → fault ≡ Missed miss → IsMissOfSmallest made.table fault → IsJobTable facts.files job (files_of_run job out certificate) made
    → IfSome result (EndsBy (statuses.Unschedulable miss) report) → report ≡ miss_report miss → Performs (run_task job out certificate) facts facts (answer_of result)
missed_ends job out certificate facts made result fault miss report is misses has so says =
    let missed : IsMissOfSmallest made.table (Missed miss) = subst (IsMissOfSmallest made.table) is misses in
    performs_uncalled (run_task job out certificate) facts result (statuses.Unschedulable miss) report (miss_report miss) so says
    (λ held told. (
      (made, missed.0, subst (λ (t : Option Files). IsJobTable t job (files_of_run job out certificate) made) told has, missed.1, missed.2),
      refl,
    ))
    (λ held. inl refl)
    (record { may = tt; says = refl; called = (made, missed.0, has, missed.1, missed.2) })

-- `run` asks for what the job in JOB is read from
pub asks_run : (job out certificate : List ℕ) (told : Option Files) (old new : List ℕ → ℕ) → AsksForJob told job (files_of_run job out certificate) old new
    → AsksOnly (run_task job out certificate) told old new
asks_run job out certificate told old new asks = record { within = asks.within; others = asks.others }
