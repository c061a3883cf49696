-- The task of each command.
use Rattle.std.specs.Prelude.{Option, Some, None}
use Rattle.audit_command.specs.AuditCommand.{audit_task}
use Rattle.check_command.specs.CheckCommand.{check_task}
use Rattle.check_plan_command.specs.CheckPlanCommand.{check_plan_task}
use Rattle.command_words.specs.Command.{Command, Plan, Gen, Run, Check, Probe, CheckPlan, Impossible, Fit, Audit}
use Rattle.command_words.specs.Task.{Task, no_task}
use Rattle.fit_command.specs.FitCommand.{fit_task}
use Rattle.gen_command.specs.GenCommand.{gen_task}
use Rattle.impossible_command.specs.ImpossibleCommand.{impossible_task}
use Rattle.plan_command.specs.PlanCommand.{plan_task}
use Rattle.probe_command.specs.ProbeCommand.{probe_task}
use Rattle.run_command.specs.RunCommand.{run_task}

-- what a command has to do; words of no command do nothing
abbrev pub task_of : Option Command → Task
task_of (Some (Plan table certificate)) = plan_task table certificate
task_of (Some (Gen seed pictures out)) = gen_task seed pictures out
task_of (Some (Run job out certificate)) = run_task job out certificate
task_of (Some (Check job certificate)) = check_task job certificate
task_of (Some (Probe file number table)) = probe_task file number table
task_of (Some (CheckPlan table certificate)) = check_plan_task table certificate
task_of (Some (Impossible table)) = impossible_task table
task_of (Some (Fit job list)) = fit_task job list
task_of (Some (Audit file number slot)) = audit_task file number slot
task_of None = no_task
