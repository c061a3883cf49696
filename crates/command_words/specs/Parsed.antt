-- The command that was parsed, as contracts see it.
use Rattle.std.specs.Prelude.{Option, Some, None}
use Rattle.command_words.specs.declared.command.GenWords.{GenWords}
use Rattle.command_words.specs.declared.command.Parsed.{Parsed}
use Rattle.command_words.specs.declared.command.Parsed.TheVariants as parsed
use Rattle.command_words.specs.declared.command.PlanFiles.{PlanFiles}
use Rattle.command_words.specs.declared.command.RunFiles.{RunFiles}
use Rattle.command_words.specs.declared.command.CheckFiles.{CheckFiles}
use Rattle.command_words.specs.declared.command.ProbeWords.{ProbeWords}
use Rattle.command_words.specs.declared.command.CheckPlanFiles.{CheckPlanFiles}
use Rattle.command_words.specs.declared.command.ImpossibleFiles.{ImpossibleFiles}
use Rattle.command_words.specs.declared.command.FitFiles.{FitFiles}
use Rattle.command_words.specs.declared.command.AuditWords.{AuditWords}
use Rattle.command_words.specs.Command.{Command, Plan, Gen, Run, Check, Probe, CheckPlan, Impossible, Fit, Audit}

-- the command of `plan` with these names
abbrev pub plan_of : PlanFiles → Option Command
plan_of files = Some (Plan files.table.now files.certificate.now)

-- the command of `gen` with these numbers and this name
abbrev pub gen_of : GenWords → Option Command
gen_of words = Some (Gen words.seed words.pictures words.out.now)

-- the command of `run` with these names
abbrev pub run_of : RunFiles → Option Command
run_of files = Some (Run files.job.now files.out.now files.certificate.now)

-- the command of `check` with these names
abbrev pub check_of : CheckFiles → Option Command
check_of files = Some (Check files.job.now files.certificate.now)

-- the command of `probe` with these names and this number
abbrev pub probe_of : ProbeWords → Option Command
probe_of words = Some (Probe words.file.now words.program words.table.now)

-- the command of `check-plan` with these names
abbrev pub check_plan_of : CheckPlanFiles → Option Command
check_plan_of files = Some (CheckPlan files.table.now files.certificate.now)

-- the command of `impossible` with this name
abbrev pub impossible_of : ImpossibleFiles → Option Command
impossible_of files = Some (Impossible files.table.now)

-- the command of `fit` with these names
abbrev pub fit_of : FitFiles → Option Command
fit_of files = Some (Fit files.job.now files.list.now)

-- the command of `audit` with this name and these numbers
abbrev pub audit_of : AuditWords → Option Command
audit_of words = Some (Audit words.file.now words.program words.slot)

-- the command that was parsed
abbrev pub command_of : Option Parsed → Option Command
command_of (Some (parsed.Plan files)) = plan_of files
command_of (Some (parsed.Gen words)) = gen_of words
command_of (Some (parsed.Run files)) = run_of files
command_of (Some (parsed.Check files)) = check_of files
command_of (Some (parsed.Probe words)) = probe_of words
command_of (Some (parsed.CheckPlan files)) = check_plan_of files
command_of (Some (parsed.Impossible files)) = impossible_of files
command_of (Some (parsed.Fit files)) = fit_of files
command_of (Some (parsed.Audit words)) = audit_of words
command_of None = None
