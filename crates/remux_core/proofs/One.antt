-- A command and files call for one status.
use Rattle.std.proofs.Common.{◌≡◌, ℕ, List, Option, Some, None, refl, subst}
use Rattle.shelf_io.specs.Files.{Files}
use Rattle.audit_command.specs.AuditCommand.{AuditCallsFor}
use Rattle.check_command.specs.CheckCommand.{CheckCallsFor}
use Rattle.check_plan_command.specs.CheckPlanCommand.{CheckPlanCallsFor}
use Rattle.command_words.specs.declared.status.Status.{Status}
use Rattle.command_words.specs.declared.status.Status.TheVariants as statuses
use Rattle.command_words.specs.Command.{Command, Plan, Gen, Run, Check, Probe, CheckPlan, Impossible, Fit, Audit}
use Rattle.command_words.specs.Status.{IsSameStatus}
use Rattle.command_words.specs.Task.{IsUsage}
use Rattle.command_words.proofs.OneCommand.{one_command}
use Rattle.command_words.proofs.SameStatus.{both_one}
use Rattle.fit_command.specs.FitCommand.{FitCallsFor}
use Rattle.gen_command.specs.GenCommand.{GenCallsFor}
use Rattle.impossible_command.specs.ImpossibleCommand.{ImpossibleCallsFor}
use Rattle.plan_command.specs.PlanCommand.{PlanCallsFor}
use Rattle.probe_command.specs.ProbeCommand.{ProbeCallsFor}
use Rattle.run_command.specs.RunCommand.{RunCallsFor}
use Rattle.remux_core.specs.Outcome.{WordsCallFor}
use Rattle.remux_core.specs.Tasks.{task_of}

-- the laws that what a command is called for is one
pub record Laws : Type 0 where
  pub plan : (table : List ℕ) (files : Files) (s t : Status) → PlanCallsFor table (Some files) s → PlanCallsFor table (Some files) t → IsSameStatus s t
  pub gen : (s t : Status) → GenCallsFor s → GenCallsFor t → IsSameStatus s t
  pub run : (job out certificate : List ℕ) (files : Files) (s t : Status) → RunCallsFor job out certificate (Some files) s → RunCallsFor job out certificate (Some files) t → IsSameStatus s t
  pub check : (job certificate : List ℕ) (files : Files) (s t : Status) → CheckCallsFor job certificate (Some files) s → CheckCallsFor job certificate (Some files) t → IsSameStatus s t
  pub probe : (file : List ℕ) (number : ℕ) (files : Files) (s t : Status) → ProbeCallsFor file number (Some files) s → ProbeCallsFor file number (Some files) t → IsSameStatus s t
  pub check_plan : (table certificate : List ℕ) (files : Files) (s t : Status) → CheckPlanCallsFor table certificate (Some files) s
      → CheckPlanCallsFor table certificate (Some files) t → IsSameStatus s t
  pub impossible : (table : List ℕ) (files : Files) (s t : Status) → ImpossibleCallsFor table (Some files) s → ImpossibleCallsFor table (Some files) t → IsSameStatus s t
  pub fit : (name list : List ℕ) (files : Files) (s t : Status) → FitCallsFor name list (Some files) s → FitCallsFor name list (Some files) t → IsSameStatus s t
  pub audit : (file : List ℕ) (number slot : ℕ) (files : Files) (s t : Status) → AuditCallsFor file number slot (Some files) s
      → AuditCallsFor file number slot (Some files) t → IsSameStatus s t

-- words of no command call for Usage alone
usage_is_one : (s : Status) → IsUsage s → statuses.Usage ≡ s
usage_is_one statuses.Usage a = refl
usage_is_one statuses.Ok a = absurd a
usage_is_one (statuses.JobRefused refusal) a = absurd a
usage_is_one (statuses.Unschedulable miss) a = absurd a
usage_is_one (statuses.SourceRefused fault) a = absurd a
usage_is_one (statuses.CertRefused refusal) a = absurd a
usage_is_one statuses.ReadFault a = absurd a
usage_is_one statuses.WriteFault a = absurd a
usage_is_one statuses.Missing a = absurd a
usage_is_one statuses.OutOfMemory a = absurd a
usage_is_one (statuses.AuditFault finding) a = absurd a
usage_is_one statuses.NoFit a = absurd a

-- a command and files call for one status
pub calls_for_one : Laws → (command : Option Command) (files : Files) (s t : Status) → (task_of command).calls_for (Some files) s
    → (task_of command).calls_for (Some files) t → IsSameStatus s t
calls_for_one laws (Some (Plan table certificate)) files s t a b = laws.plan table files s t a b
calls_for_one laws (Some (Gen seed pictures out)) files s t a b = laws.gen s t a b
calls_for_one laws (Some (Run job out certificate)) files s t a b = laws.run job out certificate files s t a b
calls_for_one laws (Some (Check job certificate)) files s t a b = laws.check job certificate files s t a b
calls_for_one laws (Some (Probe file number table)) files s t a b = laws.probe file number files s t a b
calls_for_one laws (Some (CheckPlan table certificate)) files s t a b = laws.check_plan table certificate files s t a b
calls_for_one laws (Some (Impossible table)) files s t a b = laws.impossible table files s t a b
calls_for_one laws (Some (Fit job list)) files s t a b = laws.fit job list files s t a b
calls_for_one laws (Some (Audit file number slot)) files s t a b = laws.audit file number slot files s t a b
calls_for_one laws None files s t a b = both_one statuses.Usage s t (usage_is_one s a) (usage_is_one t b) refl

-- words and files call for one status
pub words_call_for_one : Laws → (words : List (List ℕ)) (files : Files) (s t : Status) → WordsCallFor words files s → WordsCallFor words files t → IsSameStatus s t
words_call_for_one laws words files s t a b =
    let same : b.command ≡ a.command = one_command words b.command a.command b.said a.said in
    calls_for_one laws a.command files s t a.called (subst (λ (c : Option Command). (task_of c).calls_for (Some files) t) same b.called)
