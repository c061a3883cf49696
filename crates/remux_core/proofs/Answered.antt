-- What follows of a run's outcome.
use Rattle.std.proofs.Common.{◌≡◌, ◌⊎◌, ◌≤◌, ℕ, List, Option, Some, None, refl, sym, subst, ◌∙◌, inl, inr}
use Rattle.std.specs.FinMap.{insert}
use Rattle.shelf_io.specs.Files.{Files}
use Rattle.command_words.specs.declared.status.Status.{Status}
use Rattle.command_words.specs.declared.status.Status.TheVariants as statuses
use Rattle.command_words.specs.Answer.{Answer, EndsWithStatus, Decides, HasCause, AnswerHasCause}
use Rattle.command_words.specs.Command.{Command, Plan, Gen, Run, Check, Probe, CheckPlan, Impossible, Fit, Audit, IsCommand, IsSaid}
use Rattle.shelf_io.specs.Facts.{ShelfFacts, SinkFacts}
use Rattle.command_words.specs.Outside.{OnFiles}
use Rattle.command_words.specs.Status.{IsSameStatus}
use Rattle.command_words.specs.Task.{OthersStay, no_task}
use Rattle.command_words.proofs.Contents.{get_other, stays}
use Rattle.command_words.proofs.OneCommand.{one_command}
use Rattle.command_words.proofs.Told.{on_then, on_told}
use Rattle.remux_core.specs.Outcome.{Outcome, BreaksOff, IsReported, WordsCallFor}
use Rattle.remux_core.specs.Private.Performed.{PerformsWords}
use Rattle.remux_core.specs.Promises.{NoneFailed}
use Rattle.remux_core.specs.Tasks.{task_of}
use Rattle.remux_core.proofs.One.{Laws, calls_for_one}

-- a plan was made where the smallest choice is scheduled, a program wherever it was asked for, a table where a file holds a program
done_is_called_for : (command : Option Command) (files after : Files) (line : List ℕ) → (task_of command).is_done files line after → (task_of command).calls_for (Some files) statuses.Ok
done_is_called_for (Some (Plan table certificate)) files after line (plan, has, said, written) = (has.table, has.holds, has.is_plan.possible)
done_is_called_for (Some (Gen seed pictures out)) files after line done = tt
done_is_called_for (Some (Run job out certificate)) files after line (work, is, said, written) = (work.made, is.made, is.is_plan.possible)
done_is_called_for (Some (Check job certificate)) files after line (made, cert, is, said, same) = (made, cert, is.holds, is.faultless)
done_is_called_for (Some (Probe file number table)) files after line (program, made, has, said, written) = (program, has.holds)
done_is_called_for (Some (CheckPlan table certificate)) files after line (made, cert, is, said, same) = (made, cert, is.table_is, is.cert_is, is.faultless)
done_is_called_for (Some (Impossible table)) files after line ((made, holds, report, is, said), same) = (made, holds)
done_is_called_for (Some (Fit name list)) files after line ((job, slots, made, verdicts, fit, is, are, greatest, runs, said), same) = (job, slots, made, fit, is, greatest)
done_is_called_for (Some (Audit file number slot)) files after line ((is, said), same) = is
done_is_called_for None files after line done = absurd done

-- where nothing failed, a command ends as it is called for
answer_is_called_for : (command : Option Command) (files after : Files) (old new : ShelfFacts) (out_old out_new : SinkFacts) (status : Status) (line : List ℕ)
    → EndsWithStatus (task_of command) files status line after → HasCause (task_of command) old new status line → NoneFailed old new out_old out_new → (task_of command).calls_for (Some files) status
answer_is_called_for command files after old new out_old out_new statuses.Ok line ends cause none = done_is_called_for command files after line ends
answer_is_called_for command files after old new out_old out_new statuses.Usage line ends cause none = ends.0
answer_is_called_for command files after old new out_old out_new (statuses.JobRefused refusal) line ends cause none = ends.0
answer_is_called_for command files after old new out_old out_new (statuses.Unschedulable miss) line ends cause none = ends.0
answer_is_called_for command files after old new out_old out_new (statuses.SourceRefused fault) line ends cause none = ends.0
answer_is_called_for command files after old new out_old out_new (statuses.CertRefused refusal) line ends cause none = ends.0
answer_is_called_for command files after old new out_old out_new statuses.Missing line ends cause none = ends.0
answer_is_called_for command files after old new out_old out_new statuses.ReadFault line ends cause none = absurd (none.faults cause.rises)
answer_is_called_for command files after old new out_old out_new statuses.WriteFault line ends cause none = absurd (none.write_faults cause.rises)
answer_is_called_for command files after old new out_old out_new statuses.OutOfMemory line ends cause none = absurd ends
answer_is_called_for command files after old new out_old out_new (statuses.AuditFault finding) line ends cause none = ends.0
answer_is_called_for command files after old new out_old out_new statuses.NoFit line ends cause none = ends.0

-- a report that broke off is a write fault or want of memory
break_is : (answer : Answer) (old new : SinkFacts) (status : Status) → BreaksOff answer old new status → (status ≡ statuses.WriteFault) ⊎ (status ≡ statuses.OutOfMemory)
break_is answer old new statuses.WriteFault breaks = inl refl
break_is answer old new statuses.OutOfMemory breaks = inr refl
break_is answer old new statuses.Ok breaks = absurd breaks
break_is answer old new statuses.Usage breaks = absurd breaks
break_is answer old new (statuses.JobRefused refusal) breaks = absurd breaks
break_is answer old new (statuses.Unschedulable miss) breaks = absurd breaks
break_is answer old new (statuses.SourceRefused fault) breaks = absurd breaks
break_is answer old new (statuses.CertRefused refusal) breaks = absurd breaks
break_is answer old new statuses.ReadFault breaks = absurd breaks
break_is answer old new statuses.Missing breaks = absurd breaks
break_is answer old new (statuses.AuditFault finding) breaks = absurd breaks
break_is answer old new statuses.NoFit breaks = absurd breaks

-- and where nothing failed, want of memory
quiet_break : (answer : Answer) (old new : ShelfFacts) (out_old out_new : SinkFacts) (status : Status) → BreaksOff answer out_old out_new status
    → NoneFailed old new out_old out_new → status ≡ statuses.OutOfMemory
quiet_break answer old new out_old out_new statuses.WriteFault breaks none = absurd (none.out_faults breaks.0)
quiet_break answer old new out_old out_new statuses.OutOfMemory breaks none = refl
quiet_break answer old new out_old out_new statuses.Ok breaks none = absurd breaks
quiet_break answer old new out_old out_new statuses.Usage breaks none = absurd breaks
quiet_break answer old new out_old out_new (statuses.JobRefused refusal) breaks none = absurd breaks
quiet_break answer old new out_old out_new (statuses.Unschedulable miss) breaks none = absurd breaks
quiet_break answer old new out_old out_new (statuses.SourceRefused fault) breaks none = absurd breaks
quiet_break answer old new out_old out_new (statuses.CertRefused refusal) breaks none = absurd breaks
quiet_break answer old new out_old out_new statuses.ReadFault breaks none = absurd breaks
quiet_break answer old new out_old out_new statuses.Missing breaks none = absurd breaks
quiet_break answer old new out_old out_new (statuses.AuditFault finding) breaks none = absurd breaks
quiet_break answer old new out_old out_new statuses.NoFit breaks none = absurd breaks

-- where nothing failed, the run ends as its words and files call for, or for want of memory
reported_as_called : Laws → (command : Option Command) (files after : Files) (old new : ShelfFacts) (out_old out_new : SinkFacts) (answer : Option Answer) (result status : Status)
    → Decides (task_of command) files answer after → AnswerHasCause (task_of command) old new answer → IsReported answer out_old out_new result → (task_of command).calls_for (Some files) status
    → NoneFailed old new out_old out_new → IsSameStatus result status ⊎ (result ≡ statuses.OutOfMemory)
reported_as_called laws command files after old new out_old out_new None result status decided cause reported called none = inr reported.0
reported_as_called laws command files after old new out_old out_new (Some answer) result status decided cause (inr breaks) called none =
    inr (quiet_break answer old new out_old out_new result breaks none)
reported_as_called laws command files after old new out_old out_new (Some answer) result status decided cause (inl whole) called none =
    inl (subst (λ (s : Status). IsSameStatus s status) (sym whole.same_status)
    (calls_for_one laws command files answer.status status
    (answer_is_called_for command files after old new out_old out_new answer.status answer.line decided cause none) called))

pub as_called : Laws → (words : List (List ℕ)) (files : Files) (old new : ShelfFacts) (out_old out_new : SinkFacts) (result status : Status)
    → Outcome words old new out_old out_new result → old.files ≡ Some files → WordsCallFor words files status → NoneFailed old new out_old out_new
    → IsSameStatus result status ⊎ (result ≡ statuses.OutOfMemory)
as_called laws words files old new out_old out_new result status outcome told calls none =
    let same : calls.command ≡ outcome.command = one_command words calls.command outcome.command calls.said outcome.said in
    let decides = on_told old.files new.files files (λ held after. Decides (task_of outcome.command) held outcome.answer after) outcome.decided told in
    reported_as_called laws outcome.command files decides.0 old new out_old out_new outcome.answer result status decides.1 outcome.cause outcome.reported
    (subst (λ (c : Option Command). (task_of c).calls_for (Some files) status) same calls.called) none

-- words of no command end with Usage
none_ends : (old new : ShelfFacts) (status : Status) (line : List ℕ) → HasCause no_task old new status line → status ≡ statuses.Usage
none_ends old new statuses.Usage line cause = refl
none_ends old new statuses.Ok line cause = absurd cause
none_ends old new (statuses.JobRefused refusal) line cause = absurd cause.may
none_ends old new (statuses.Unschedulable miss) line cause = absurd cause.may
none_ends old new (statuses.SourceRefused fault) line cause = absurd cause.may
none_ends old new (statuses.CertRefused refusal) line cause = absurd cause.may
none_ends old new statuses.ReadFault line cause = absurd cause.asked.1
none_ends old new statuses.WriteFault line cause = absurd cause.asked
none_ends old new statuses.Missing line cause = absurd cause.asked.0.1
none_ends old new statuses.OutOfMemory line cause = absurd cause
none_ends old new (statuses.AuditFault finding) line cause = absurd cause.may
none_ends old new statuses.NoFit line cause = absurd cause.1

-- and no command ends with it
command_ends : (command : Command) (old new : ShelfFacts) (line : List ℕ) → HasCause (task_of (Some command)) old new statuses.Usage line → ⊥
command_ends (Plan table certificate) old new line cause = cause.1
command_ends (Gen seed pictures out) old new line cause = cause.1
command_ends (Run job out certificate) old new line cause = cause.1
command_ends (Check job certificate) old new line cause = cause.1
command_ends (Probe file number table) old new line cause = cause.1
command_ends (CheckPlan table certificate) old new line cause = cause.1
command_ends (Impossible table) old new line cause = cause.1
command_ends (Fit job list) old new line cause = cause.1
command_ends (Audit file number slot) old new line cause = cause.1

-- Usage comes for words of no command alone
usage_of : (words : List (List ℕ)) (old new : ShelfFacts) (out_old out_new : SinkFacts) (command : Option Command) (answer : Option Answer) (result : Status)
    → IsSaid words command → AnswerHasCause (task_of command) old new answer → IsReported answer out_old out_new result → result ≡ statuses.Usage → IsCommand words → ⊥
usage_of words old new out_old out_new None answer result said cause reported is command = said command
usage_of words old new out_old out_new (Some said_command) None result said cause reported is command = let wanted = reported.0 in cc
usage_of words old new out_old out_new (Some said_command) (Some answer) result said cause (inl whole) is command =
    command_ends said_command old new answer.line
    (subst (λ (s : Status). HasCause (task_of (Some said_command)) old new s answer.line) (sym whole.same_status ∙ is) cause)
usage_of words old new out_old out_new (Some said_command) (Some answer) result said cause (inr breaks) is command =
    elim (break_is answer out_old out_new result breaks) [ inl e ↦ cc | inr e ↦ cc ]

pub usage_only : (words : List (List ℕ)) (old new : ShelfFacts) (out_old out_new : SinkFacts) (result : Status) → Outcome words old new out_old out_new result
    → result ≡ statuses.Usage → IsCommand words → ⊥
usage_only words old new out_old out_new result outcome is command =
    usage_of words old new out_old out_new outcome.command outcome.answer result outcome.said outcome.cause outcome.reported is command

-- and for each of them, but for a report that breaks off and want of memory
no_command_of : (words : List (List ℕ)) (old new : ShelfFacts) (out_old out_new : SinkFacts) (command : Option Command) (answer : Option Answer) (result : Status)
    → IsSaid words command → AnswerHasCause (task_of command) old new answer → IsReported answer out_old out_new result → (IsCommand words → ⊥)
    → (result ≡ statuses.Usage) ⊎ ((result ≡ statuses.WriteFault) ⊎ (result ≡ statuses.OutOfMemory))
no_command_of words old new out_old out_new (Some command) answer result said cause reported isnt = absurd (isnt (command, said))
no_command_of words old new out_old out_new None None result said cause reported isnt = inr (inr reported.0)
no_command_of words old new out_old out_new None (Some answer) result said cause (inl whole) isnt =
    inl (whole.same_status ∙ none_ends old new answer.status answer.line cause)
no_command_of words old new out_old out_new None (Some answer) result said cause (inr breaks) isnt = inr (break_is answer out_old out_new result breaks)

pub no_command_ends : (words : List (List ℕ)) (old new : ShelfFacts) (out_old out_new : SinkFacts) (result : Status) → Outcome words old new out_old out_new result
    → (IsCommand words → ⊥) → (result ≡ statuses.Usage) ⊎ ((result ≡ statuses.WriteFault) ⊎ (result ≡ statuses.OutOfMemory))
no_command_ends words old new out_old out_new result outcome isnt =
    no_command_of words old new out_old out_new outcome.command outcome.answer result outcome.said outcome.cause outcome.reported isnt

done_leaves_others : (command : Option Command) (files after : Files) (line : List ℕ) → (task_of command).is_done files line after → OthersStay (task_of command) files after
done_leaves_others None files after line done = absurd done
done_leaves_others (Some (Plan table certificate)) files after line (plan, has, said, written) = λ name apart.
    stays _ after name written ∙ get_other files certificate _ name apart
done_leaves_others (Some (Gen seed pictures out)) files after line (program, is, said, written) = λ name apart.
    stays _ after name written ∙ get_other files out _ name apart
done_leaves_others (Some (Run job out certificate)) files after line (work, is, said, written) = λ name apart.
    stays _ after name written ∙ get_other (insert files out work.stream) certificate _ name (λ same. apart (inr same))
    ∙ get_other files out _ name (λ same. apart (inl same))
done_leaves_others (Some (CheckPlan table certificate)) files after line (made, cert, is, said, same) = λ name apart. stays files after name same
done_leaves_others (Some (Impossible table)) files after line (told, same) = λ name apart. stays files after name same
done_leaves_others (Some (Fit job list)) files after line (told, same) = λ name apart. stays files after name same
done_leaves_others (Some (Audit file number slot)) files after line (told, same) = λ name apart. stays files after name same
done_leaves_others (Some (Check job certificate)) files after line (made, cert, is, said, same) = λ name apart. stays files after name same
done_leaves_others (Some (Probe file number table)) files after line (program, made, has, said, written) = λ name apart.
    stays _ after name written ∙ get_other files table _ name apart

leaves_others : (command : Option Command) (files after : Files) → (task_of command).leaves files after → OthersStay (task_of command) files after
leaves_others None files after same = λ name apart. stays files after name same
leaves_others (Some (Plan table certificate)) files after (inl same) = λ name apart. stays files after name same
leaves_others (Some (Plan table certificate)) files after (inr (plan, has, k, few, written)) = λ name apart.
    stays _ after name written ∙ get_other files certificate _ name apart
leaves_others (Some (Gen seed pictures out)) files after (inl same) = λ name apart. stays files after name same
leaves_others (Some (Gen seed pictures out)) files after (inr (program, is, k, few, written)) = λ name apart.
    stays _ after name written ∙ get_other files out _ name apart
leaves_others (Some (Run job out certificate)) files after (inl same) = λ name apart. stays files after name same
leaves_others (Some (Run job out certificate)) files after (inr (work, is, inl (k, few, written))) = λ name apart.
    stays _ after name written ∙ get_other files out _ name (λ same. apart (inl same))
leaves_others (Some (Run job out certificate)) files after (inr (work, is, inr (k, few, written))) = λ name apart.
    stays _ after name written ∙ get_other (insert files out work.stream) certificate _ name (λ same. apart (inr same))
    ∙ get_other files out _ name (λ same. apart (inl same))
leaves_others (Some (CheckPlan table certificate)) files after same = λ name apart. stays files after name same
leaves_others (Some (Impossible table)) files after same = λ name apart. stays files after name same
leaves_others (Some (Fit job list)) files after same = λ name apart. stays files after name same
leaves_others (Some (Audit file number slot)) files after same = λ name apart. stays files after name same
leaves_others (Some (Check job certificate)) files after same = λ name apart. stays files after name same
leaves_others (Some (Probe file number table)) files after (inl same) = λ name apart. stays files after name same
leaves_others (Some (Probe file number table)) files after (inr (program, made, has, k, few, written)) = λ name apart.
    stays _ after name written ∙ get_other files table _ name apart

ends_leave_others : (command : Option Command) (files after : Files) (status : Status) (line : List ℕ) → EndsWithStatus (task_of command) files status line after → OthersStay (task_of command) files after
ends_leave_others command files after statuses.Ok line ends = done_leaves_others command files after line ends
ends_leave_others command files after statuses.Usage line ends = λ name apart. stays files after name ends.1
ends_leave_others command files after (statuses.JobRefused refusal) line ends = λ name apart. stays files after name ends.1
ends_leave_others command files after (statuses.Unschedulable miss) line ends = λ name apart. stays files after name ends.1
ends_leave_others command files after (statuses.SourceRefused fault) line ends = λ name apart. stays files after name ends.1
ends_leave_others command files after (statuses.CertRefused refusal) line ends = λ name apart. stays files after name ends.1
ends_leave_others command files after statuses.ReadFault line ends = λ name apart. stays files after name ends
ends_leave_others command files after statuses.WriteFault line ends = leaves_others command files after ends
ends_leave_others command files after statuses.Missing line ends = λ name apart. stays files after name ends.1
ends_leave_others command files after statuses.OutOfMemory line ends = absurd ends
ends_leave_others command files after (statuses.AuditFault finding) line ends = λ name apart. stays files after name ends.1
ends_leave_others command files after statuses.NoFit line ends = λ name apart. stays files after name ends.1

decides_leaves_others : (command : Option Command) (files after : Files) (answer : Option Answer) → Decides (task_of command) files answer after → OthersStay (task_of command) files after
decides_leaves_others command files after None decides = leaves_others command files after decides
decides_leaves_others command files after (Some answer) decides = ends_leave_others command files after answer.status answer.line decides

-- whatever a command decides, it leaves the files that it doesn't write
others_stay : (command : Option Command) (old new : Option Files) (answer : Option Answer)
    → OnFiles old new (λ files after. Decides (task_of command) files answer after) → OnFiles old new (OthersStay (task_of command))
others_stay command old new answer decided =
    on_then old new (λ files after. Decides (task_of command) files answer after) (OthersStay (task_of command)) decided (λ files after decides. decides_leaves_others command files after answer decides)

-- what was performed and reported is the outcome
pub outcome_of : (words : List (List ℕ)) (old new : ShelfFacts) (out_old out_new : SinkFacts) (answer : Option Answer) (status : Status) → PerformsWords words old new answer
    → IsReported answer out_old out_new status → out_old.faults ≤ out_new.faults → Outcome words old new out_old out_new status
outcome_of words old new out_old out_new answer status performs reported grows = record {
  command = performs.command;
  said = performs.said;
  answer = answer;
  decided = performs.performs.decided;
  cause = performs.performs.cause;
  reported = reported;
  promises = record {
    counts = performs.performs.counts;
    out_faults = grows;
    asks = performs.performs.asks;
    others = others_stay performs.command old.files new.files answer performs.performs.decided;
  };
}
