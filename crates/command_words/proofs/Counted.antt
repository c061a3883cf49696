-- Counts, causes and places that were asked for, over several calls.
use Rattle.std.proofs.Common.{◌≡◌, ◌+◌, ◌≤◌, ℕ, List, Option, Some, None, max, sym, subst, arith}
use Rattle.job_programs.specs.Told.{CountReads}
use Rattle.job_report.specs.Report.{report_line}
use Rattle.run_report.specs.Report.{finding_report, source_report}
use Rattle.shelf_io.specs.Asked.{AsksUpTo, AsksNothing}
use Rattle.shelf_io.specs.Causes.{ReadCauses, WriteCauses}
use Rattle.shelf_io.specs.Counts.{ShelfCounts}
use Rattle.shelf_io.specs.Files.{Files, Lacks}
use Rattle.shelf_io.proofs.Counted.{rose_later}
use Rattle.command_words.specs.declared.status.Status.{Status}
use Rattle.command_words.specs.declared.status.Status.TheVariants as statuses
use Rattle.command_words.specs.Answer.{Answer, HasCause, AnswerHasCause, FailsAt, Refuses, TellsNoFit}
use Rattle.shelf_io.specs.Facts.{ShelfFacts}
use Rattle.command_words.specs.Outside.{CountsGrow}
use Rattle.command_words.specs.Report.{cert_report, miss_report, refusal_report}
use Rattle.command_words.specs.Task.{AsksOnly, Task}

-- a fault of a later call is one of both
fails_later : (A B : List ℕ → Type 0) (C D : Type 0) (line_of : List ℕ → List ℕ) (line : List ℕ) (new : ShelfFacts)
    → ((name : List ℕ) → A name → B name) → (C → D) → FailsAt A C line_of line new → FailsAt B D line_of line new
fails_later A B C D line_of line new names causes fails =
    record { name = fails.name; asked = names fails.name fails.asked; rises = causes fails.rises; last = fails.last; names = fails.names }

-- a call that left the files came before one that ended with this cause
cause_later : (task : Task) (old middle new : ShelfFacts) (status : Status) (line : List ℕ) → middle.files ≡ old.files
    → CountsGrow old.counts middle.counts → CountsGrow middle.counts new.counts → HasCause task middle new status line → HasCause task old new status line
cause_later task old middle new statuses.Ok line same before after cause = subst (λ (told : Option Files). task.tells_work told line) same cause
cause_later task old middle new statuses.Usage line same before after cause =
    (cause.0, subst (λ (told : Option Files). task.calls_for told statuses.Usage) same cause.1)
cause_later task old middle new (statuses.JobRefused refusal) line same before after cause =
    subst (λ (told : Option Files). Refuses task told (statuses.JobRefused refusal) (report_line (refusal_report refusal)) line) same cause
cause_later task old middle new (statuses.Unschedulable miss) line same before after cause =
    subst (λ (told : Option Files). Refuses task told (statuses.Unschedulable miss) (report_line (miss_report miss)) line) same cause
cause_later task old middle new (statuses.SourceRefused fault) line same before after cause =
    subst (λ (told : Option Files). Refuses task told (statuses.SourceRefused fault) (report_line (source_report fault)) line) same cause
cause_later task old middle new (statuses.CertRefused refusal) line same before after cause =
    subst (λ (told : Option Files). Refuses task told (statuses.CertRefused refusal) (report_line (cert_report refusal)) line) same cause
cause_later task old middle new statuses.ReadFault line same before after cause =
    fails_later _ _ _ _ _ line new (λ name asked. (asked.0, subst (λ (told : Option Files). task.reads told name asked.0) same asked.1))
    (rose_later _ _ _ before.faults_grow after.faults_grow) cause
cause_later task old middle new statuses.WriteFault line same before after cause =
    fails_later _ _ _ _ _ line new (λ name asked. asked) (rose_later _ _ _ before.write_faults_grow after.write_faults_grow) cause
cause_later task old middle new statuses.Missing line same before after cause =
    fails_later _ _ _ _ _ line new
    (λ name asked. (
      (asked.0.0, subst (λ (told : Option Files). task.reads told name asked.0.0) same asked.0.1),
      subst (λ (told : Option Files). Lacks told name) same asked.1,
    ))
    (rose_later _ _ _ before.absences_grow after.absences_grow) cause
cause_later task old middle new statuses.OutOfMemory line same before after cause = cause
cause_later task old middle new (statuses.AuditFault finding) line same before after cause =
    subst (λ (told : Option Files). Refuses task told (statuses.AuditFault finding) (report_line (finding_report finding)) line) same cause
cause_later task old middle new statuses.NoFit line same before after cause = subst (λ (told : Option Files). TellsNoFit task told line) same cause

-- of answers
pub answer_later : (task : Task) (old middle new : ShelfFacts) (answer : Option Answer) → middle.files ≡ old.files
    → CountsGrow old.counts middle.counts → CountsGrow middle.counts new.counts → AnswerHasCause task middle new answer → AnswerHasCause task old new answer
answer_later task old middle new None same before after cause = tt
answer_later task old middle new (Some answer) same before after cause = cause_later task old middle new answer.status answer.line same before after cause

-- counts that stay don't fall
pub counts_same : (counts : ShelfCounts) → CountsGrow counts counts
counts_same counts = record { faults_grow = omega arith; write_faults_grow = omega arith; absences_grow = omega arith }

-- a command that asked for nothing
pub asks_none : (task : Task) (told : Option Files) (old new : List ℕ → ℕ) → AsksNothing old new → AsksOnly task told old new
asks_none task told old new nothing = record {
  within = λ name limit reads. let less = nothing name in omega arith;
  others = λ name none. nothing name;
}

-- and one that called for nothing
pub asks_same : (task : Task) (told : Option Files) (asked : List ℕ → ℕ) → AsksOnly task told asked asked
asks_same task told asked = asks_none task told asked asked (λ name. omega arith)

-- one that asked for the only file that it reads
pub asks_one : (task : Task) (told : Option Files) (file : List ℕ) (most : ℕ) (old new : List ℕ → ℕ) → task.reads told file most
    → ((name : List ℕ) (limit : ℕ) → task.reads told name limit → (name ≡ file) × (limit ≡ most)) → AsksUpTo file (most + 1) old new → AsksOnly task told old new
asks_one task told file most old new reads only asks = record {
  within = λ name limit is.
      let one = only name limit is in
      subst (λ (n : List ℕ). new n ≤ max (old n) (limit + 1)) (sym one.0)
      (subst (λ (l : ℕ). new file ≤ max (old file) (l + 1)) (sym one.1) asks.here);
  others = λ name none. asks.others name (λ same. none most (subst (λ (n : List ℕ). task.reads told n most) (sym same) reads));
}

-- what was asked for in two calls
pub asks_later : (task : Task) (told : Option Files) (old middle new : List ℕ → ℕ) → AsksOnly task told old middle → AsksOnly task told middle new → AsksOnly task told old new
asks_later task told old middle new first second = record {
  within = λ name limit reads. let a = first.within name limit reads in let b = second.within name limit reads in omega arith;
  others = λ name none. let a = first.others name none in let b = second.others name none in omega arith;
}

-- counts over two calls
pub counts_twice : {old middle new : ShelfCounts} → CountsGrow old middle → CountsGrow middle new → CountsGrow old new
counts_twice first second =
    let a = first.faults_grow in
    let b = second.faults_grow in
    let c = first.write_faults_grow in
    let d = second.write_faults_grow in
    let e = first.absences_grow in
    let f = second.absences_grow in
    record { faults_grow = omega arith; write_faults_grow = omega arith; absences_grow = omega arith }

-- of a call that read programs
pub programs_grow : {old new : ShelfCounts} → CountReads old new → CountsGrow old new
programs_grow counts = record {
  faults_grow = counts.faults_grow;
  write_faults_grow = let same = counts.same_write_faults in omega arith;
  absences_grow = counts.absences_grow;
}

-- of a call that wrote
pub write_grows : {failed missing : Type 0} {old new : ShelfCounts} → WriteCauses failed missing old new → CountsGrow old new
write_grows causes = record {
  faults_grow = let same = causes.same_faults in omega arith;
  write_faults_grow = causes.write_faults_grow;
  absences_grow = let same = causes.same_absences in omega arith;
}

-- a call that read raised no count but its own
pub read_grows : {failed missing : Type 0} {old new : ShelfCounts} → ReadCauses failed missing old new → CountsGrow old new
read_grows causes = record {
  faults_grow = causes.faults_grow;
  write_faults_grow = let same = causes.same_write_faults in omega arith;
  absences_grow = causes.absences_grow;
}
