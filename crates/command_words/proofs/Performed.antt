-- How a task is performed, one lemma for each way in which a call of the shelf ends it, or goes before the rest of it.
use Rattle.std.proofs.Common.{◌≡◌, ℕ, List, Option, Some, None, IfSome, refl, subst}
use Rattle.job_programs.specs.Told.{CountReads, ReadsEnd}
use Rattle.job_report.specs.Report.{report_line}
use Rattle.job_report.specs.declared.report.Report.{Report}
use Rattle.job_report.specs.declared.report.Report.TheVariants as reports
use Rattle.shelf_io.specs.Asked.{AsksNothing}
use Rattle.shelf_io.specs.Causes.{ReadCauses, WriteCauses}
use Rattle.shelf_io.specs.Files.{Files, Lacks}
use Rattle.command_words.specs.declared.ended.Ended.{Ended}
use Rattle.command_words.specs.declared.status.Status.{Status}
use Rattle.command_words.specs.declared.status.Status.TheVariants as statuses
use Rattle.command_words.specs.Answer.{Answer, AnswerHasCause, Decides, EndsWithStatus, HasCause}
use Rattle.command_words.specs.Ended.{EndsAtFault, EndsBy, Performs, answer_of}
use Rattle.shelf_io.specs.Facts.{ShelfFacts}
use Rattle.command_words.specs.Outside.{CountsGrow, OnFiles}
use Rattle.command_words.specs.Task.{AsksOnly, Task}
use Rattle.command_words.proofs.Counted.{answer_later, asks_later, asks_none, asks_same, counts_same, counts_twice, programs_grow, read_grows, write_grows}
use Rattle.command_words.proofs.Ending.{ends_so}
use Rattle.command_words.proofs.Ends.{ends_behind_read, ends_behind_reads, ends_by_read, ends_by_write, ends_uncalled, tells}
use Rattle.command_words.proofs.Told.{on_same}

-- ---- behind a call that read

-- the files are as they were, and no fault came of it
pub performs_later : (task : Task) (old middle new : ShelfFacts) (answer : Option Answer) → middle.files ≡ old.files → CountsGrow old.counts middle.counts
    → AsksOnly task old.files old.asked middle.asked → (EndsAtFault middle new answer → EndsAtFault old new answer) → Performs task middle new answer
    → Performs task old new answer
performs_later task old middle new answer same counts asks ends performs = record {
  decided = subst (λ (told : Option Files). OnFiles told new.files (λ files after. Decides task files answer after)) same performs.decided;
  cause = answer_later task old middle new answer same counts performs.counts performs.cause;
  ends = ends performs.ends;
  counts = counts_twice counts performs.counts;
  asks = asks_later task old.files old.asked middle.asked new.asked asks (subst (λ (told : Option Files). AsksOnly task told middle.asked new.asked) same performs.asks);
}

-- a file was read
pub behind_read : {failed missing : Type 0} (task : Task) (old middle new : ShelfFacts) (answer : Option Answer) → middle.files ≡ old.files → (failed → ⊥) → (missing → ⊥)
    → ReadCauses failed missing old.counts middle.counts → AsksOnly task old.files old.asked middle.asked → Performs task middle new answer → Performs task old new answer
behind_read task old middle new answer same unfailed found causes asks performs =
    performs_later task old middle new answer same (read_grows causes) asks (ends_behind_read old middle new answer unfailed found causes) performs

-- programs of files were read
pub behind_reads : {failed missing : Type 0} (task : Task) (old middle new : ShelfFacts) (answer : Option Answer) → middle.files ≡ old.files → (failed → ⊥) → (missing → ⊥)
    → CountReads old.counts middle.counts → ReadsEnd failed missing old.counts middle.counts middle.since_fault → AsksOnly task old.files old.asked middle.asked
    → Performs task middle new answer → Performs task old new answer
behind_reads task old middle new answer same unfailed found counts ends asks performs =
    performs_later task old middle new answer same (programs_grow counts) asks
    (ends_behind_reads old middle new answer unfailed found counts.same_write_faults ends) performs

-- ---- the files are as they were

-- with a status and its line
pub performs_so : (task : Task) (old new : ShelfFacts) (result : Option Ended) (status : Status) (report told : Report) → IfSome result (EndsBy status report) → report ≡ told
    → new.files ≡ old.files → ((held : Files) → old.files ≡ Some held → EndsWithStatus task held status (report_line told) held) → ((held : Files) → task.leaves held held)
    → HasCause task old new status (report_line told) → EndsAtFault old new (answer_of result) → CountsGrow old.counts new.counts
    → AsksOnly task old.files old.asked new.asked → Performs task old new (answer_of result)
performs_so task old new result status report told so is same ends leaves cause at_fault counts asks = record {
  decided = on_same old.files new.files (λ files after. Decides task files (answer_of result) after) same
      (λ held tells_it. ends_so (λ answer. Decides task held answer held) result status report told so is (ends held tells_it) (leaves held));
  cause = ends_so (AnswerHasCause task old new) result status report told so is cause tt;
  ends = at_fault;
  counts = counts;
  asks = asks;
}

-- without, for want of memory
pub wants : (task : Task) (old new : ShelfFacts) → new.files ≡ old.files → ((held : Files) → task.leaves held held) → EndsAtFault old new None
    → CountsGrow old.counts new.counts → AsksOnly task old.files old.asked new.asked → Performs task old new None
wants task old new same leaves ends counts asks = record {
  decided = on_same old.files new.files (λ files after. task.leaves files after) same (λ held tells_it. leaves held);
  cause = tt;
  ends = ends;
  counts = counts;
  asks = asks;
}

-- and no call of the shelf
pub wants_uncalled : (task : Task) (facts : ShelfFacts) → ((held : Files) → task.leaves held held) → Performs task facts facts None
wants_uncalled task facts leaves =
    wants task facts facts refl leaves (ends_uncalled facts None) (counts_same facts.counts) (asks_same task facts.files facts.asked)

pub performs_uncalled : (task : Task) (facts : ShelfFacts) (result : Option Ended) (status : Status) (report told : Report) → IfSome result (EndsBy status report) → report ≡ told
    → ((held : Files) → facts.files ≡ Some held → EndsWithStatus task held status (report_line told) held) → ((held : Files) → task.leaves held held)
    → HasCause task facts facts status (report_line told) → Performs task facts facts (answer_of result)
performs_uncalled task facts result status report told so is ends leaves cause =
    performs_so task facts facts result status report told so is refl ends leaves cause (ends_uncalled facts (answer_of result)) (counts_same facts.counts)
    (asks_same task facts.files facts.asked)

-- a file can't be read
pub unread : {failed missing : Type 0} (task : Task) (old new : ShelfFacts) (result : Option Ended) (name : List ℕ) (limit : ℕ)
    → IfSome result (EndsBy statuses.ReadFault (reports.ReadFault name)) → new.files ≡ old.files → ((held : Files) → task.leaves held held) → task.reads old.files name limit
    → ReadCauses failed missing old.counts new.counts → failed → (missing → ⊥) → (failed → new.since_fault ≡ 0) → AsksOnly task old.files old.asked new.asked
    → Performs task old new (answer_of result)
unread task old new result name limit so same leaves reads causes fails found last asks =
    performs_so task old new result statuses.ReadFault (reports.ReadFault name) (reports.ReadFault name) so refl same (λ held tells_it. refl) leaves
    (record { name = name; asked = (limit, reads); rises = causes.failed_rose fails; last = last fails; names = refl })
    (ends_by_read old new (answer_of result) causes last (λ it. absurd (found it)) (λ it. tells result statuses.ReadFault (reports.ReadFault name) so)
    (λ it. absurd (found it)))
    (read_grows causes) asks

-- a file isn't there
pub absent : {failed missing : Type 0} (task : Task) (old new : ShelfFacts) (result : Option Ended) (name : List ℕ) (limit : ℕ)
    → IfSome result (EndsBy statuses.Missing (reports.Missing name)) → new.files ≡ old.files → ((held : Files) → task.leaves held held) → task.reads old.files name limit
    → Lacks old.files name → ((held : Files) → old.files ≡ Some held → Lacks (Some held) name → task.calls_for (Some held) statuses.Missing)
    → ReadCauses failed missing old.counts new.counts → missing → (failed → ⊥) → (missing → new.since_fault ≡ 0) → AsksOnly task old.files old.asked new.asked
    → Performs task old new (answer_of result)
absent task old new result name limit so same leaves reads lacks calls causes misses unfailed last asks =
    performs_so task old new result statuses.Missing (reports.Missing name) (reports.Missing name) so refl same
    (λ held tells_it. (calls held tells_it (subst (λ (told : Option Files). Lacks told name) tells_it lacks), refl)) leaves
    (record { name = name; asked = ((limit, reads), lacks); rises = causes.missing_rose misses; last = last misses; names = refl })
    (ends_by_read old new (answer_of result) causes (λ it. absurd (unfailed it)) last (λ it. absurd (unfailed it))
    (λ it. tells result statuses.Missing (reports.Missing name) so))
    (read_grows causes) asks

-- memory was wanted for its bytes
pub wants_bytes : {failed missing : Type 0} (task : Task) (old new : ShelfFacts) → new.files ≡ old.files → ((held : Files) → task.leaves held held)
    → ReadCauses failed missing old.counts new.counts → (failed → new.since_fault ≡ 0) → (missing → new.since_fault ≡ 0) → AsksOnly task old.files old.asked new.asked
    → Performs task old new None
wants_bytes task old new same leaves causes failed_last missing_last asks =
    wants task old new same leaves (ends_by_read old new None causes failed_last missing_last (λ it. tt) (λ it. tt)) (read_grows causes) asks

-- ---- a file was written

-- whole
pub written : {failed missing : Type 0} (task : Task) (old new : ShelfFacts) (done : Ended) (report told : Report) → EndsBy statuses.Ok report done → report ≡ told
    → OnFiles old.files new.files (λ held after. task.is_done held (report_line told) after) → task.tells_work old.files (report_line told)
    → WriteCauses failed missing old.counts new.counts → (failed → ⊥) → AsksNothing old.asked new.asked → Performs task old new (answer_of (Some done))
written task old new done report told so is holds says causes unfailed asks = record {
  decided = ends_so (λ answer. (answer ≡ None → ⊥) → OnFiles old.files new.files (λ held after. Decides task held answer after)) (Some done) statuses.Ok report told so is
      (λ some. holds) (λ some. absurd (some refl)) (λ none. cc);
  cause = ends_so (AnswerHasCause task old new) (Some done) statuses.Ok report told so is says tt;
  ends = ends_by_write old new (answer_of (Some done)) causes (λ fails. absurd (unfailed fails)) (λ fails. absurd (unfailed fails));
  counts = write_grows causes;
  asks = asks_none task old.files old.asked new.asked asks;
}

-- or broken off, by a fault
pub unwritten : {failed missing : Type 0} (task : Task) (old new : ShelfFacts) (result : Option Ended) (name : List ℕ)
    → IfSome result (EndsBy statuses.WriteFault (reports.WriteFault name)) → OnFiles old.files new.files (λ held after. task.leaves held after) → task.writes name
    → WriteCauses failed missing old.counts new.counts → failed → new.since_fault ≡ 0 → AsksNothing old.asked new.asked → Performs task old new (answer_of result)
unwritten task old new result name so left writes causes fails last asks = record {
  decided = ends_so (λ answer. OnFiles old.files new.files (λ held after. Decides task held answer after)) result statuses.WriteFault (reports.WriteFault name) (reports.WriteFault name)
      so refl left left;
  cause = ends_so (AnswerHasCause task old new) result statuses.WriteFault (reports.WriteFault name) (reports.WriteFault name) so refl
      (record { name = name; asked = writes; rises = causes.failed_rose fails; last = last; names = refl }) tt;
  ends = ends_by_write old new (answer_of result) causes (λ it. last) (λ it. tells result statuses.WriteFault (reports.WriteFault name) so);
  counts = write_grows causes;
  asks = asks_none task old.files old.asked new.asked asks;
}

-- or by want of memory
pub wants_within : {failed missing : Type 0} (task : Task) (old new : ShelfFacts) → OnFiles old.files new.files (λ held after. task.leaves held after)
    → WriteCauses failed missing old.counts new.counts → (failed → new.since_fault ≡ 0) → AsksNothing old.asked new.asked → Performs task old new None
wants_within task old new left causes last asks = record {
  decided = left;
  cause = tt;
  ends = ends_by_write old new None causes last (λ it. tt);
  counts = write_grows causes;
  asks = asks_none task old.files old.asked new.asked asks;
}
