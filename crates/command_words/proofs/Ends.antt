-- A fault of the outside ends a command.
use Rattle.std.proofs.Common.{◌≡◌, ◌<◌, ℕ, Option, Some, None, IfSome, arith}
use Rattle.job_programs.specs.declared.source_fault.ProgramsFault.{ProgramsFault}
use Rattle.job_programs.specs.Told.{ReadsEnd}
use Rattle.job_programs.specs.Told as programs
use Rattle.job_programs.proofs.Ends.{ends_read, ends_so, no_rise}
pub use Rattle.job_programs.proofs.Ends.{failed_isnt_missing, memory_isnt_failed, missing_isnt_failed}
use Rattle.job_report.specs.declared.report.Report.{Report}
use Rattle.shelf_io.specs.Causes.{ReadCauses, WriteCauses}
use Rattle.shelf_io.specs.Counts.{ShelfCounts}
use Rattle.shelf_io.proofs.Counted.{rises_later}
use Rattle.command_words.specs.declared.ended.Ended.{Ended}
use Rattle.command_words.specs.declared.status.Status.{Status}
use Rattle.command_words.specs.declared.status.Status.TheVariants as statuses
use Rattle.command_words.specs.Answer.{Answer}
use Rattle.command_words.specs.Ended.{EndsAtFault, EndsBy, Tells, answer_of}
use Rattle.shelf_io.specs.Facts.{ShelfFacts}

stands : (old new : ℕ) → new ≡ old → old < new → ⊥
stands old new same rise = omega arith

-- a command that calls nothing
pub ends_uncalled : (facts : ShelfFacts) (answer : Option Answer) → EndsAtFault facts facts answer
ends_uncalled facts answer = record {
  reads = λ rise. absurd (no_rise facts.counts.faults rise);
  writes = λ rise. absurd (no_rise facts.counts.write_faults rise);
  absences = λ rise. absurd (no_rise facts.counts.absences rise);
}

-- one that ends by what it read
pub ends_by_reads : {failed missing : Type 0} (old new : ShelfFacts) (answer : Option Answer) → new.counts.write_faults ≡ old.counts.write_faults
    → ReadsEnd failed missing old.counts new.counts new.since_fault → (failed → Tells statuses.ReadFault answer) → (missing → Tells statuses.Missing answer)
    → EndsAtFault old new answer
ends_by_reads old new answer same ends fails misses = record {
  reads = λ rise. (fails (ends.faults rise).0, (ends.faults rise).1);
  writes = λ rise. absurd (stands old.counts.write_faults new.counts.write_faults same rise);
  absences = λ rise. (misses (ends.absences rise).0, (ends.absences rise).1);
}

-- by a file that it read
pub ends_by_read : {failed missing : Type 0} (old new : ShelfFacts) (answer : Option Answer) → ReadCauses failed missing old.counts new.counts
    → (failed → new.since_fault ≡ 0) → (missing → new.since_fault ≡ 0) → (failed → Tells statuses.ReadFault answer) → (missing → Tells statuses.Missing answer)
    → EndsAtFault old new answer
ends_by_read old new answer causes failed_last missing_last fails misses =
    ends_by_reads old new answer causes.same_write_faults (ends_read causes failed_last missing_last) fails misses

-- by a file that it wrote
pub ends_by_write : {failed missing : Type 0} (old new : ShelfFacts) (answer : Option Answer) → WriteCauses failed missing old.counts new.counts
    → (failed → new.since_fault ≡ 0) → (failed → Tells statuses.WriteFault answer) → EndsAtFault old new answer
ends_by_write old new answer causes last fails = record {
  reads = λ rise. absurd (stands old.counts.faults new.counts.faults causes.same_faults rise);
  writes = λ rise. (fails (causes.only_failed rise), last (causes.only_failed rise));
  absences = λ rise. absurd (stands old.counts.absences new.counts.absences causes.same_absences rise);
}

-- behind reads of which none failed and none was missing
pub ends_behind_reads : {failed missing : Type 0} {since : ℕ} (old middle new : ShelfFacts) (answer : Option Answer) → (failed → ⊥) → (missing → ⊥)
    → middle.counts.write_faults ≡ old.counts.write_faults → ReadsEnd failed missing old.counts middle.counts since
    → EndsAtFault middle new answer → EndsAtFault old new answer
ends_behind_reads old middle new answer unfailed found same before after = record {
  reads = λ rise. after.reads
      (rises_later old.counts.faults middle.counts.faults new.counts.faults (λ early. unfailed (before.faults early).0) rise);
  writes = λ rise. after.writes
      (rises_later old.counts.write_faults middle.counts.write_faults new.counts.write_faults (stands old.counts.write_faults middle.counts.write_faults same) rise);
  absences = λ rise. after.absences
      (rises_later old.counts.absences middle.counts.absences new.counts.absences (λ early. found (before.absences early).0) rise);
}

-- behind a file that was read
pub ends_behind_read : {failed missing : Type 0} (old middle new : ShelfFacts) (answer : Option Answer) → (failed → ⊥) → (missing → ⊥)
    → ReadCauses failed missing old.counts middle.counts → EndsAtFault middle new answer → EndsAtFault old new answer
ends_behind_read old middle new answer unfailed found causes after =
    ends_behind_reads {since = 0} old middle new answer unfailed found causes.same_write_faults
    (ends_read causes (λ is. absurd (unfailed is)) (λ is. absurd (found is))) after

-- behind a file that was written
pub ends_behind_write : {failed missing : Type 0} (old middle new : ShelfFacts) (answer : Option Answer) → (failed → ⊥)
    → WriteCauses failed missing old.counts middle.counts → EndsAtFault middle new answer → EndsAtFault old new answer
ends_behind_write old middle new answer unfailed causes after = record {
  reads = λ rise. after.reads
      (rises_later old.counts.faults middle.counts.faults new.counts.faults (stands old.counts.faults middle.counts.faults causes.same_faults) rise);
  writes = λ rise. after.writes
      (rises_later old.counts.write_faults middle.counts.write_faults new.counts.write_faults (λ early. unfailed (causes.only_failed early)) rise);
  absences = λ rise. after.absences
      (rises_later old.counts.absences middle.counts.absences new.counts.absences (stands old.counts.absences middle.counts.absences causes.same_absences) rise);
}

-- a command that ends by a status tells it
pub tells : (result : Option Ended) (status : Status) (report : Report) → IfSome result (EndsBy status report) → Tells status (answer_of result)
tells None status report ends = tt
tells (Some ended) status report ends = ends.0

-- what ended the reading of the programs of a job, in other words
pub programs_end : {fails misses : Type 0} {found fault : ProgramsFault} (old new : ShelfCounts) (since : ℕ) → found ≡ fault
    → (programs.EndsFailed fault → fails) → (programs.EndsMissing fault → misses)
    → ReadsEnd (programs.EndsFailed found) (programs.EndsMissing found) old new since → ReadsEnd fails misses old new since
programs_end old new since is fails misses ends = ends_so (λ f. fails (rw is at f)) (λ m. misses (rw is at m)) ends
