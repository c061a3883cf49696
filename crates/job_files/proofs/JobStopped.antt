-- How a command over a job ends where the job has no table.
use Rattle.std.proofs.Common.{◌≡◌, ℕ, List, ◌∷◌, ◌++◌, map, Contains, Option, Some, None, refl, sym, ap, subst, ◌∙◌, inl, inr, arith}
use Rattle.std.proofs.lemmas.List.{map-append}
use Rattle.std.proofs.lemmas.List.Elements.{Contains-append_right}
use Rattle.job_programs.specs.Told.{CountReads, ReadsEnd}
use Rattle.job_report.specs.declared.job.ProgramJob.{ProgramJob}
use Rattle.job_report.specs.declared.limits.TheConstants.{JOB_TEXT_MOST}
use Rattle.job_report.specs.declared.report.Report.TheVariants as reports
use Rattle.program_reader.specs.declared.limits.TheConstants.{FILE_BYTES_MOST}
use Rattle.run_report.specs.Report.{source_report}
use Rattle.shelf_io.specs.Files.{Files, Lacks}
use Rattle.command_words.specs.declared.ended.Ended.{Ended}
use Rattle.command_words.specs.declared.status.Status.{Status}
use Rattle.command_words.specs.declared.status.Status.TheVariants as statuses
use Rattle.command_words.specs.Ended.{EndsAtFault, Performs, Tells, answer_of}
use Rattle.shelf_io.specs.Facts.{ShelfFacts}
use Rattle.command_words.specs.Report.{refusal_report}
use Rattle.command_words.specs.Task.{AsksOnly, Task}
use Rattle.command_words.proofs.Counted.{programs_grow}
use Rattle.command_words.proofs.Ends.{ends_by_reads}
use Rattle.command_words.proofs.Performed.{performs_so, wants}
use Rattle.job_files.specs.declared.job_stop.JobStop.{JobStop}
use Rattle.job_files.specs.declared.job_stop.JobStop.TheVariants.{Text, Source, Unread, Missing, OutOfMemory}
use Rattle.job_files.specs.declared.job_stop.TextRefusal.{TextRefusal}
use Rattle.job_files.specs.declared.job_stop.TextRefusal.TheVariants.{NoDocument, Field, Limit}
use Rattle.job_files.specs.JobCalls.{JobCallsFor, JobMayRefuse, refusal_by_text, StopEnds}
use Rattle.job_files.specs.JobFile.{HoldsRefused}
use Rattle.job_files.specs.Stops.{EndsMissing, EndsUnread, HoldsRefusedProgram, IsJobFile, IsNextFile, StopsFor}

none_tells : (status : Status) (result : Option Ended) → result ≡ None → Tells status (answer_of result)
none_tells status result is = subst (λ (r : Option Ended). Tells status (answer_of r)) (sym is) tt

-- a job that can't be read
pub stop_tells_fault : (stop : JobStop) (result : Option Ended) → StopEnds stop result → EndsUnread stop → Tells statuses.ReadFault (answer_of result)
stop_tells_fault (Unread file) None ends is = tt
stop_tells_fault (Unread file) (Some ended) ends is = ends.0
stop_tells_fault OutOfMemory result ends is = none_tells statuses.ReadFault result ends
stop_tells_fault (Text refusal) result ends is = absurd is
stop_tells_fault (Source fault) result ends is = absurd is
stop_tells_fault (Missing file) result ends is = absurd is

-- or of which a file isn't there
pub stop_tells_absence : (stop : JobStop) (result : Option Ended) → StopEnds stop result → EndsMissing stop → Tells statuses.Missing (answer_of result)
stop_tells_absence (Missing file) None ends is = tt
stop_tells_absence (Missing file) (Some ended) ends is = ends.0
stop_tells_absence OutOfMemory result ends is = none_tells statuses.Missing result ends
stop_tells_absence (Text refusal) result ends is = absurd is
stop_tells_absence (Source fault) result ends is = absurd is
stop_tells_absence (Unread file) result ends is = absurd is

-- a refused text calls for its refusal
text_calls : (told : Option Files) (name : List ℕ) (named : List (List ℕ)) (refusal : TextRefusal) → HoldsRefused told name named refusal
    → JobCallsFor told name named (statuses.JobRefused (refusal_by_text refusal))
text_calls told name named NoDocument holds = holds
text_calls told name named (Field field) holds = holds
text_calls told name named (Limit field) holds = holds

-- and may be refused so
text_may : (refusal : TextRefusal) → JobMayRefuse (statuses.JobRefused (refusal_by_text refusal))
text_may NoDocument = tt
text_may (Field field) = tt
text_may (Limit field) = tt

-- a program's file is one of its job's
program_file : (before after : List ProgramJob) (program : ProgramJob) (programs : List ProgramJob) → programs ≡ before ++ program ∷ after
    → Contains (map (λ p. p.file) programs) program.file
program_file before after program programs split =
    let file_of : ProgramJob → List ℕ = λ p. p.file in
    let first : Contains (file_of program ∷ map file_of after) (file_of program) = (0, omega arith, refl) in
    let behind : Contains (map file_of before ++ (file_of program ∷ map file_of after)) (file_of program) =
    Contains-append_right (map file_of before) (file_of program ∷ map file_of after) (file_of program) first in
    subst (λ (files : List (List ℕ)). Contains files (file_of program)) (sym (ap (map file_of) split ∙ map-append file_of before (program ∷ after))) behind

-- the next file is one that the job is read from
next_is_read : (told : Option Files) (name : List ℕ) (named : List (List ℕ)) (file : List ℕ) → IsNextFile told name named file
    → (limit : ℕ) × IsJobFile told name named file limit
next_is_read told name named file (inl own) = (JOB_TEXT_MOST, inl (own, refl))
next_is_read told name named file (inr next) =
    let stops = next.stops in
    let among = program_file stops.before stops.after next.program next.job.programs stops.split in
    (FILE_BYTES_MOST, inr (next.job, next.holds, subst (λ (f : List ℕ). Contains (map (λ p. p.file) next.job.programs) f) (sym next.file_is) among, refl))

-- a task over the job in a file: what the job calls for, the task does, what is read for the job, the task reads, and it may leave the files
pub record ReadsJob (task : Task) (name : List ℕ) (named : List (List ℕ)) : Type 0 where
  pub calls : (told : Option Files) (status : Status) → JobCallsFor told name named status → task.calls_for told status
  pub may : (status : Status) → JobMayRefuse status → task.may_refuse status
  pub reads : (told : Option Files) (file : List ℕ) (limit : ℕ) → IsJobFile told name named file limit → task.reads told file limit
  pub leaves : (held : Files) → task.leaves held held

-- such a task ends as the job is stopped
stopped_so : (task : Task) (name : List ℕ) (named : List (List ℕ)) (old new : ShelfFacts) (stop : JobStop) (result : Option Ended) → ReadsJob task name named
    → StopsFor old.files name named old.counts new.counts new.since_fault stop → StopEnds stop result → new.files ≡ old.files → CountReads old.counts new.counts
    → EndsAtFault old new (answer_of result) → AsksOnly task old.files old.asked new.asked → Performs task old new (answer_of result)
stopped_so task name named old new (Text refusal) result over stops so same counts ends asks =
    let status = statuses.JobRefused (refusal_by_text refusal) in
    let report = refusal_report (refusal_by_text refusal) in
    performs_so task old new result status report report so refl same
    (λ held told. (
      over.calls (Some held) status
          (text_calls (Some held) name named refusal (subst (λ (t : Option Files). HoldsRefused t name named refusal) told stops)),
      refl,
    )) over.leaves
    (record { may = over.may status (text_may refusal); says = refl; called = over.calls old.files status (text_calls old.files name named refusal stops) })
    ends (programs_grow counts) asks
stopped_so task name named old new (Source fault) result over stops so same counts ends asks =
    performs_so task old new result (statuses.SourceRefused fault) (source_report fault) (source_report fault) so refl same
    (λ held told. (over.calls (Some held) (statuses.SourceRefused fault) (subst (λ (t : Option Files). HoldsRefusedProgram t name named fault) told stops), refl)) over.leaves
    (record { may = over.may (statuses.SourceRefused fault) tt; says = refl; called = over.calls old.files (statuses.SourceRefused fault) stops })
    ends (programs_grow counts) asks
stopped_so task name named old new (Unread file) result over stops so same counts ends asks =
    let (limit, is) = next_is_read old.files name named file stops.0 in
    performs_so task old new result statuses.ReadFault (reports.ReadFault file) (reports.ReadFault file) so refl same (λ held told. refl) over.leaves
    (record { name = file; asked = (limit, over.reads old.files file limit is); rises = stops.1; last = stops.2; names = refl })
    ends (programs_grow counts) asks
stopped_so task name named old new (Missing file) result over stops so same counts ends asks =
    let (limit, is) = next_is_read old.files name named file stops.0 in
    performs_so task old new result statuses.Missing (reports.Missing file) (reports.Missing file) so refl same
    (λ held told. (
      over.calls (Some held) statuses.Missing (
        file,
        subst (λ (t : Option Files). IsNextFile t name named file) told stops.0,
        subst (λ (t : Option Files). Lacks t file) told stops.1,
      ),
      refl,
    )) over.leaves
    (record { name = file; asked = ((limit, over.reads old.files file limit is), stops.1); rises = stops.2; last = stops.3; names = refl })
    ends (programs_grow counts) asks
stopped_so task name named old new OutOfMemory result over stops so same counts ends asks =
    subst (λ (r : Option Ended). Performs task old new (answer_of r)) (sym so)
    (wants task old new same over.leaves (subst (λ (r : Option Ended). EndsAtFault old new (answer_of r)) so ends) (programs_grow counts) asks)

pub stop_performs : (task : Task) (name : List ℕ) (named : List (List ℕ)) (old new : ShelfFacts) (stop : JobStop) (result : Option Ended) → ReadsJob task name named
    → StopsFor old.files name named old.counts new.counts new.since_fault stop → StopEnds stop result → new.files ≡ old.files → CountReads old.counts new.counts
    → ReadsEnd (EndsUnread stop) (EndsMissing stop) old.counts new.counts new.since_fault → AsksOnly task old.files old.asked new.asked
    → Performs task old new (answer_of result)
stop_performs task name named old new stop result over stops so same counts ends asks =
    stopped_so task name named old new stop result over stops so same counts
    (ends_by_reads old new (answer_of result) counts.same_write_faults ends (stop_tells_fault stop result so) (stop_tells_absence stop result so)) asks
