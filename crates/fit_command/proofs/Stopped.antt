-- How `fit` ends where JOB holds no job, or its programs have no table.
use Rattle.std.proofs.Common.{◌≡◌, ℕ, List, ◌∷◌, ◌++◌, map, Contains, Option, Some, refl, sym, ap, subst, ◌∙◌, inl, inr, arith}
use Rattle.std.proofs.lemmas.List.{map-append}
use Rattle.std.proofs.lemmas.List.Elements.{Contains-append_right}
use Rattle.job_programs.specs.Told.{CountReads, IsRefusedOn, ReadsEnd}
use Rattle.job_report.specs.declared.job.Job.{Job}
use Rattle.job_report.specs.declared.job.ProgramJob.{ProgramJob}
use Rattle.job_report.specs.declared.limits.TheConstants.{JOB_TEXT_MOST}
use Rattle.job_report.specs.declared.report.Report.TheVariants as reports
use Rattle.program_reader.specs.declared.limits.TheConstants.{FILE_BYTES_MOST}
use Rattle.run_report.specs.Report.{source_report}
use Rattle.shelf_io.specs.Files.{Files, Lacks}
use Rattle.version_table.specs.Table.{greatest}
use Rattle.command_words.specs.declared.ended.Ended.{Ended}
use Rattle.command_words.specs.declared.status.Status.TheVariants as statuses
use Rattle.command_words.specs.Ended.{EndsAtFault, Performs, answer_of}
use Rattle.shelf_io.specs.Facts.{ShelfFacts}
use Rattle.command_words.specs.Report.{refusal_report}
use Rattle.command_words.specs.Task.{AsksOnly}
use Rattle.command_words.proofs.Counted.{programs_grow}
use Rattle.command_words.proofs.Ends.{ends_by_reads}
use Rattle.command_words.proofs.Performed.{performs_so, wants}
use Rattle.job_files.specs.declared.job_stop.JobStop.{JobStop}
use Rattle.job_files.specs.declared.job_stop.JobStop.TheVariants.{Text, Source, Unread, Missing, OutOfMemory}
use Rattle.job_files.specs.declared.job_stop.TextRefusal.{TextRefusal}
use Rattle.job_files.specs.declared.job_stop.TextRefusal.TheVariants.{NoDocument, Field, Limit}
use Rattle.job_files.specs.JobCalls.{refusal_by_text, StopEnds}
use Rattle.job_files.specs.JobFile.{HoldsRefused}
use Rattle.job_files.specs.Stops.{EndsMissing, EndsUnread, IsNextOf, StopsFile, StopsJob}
use Rattle.job_files.proofs.JobStopped.{stop_tells_absence, stop_tells_fault}
use Rattle.fit_command.specs.FitCommand.{FitCallsFor, FitMayRefuse, HoldsAsked, files_of_fit, fit_task, job_in}

-- what a command's own file and the shelf's counts make of a stop
pub record Stands (old new : ShelfFacts) (stop : JobStop) (result : Option Ended) : Type 0 where
  pub so : StopEnds stop result
  pub same : new.files ≡ old.files
  pub counts : CountReads old.counts new.counts
  pub ends : ReadsEnd (EndsUnread stop) (EndsMissing stop) old.counts new.counts new.since_fault

at_fault : (old new : ShelfFacts) (stop : JobStop) (result : Option Ended) → Stands old new stop result → EndsAtFault old new (answer_of result)
at_fault old new stop result stands =
    ends_by_reads old new (answer_of result) stands.counts.same_write_faults stands.ends (stop_tells_fault stop result stands.so) (stop_tells_absence stop result stands.so)

-- a refused text calls for its refusal
text_calls : (told : Option Files) (name list : List ℕ) (refusal : TextRefusal) → HoldsRefused told name (files_of_fit name list) refusal
    → FitCallsFor name list told (statuses.JobRefused (refusal_by_text refusal))
text_calls told name list NoDocument holds = holds
text_calls told name list (Field field) holds = holds
text_calls told name list (Limit field) holds = holds

text_may : (refusal : TextRefusal) → FitMayRefuse (statuses.JobRefused (refusal_by_text refusal))
text_may NoDocument = tt
text_may (Field field) = tt
text_may (Limit field) = tt

-- ---- JOB

file_stopped : (name list : List ℕ) (old new : ShelfFacts) (stop : JobStop) (result : Option Ended)
    → StopsFile old.files name (files_of_fit name list) old.counts new.counts new.since_fault stop → Stands old new stop result
    → AsksOnly (fit_task name list) old.files old.asked new.asked → Performs (fit_task name list) old new (answer_of result)
file_stopped name list old new (Text refusal) result stops stands asks =
    let status = statuses.JobRefused (refusal_by_text refusal) in
    let report = refusal_report (refusal_by_text refusal) in
    performs_so (fit_task name list) old new result status report report stands.so refl stands.same
    (λ held told. (text_calls (Some held) name list refusal (subst (λ (t : Option Files). HoldsRefused t name (files_of_fit name list) refusal) told stops), refl)) (λ held. refl)
    (record { may = text_may refusal; says = refl; called = text_calls old.files name list refusal stops }) (at_fault old new (Text refusal) result stands)
    (programs_grow stands.counts) asks
file_stopped name list old new (Source fault) result stops stands asks = absurd stops
file_stopped name list old new (Unread file) result stops stands asks =
    performs_so (fit_task name list) old new result statuses.ReadFault (reports.ReadFault file) (reports.ReadFault file) stands.so refl stands.same (λ held told. refl) (λ held. refl)
    (record { name = file; asked = (JOB_TEXT_MOST, inl (inl (stops.0, refl))); rises = stops.1; last = stops.2; names = refl }) (at_fault old new (Unread file) result stands)
    (programs_grow stands.counts) asks
file_stopped name list old new (Missing file) result stops stands asks =
    performs_so (fit_task name list) old new result statuses.Missing (reports.Missing file) (reports.Missing file) stands.so refl stands.same
    (λ held told. ((file, inl stops.0, subst (λ (t : Option Files). Lacks t file) told stops.1), refl)) (λ held. refl)
    (record { name = file; asked = ((JOB_TEXT_MOST, inl (inl (stops.0, refl))), stops.1); rises = stops.2; last = stops.3; names = refl })
    (at_fault old new (Missing file) result stands) (programs_grow stands.counts) asks
file_stopped name list old new OutOfMemory result stops stands asks =
    subst (λ (r : Option Ended). Performs (fit_task name list) old new (answer_of r)) (sym stands.so)
    (wants (fit_task name list) old new stands.same (λ held. refl)
    (subst (λ (r : Option Ended). EndsAtFault old new (answer_of r)) stands.so (at_fault old new OutOfMemory result stands)) (programs_grow stands.counts) asks)

-- JOB holds no job
pub file_stop_performs : (name list : List ℕ) (old new : ShelfFacts) (stop : JobStop) (result : Option Ended)
    → StopsFile old.files name (files_of_fit name list) old.counts new.counts new.since_fault stop → Stands old new stop result
    → AsksOnly (fit_task name list) old.files old.asked new.asked → Performs (fit_task name list) old new (answer_of result)
file_stop_performs name list old new stop result stops stands asks = file_stopped name list old new stop result stops stands asks

-- ---- the programs

-- a program's file is one of its job's
program_file : (before after : List ProgramJob) (program : ProgramJob) (programs : List ProgramJob) → programs ≡ before ++ program ∷ after
    → Contains (map (λ (p : ProgramJob). p.file) programs) program.file
program_file before after program programs split =
    let file_of : ProgramJob → List ℕ = λ p. p.file in
    let first : Contains (file_of program ∷ map file_of after) (file_of program) = (0, omega arith, refl) in
    let behind : Contains (map file_of before ++ (file_of program ∷ map file_of after)) (file_of program) =
    Contains-append_right (map file_of before) (file_of program ∷ map file_of after) (file_of program) first in
    subst (λ (files : List (List ℕ)). Contains files (file_of program)) (sym (ap (map file_of) split ∙ map-append file_of before (program ∷ after))) behind

next_among : (told : Option Files) (job : Job) (file : List ℕ) → IsNextOf told job file → Contains (map (λ (p : ProgramJob). p.file) job.programs) file
next_among told job file next =
    subst (λ (f : List ℕ). Contains (map (λ (p : ProgramJob). p.file) job.programs) f) (sym next.file_is)
    (program_file next.stops.before next.stops.after next.program job.programs next.stops.split)

-- the programs of the job that was asked for have no table
pub job_stop_performs : (name list : List ℕ) (job : Job) (slots : List ℕ) (old new : ShelfFacts) (stop : JobStop) (result : Option Ended)
    → HoldsAsked old.files name list job slots → StopsJob old.files (job_in (greatest slots) job) old.counts new.counts new.since_fault stop → Stands old new stop result
    → AsksOnly (fit_task name list) old.files old.asked new.asked → Performs (fit_task name list) old new (answer_of result)
job_stop_performs name list job slots old new (Text refusal) result asked stops stands asks = absurd stops
job_stop_performs name list job slots old new (Source fault) result asked stops stands asks =
    performs_so (fit_task name list) old new result (statuses.SourceRefused fault) (source_report fault) (source_report fault) stands.so refl stands.same
    (λ held told. (
      (
        job,
        slots,
        subst (λ (t : Option Files). HoldsAsked t name list job slots) told asked,
        subst (λ (t : Option Files). IsRefusedOn t (job_in (greatest slots) job) fault) told stops,
      ),
      refl,
    )) (λ held. refl)
    (record { may = tt; says = refl; called = (job, slots, asked, stops) }) (at_fault old new (Source fault) result stands) (programs_grow stands.counts) asks
job_stop_performs name list job slots old new (Unread file) result asked stops stands asks =
    let among = next_among old.files (job_in (greatest slots) job) file stops.0 in
    performs_so (fit_task name list) old new result statuses.ReadFault (reports.ReadFault file) (reports.ReadFault file) stands.so refl stands.same (λ held told. refl) (λ held. refl)
    (record { name = file; asked = (FILE_BYTES_MOST, inl (inr (job, asked.job_is, among, refl))); rises = stops.1; last = stops.2; names = refl })
    (at_fault old new (Unread file) result stands) (programs_grow stands.counts) asks
job_stop_performs name list job slots old new (Missing file) result asked stops stands asks =
    let among = next_among old.files (job_in (greatest slots) job) file stops.0 in
    performs_so (fit_task name list) old new result statuses.Missing (reports.Missing file) (reports.Missing file) stands.so refl stands.same
    (λ held told. (
      (
        file,
        inr (inr (
          job,
          slots,
          subst (λ (t : Option Files). HoldsAsked t name list job slots) told asked,
          subst (λ (t : Option Files). IsNextOf t (job_in (greatest slots) job) file) told stops.0,
        )),
        subst (λ (t : Option Files). Lacks t file) told stops.1,
      ),
      refl,
    )) (λ held. refl)
    (record { name = file; asked = ((FILE_BYTES_MOST, inl (inr (job, asked.job_is, among, refl))), stops.1); rises = stops.2; last = stops.3; names = refl })
    (at_fault old new (Missing file) result stands) (programs_grow stands.counts) asks
job_stop_performs name list job slots old new OutOfMemory result asked stops stands asks =
    subst (λ (r : Option Ended). Performs (fit_task name list) old new (answer_of r)) (sym stands.so)
    (wants (fit_task name list) old new stands.same (λ held. refl)
    (subst (λ (r : Option Ended). EndsAtFault old new (answer_of r)) stands.so (at_fault old new OutOfMemory result stands)) (programs_grow stands.counts) asks)
