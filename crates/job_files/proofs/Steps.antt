-- From a job's file to its table, in several calls.
use Rattle.std.proofs.Common.{◌≡◌, ℕ, ◌≤◌, List, [], ◌∷◌, ◌++◌, All, Option, Result, Ok, Err, IfOk, IfErr, refl, sym, subst, inl, inr, ◌∙◌, arith}
use Rattle.std.proofs.lemmas.List.Elements.{All-cons, All-nil}
use Rattle.shelf_io.specs.Causes.{ReadCauses}
use Rattle.shelf_io.specs.Counts.{Rose, ShelfCounts}
use Rattle.shelf_io.specs.Files.{Files, Lacks}
use Rattle.shelf_io.proofs.Counted.{rose_later}
use Rattle.job_report.specs.declared.job.Job.{Job}
use Rattle.job_report.specs.declared.job.ProgramJob.{ProgramJob}
use Rattle.job_report.specs.ValidJob.{IsValidJob}
use Rattle.job_programs.specs.declared.passed.PassedPrograms.{PassedPrograms}
use Rattle.job_programs.specs.Passed.{ArePassedOn}
use Rattle.job_programs.specs.Told.{AreProgramsOn, CountReads, StopsAtProgram}
use Rattle.job_programs.specs.Read.{AreReadEach, AreReadPrograms}
use Rattle.program_reader.specs.ReadProgram.{IsReadProgram}
use Rattle.program_reader.specs.declared.program.Program.{Program}
use Rattle.version_source.specs.Sendable.{IsSendable}
use Rattle.program_table.specs.Table.{IsTableOf}
use Rattle.version_table.specs.declared.table.Table.{Table}
use Rattle.version_table.specs.Table.{IsValidTable}
use Rattle.job_files.specs.declared.job_stop.JobStop.{JobStop}
use Rattle.job_files.specs.declared.job_stop.JobStop.TheVariants.{Text, Source, Unread, Missing, OutOfMemory}
use Rattle.job_files.specs.declared.job_table.JobTable.{JobTable}
use Rattle.job_files.specs.declared.job_stop.TextRefusal.{TextRefusal}
use Rattle.job_files.specs.JobFile.{HoldsJob, HoldsRefused, IsJobOfText}
use Rattle.job_files.specs.declared.passed_job.PassedJob.{PassedJob}
use Rattle.job_files.specs.JobTable.{IsJobTable, IsTableOfJob}
use Rattle.job_files.specs.PassedJob.{IsJobPassed, IsPassedOfJob}
use Rattle.job_files.specs.Stops.{StopsFile, StopsFor, StopsJob}
use Rattle.job_files.specs.Private.Steps.{IsMissing, IsProgramAt, IsUnread}
use Rattle.job_files.specs.Private.Texts.{IsTextStop}

-- a program that was read can be sent
abbrev pub ReadIsSendable : Type 0
ReadIsSendable = (start : ℕ) (program : Program) → IsReadProgram start program → IsSendable program

-- so each of those of a job can be
each_can_go : ReadIsSendable → (slot start : ℕ) (jobs : List ProgramJob) (programs : List Program) → AreReadEach slot start jobs programs → All IsSendable programs
each_can_go law slot start [] [] each = All-nil IsSendable
each_can_go law slot start [] (program ∷ programs) each = absurd each
each_can_go law slot start (job ∷ jobs) [] each = absurd each
each_can_go law slot start (job ∷ jobs) (program ∷ programs) (was, rest) =
    All-cons IsSendable program programs (law start program was.read) (each_can_go law slot start jobs programs rest)

pub programs_can_go : ReadIsSendable → (job : Job) (programs sources : List Program) → sources ≡ programs → AreReadPrograms job programs → All IsSendable sources
programs_can_go law job programs sources same read =
    subst (λ (ps : List Program). All IsSendable ps) (sym same) (each_can_go law job.slot job.start job.programs programs read.each)

-- the table of programs that were read is valid
abbrev pub TableIsValid : Type 0
TableIsValid = (job : Job) (programs : List Program) (table : Table) → IsValidJob job → AreReadPrograms job programs → IsTableOf job programs table → IsValidTable table

pub table_made_valid : {E : Type 0} → TableIsValid → (job : Job) (programs sources : List Program) → sources ≡ programs → IsValidJob job → AreReadPrograms job programs
    → (result : Result Table E) → IfOk result (IsTableOf job sources) → IfOk result IsValidTable
table_made_valid law job programs sources same valid read (Err fault) is = tt
table_made_valid law job programs sources same valid read (Ok table) is =
    law job sources table valid (subst (λ (ps : List Program). AreReadPrograms job ps) (sym same) read) is

-- counts over two calls that read
pub reads_twice : {old middle new : ShelfCounts} {failed missing : Type 0} → ReadCauses failed missing old middle → CountReads middle new → CountReads old new
reads_twice first second = record {
  faults_grow = let a = first.faults_grow in let b = second.faults_grow in omega arith;
  same_write_faults = second.same_write_faults ∙ first.same_write_faults;
  absences_grow = let a = first.absences_grow in let b = second.absences_grow in omega arith;
}

-- and over one
pub reads_once : {old new : ShelfCounts} {failed missing : Type 0} → ReadCauses failed missing old new → CountReads old new
reads_once first = record { faults_grow = first.faults_grow; same_write_faults = first.same_write_faults; absences_grow = first.absences_grow }

-- a table that was made of a job that was read
pub is_job_table : (told middle : Option Files) (name : List ℕ) (named : List (List ℕ)) (job : Job) (result : Result JobTable JobStop) → middle ≡ told
    → HoldsJob told name named job → IfOk result (IsTableOfJob middle job) → IfOk result (IsJobTable told name named)
is_job_table told middle name named job (Err stop) same holds made = tt
is_job_table told middle name named job (Ok made) same holds is = record {
  holds = subst (λ (j : Job). HoldsJob told name named j) (sym is.job_is) holds;
  programs = subst (λ (t : Option Files). AreProgramsOn t made.job made.programs) same is.programs;
  table = is.table;
}

-- so it is where the programs' bytes aren't kept
pub is_job_passed : (told middle : Option Files) (name : List ℕ) (named : List (List ℕ)) (job : Job) (result : Result PassedJob JobStop) → middle ≡ told
    → HoldsJob told name named job → IfOk result (IsPassedOfJob middle job) → IfOk result (IsJobPassed told name named)
is_job_passed told middle name named job (Err stop) same holds made = tt
is_job_passed told middle name named job (Ok passed) same holds is = record {
  made = is.made;
  is_table = record {
    holds = subst (λ (j : Job). HoldsJob told name named j) (sym is.is_table.job_is) holds;
    programs = subst (λ (t : Option Files). AreProgramsOn t is.made.job is.made.programs) same is.is_table.programs;
    table = is.is_table.table;
  };
  off = is.off;
}

-- of a valid job
pub passed_valid : (told : Option Files) (job : Job) (result : Result PassedJob JobStop) → IsValidJob job → IfOk result (IsPassedOfJob told job) → IfOk result (λ passed. IsValidJob passed.job)
passed_valid told job (Err stop) valid is = tt
passed_valid told job (Ok passed) valid is = subst IsValidJob (sym (is.off.job_is ∙ is.is_table.job_is)) valid

-- a job with what is read off its programs, and their table
pub is_passed_of : (told : Option Files) (job : Job) (read : PassedPrograms) (table : Table) → (on : ArePassedOn told job read) → IsTableOf job on.programs table
    → IsPassedOfJob told job (record { job = job; programs = read.programs; table = table })
is_passed_of told job read table on is = record {
  made = record { job = job; programs = on.programs; table = table };
  is_table = record { job_is = refl; programs = on.are; table = is };
  off = record { job_is = refl; read_off = on.off.read_off; table_is = refl };
}

-- what stopped a job that was read
stop_later : (told : Option Files) (name : List ℕ) (named : List (List ℕ)) (job : Job) (old middle new : ShelfCounts) (since : ℕ) (stop : JobStop)
    → HoldsJob told name named job → old.faults ≤ middle.faults → middle.faults ≤ new.faults → old.absences ≤ middle.absences → middle.absences ≤ new.absences
    → StopsJob told job middle new since stop → StopsFor told name named old new since stop
stop_later told name named job old middle new since (Text refusal) holds f1 f2 a1 a2 stops = absurd stops
stop_later told name named job old middle new since (Source fault) holds f1 f2 a1 a2 stops = record { job = job; holds = holds; refused = stops }
stop_later told name named job old middle new since (Unread file) holds f1 f2 a1 a2 (next, rose, last) = (
  inr (record { job = job; holds = holds; number = next.number; program = next.program; stops = next.stops; file_is = next.file_is }),
  rose_later _ _ _ f1 f2 rose,
  last,
)
stop_later told name named job old middle new since (Missing file) holds f1 f2 a1 a2 (next, lacks, rose, last) = (
  inr (record { job = job; holds = holds; number = next.number; program = next.program; stops = next.stops; file_is = next.file_is }),
  lacks,
  rose_later _ _ _ a1 a2 rose,
  last,
)
stop_later told name named job old middle new since OutOfMemory holds f1 f2 a1 a2 stops = tt

pub stops_later : {T : Type 0} (told between : Option Files) (name : List ℕ) (named : List (List ℕ)) (job : Job) (old middle new : ShelfCounts) (since : ℕ) (result : Result T JobStop)
    → between ≡ told → HoldsJob told name named job → CountReads old middle → CountReads middle new → IfErr result (StopsJob between job middle new since)
    → IfErr result (StopsFor told name named old new since)
stops_later told between name named job old middle new since (Ok made) same holds first second stops = tt
stops_later told between name named job old middle new since (Err stop) same holds first second stops =
    stop_later told name named job old middle new since stop holds first.faults_grow second.faults_grow first.absences_grow second.absences_grow
    (subst (λ (t : Option Files). StopsJob t job middle new since stop) same stops)

-- a text that gave no job
text_stops : (told : Option Files) (name front : List ℕ) (named : List (List ℕ)) (old new : ShelfCounts) (since : ℕ) (stop : JobStop)
    → ((refusal : TextRefusal) → IsTextStop front named (Text refusal) → HoldsRefused told name named refusal) → IsTextStop front named stop
    → StopsFile told name named old new since stop
text_stops told name front named old new since (Text refusal) holds stops = holds refusal stops
text_stops told name front named old new since (Source fault) holds stops = absurd stops
text_stops told name front named old new since (Unread file) holds stops = absurd stops
text_stops told name front named old new since (Missing file) holds stops = absurd stops
text_stops told name front named old new since OutOfMemory holds stops = tt

pub texts_stop : (told : Option Files) (name front : List ℕ) (named : List (List ℕ)) (old new : ShelfCounts) (since : ℕ) (result : Result Job JobStop)
    → ((refusal : TextRefusal) → IsTextStop front named (Text refusal) → HoldsRefused told name named refusal) → IfErr result (IsTextStop front named)
    → IfErr result (StopsFile told name named old new since)
texts_stop told name front named old new since (Ok job) holds stops = tt
texts_stop told name front named old new since (Err stop) holds stops = text_stops told name front named old new since stop holds stops

-- and one that gave one
pub jobs_held : (told : Option Files) (name front : List ℕ) (named : List (List ℕ)) (result : Result Job JobStop)
    → ((job : Job) → IsJobOfText front named job → HoldsJob told name named job) → IfOk result (IsJobOfText front named) → IfOk result (HoldsJob told name named)
jobs_held told name front named (Ok job) holds is = holds job is
jobs_held told name front named (Err stop) holds is = tt

-- a file that couldn't be read
pub unread_stops : (told : Option Files) (name : List ℕ) (named : List (List ℕ)) (old new : ShelfCounts) (since : ℕ) (stop : JobStop)
    → Rose old.faults new.faults → since ≡ 0 → IsUnread name stop → StopsFile told name named old new since stop
unread_stops told name named old new since (Unread other) rose last is = (is, rose, last)
unread_stops told name named old new since (Text refusal) rose last is = absurd is
unread_stops told name named old new since (Source fault) rose last is = absurd is
unread_stops told name named old new since (Missing other) rose last is = absurd is
unread_stops told name named old new since OutOfMemory rose last is = tt

-- a file that isn't there
pub missing_stops : (told : Option Files) (name : List ℕ) (named : List (List ℕ)) (old new : ShelfCounts) (since : ℕ) (stop : JobStop)
    → Lacks told name → Rose old.absences new.absences → since ≡ 0 → IsMissing name stop → StopsFile told name named old new since stop
missing_stops told name named old new since (Missing other) lacks rose last is = (is, subst (λ (f : List ℕ). Lacks told f) (sym is) lacks, rose, last)
missing_stops told name named old new since (Text refusal) lacks rose last is = absurd is
missing_stops told name named old new since (Source fault) lacks rose last is = absurd is
missing_stops told name named old new since (Unread other) lacks rose last is = absurd is
missing_stops told name named old new since OutOfMemory lacks rose last is = tt

-- what stopped the reading of a job's file stopped that of its table
pub file_stops : (told : Option Files) (name : List ℕ) (named : List (List ℕ)) (old new : ShelfCounts) (since : ℕ) (stop : JobStop)
    → StopsFile told name named old new since stop → StopsFor told name named old new since stop
file_stops told name named old new since (Text refusal) stops = stops
file_stops told name named old new since (Source fault) stops = absurd stops
file_stops told name named old new since (Unread file) stops = (inl stops.0, stops.1, stops.2)
file_stops told name named old new since (Missing file) stops = (inl stops.0, stops.1, stops.2, stops.3)
file_stops told name named old new since OutOfMemory stops = tt

-- a program at which reading stopped
pub program_at : (told : Option Files) (job : Job) (number : ℕ) (stopped : ProgramJob) → StopsAtProgram told job number stopped → IsProgramAt job number stopped
program_at told job number stopped stops = record { before = stops.before; after = stops.after; split = stops.split; number_is = stops.number_is }

-- its file couldn't be read
pub unread_program : (told : Option Files) (job : Job) (number : ℕ) (stopped : ProgramJob) (file : List ℕ) (old new : ShelfCounts) (since : ℕ) (stop : JobStop)
    → StopsAtProgram told job number stopped → Rose old.faults new.faults → since ≡ 0 → file ≡ stopped.file → IsUnread file stop → StopsJob told job old new since stop
unread_program told job number stopped file old new since (Unread other) stops rose last is unread =
    (record { number = number; program = stopped; stops = stops; file_is = unread ∙ is }, rose, last)
unread_program told job number stopped file old new since (Text refusal) stops rose last is unread = absurd unread
unread_program told job number stopped file old new since (Source fault) stops rose last is unread = absurd unread
unread_program told job number stopped file old new since (Missing other) stops rose last is unread = absurd unread
unread_program told job number stopped file old new since OutOfMemory stops rose last is unread = tt

-- or isn't there
pub missing_program : (told : Option Files) (job : Job) (number : ℕ) (stopped : ProgramJob) (file : List ℕ) (old new : ShelfCounts) (since : ℕ) (stop : JobStop)
    → StopsAtProgram told job number stopped → Lacks told stopped.file → Rose old.absences new.absences → since ≡ 0 → file ≡ stopped.file → IsMissing file stop
    → StopsJob told job old new since stop
missing_program told job number stopped file old new since (Missing other) stops lacks rose last is missing = (
  record { number = number; program = stopped; stops = stops; file_is = missing ∙ is },
  subst (λ (f : List ℕ). Lacks told f) (sym (missing ∙ is)) lacks,
  rose,
  last,
)
missing_program told job number stopped file old new since (Text refusal) stops lacks rose last is missing = absurd missing
missing_program told job number stopped file old new since (Source fault) stops lacks rose last is missing = absurd missing
missing_program told job number stopped file old new since (Unread other) stops lacks rose last is missing = absurd missing
missing_program told job number stopped file old new since OutOfMemory stops lacks rose last is missing = tt
