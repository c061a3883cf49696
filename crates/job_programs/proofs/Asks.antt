-- How far files are asked, and counts, over the files of several programs.
use Rattle.std.proofs.Common.{◌≡◌, ◌⊎◌, ℕ, ◌+◌, ◌<◌, ◌≤◌, max, Bool, true, false, List, length, map, get_or, Contains, refl, sym, ap, subst, ◌∙◌, inl, inr, arith}
use Rattle.std.specs.Bool.{Decides}
use Rattle.std.specs.Str.{bytes_eq}
use Rattle.std.proofs.lemmas.List.{get_or-map, length-map}
use Rattle.std.proofs.lemmas.Slice.Eq.{bytes_eq-Decides}
use Rattle.shelf_io.specs.Asked.{AsksUpTo}
use Rattle.shelf_io.specs.Counts.{ShelfCounts}
use Rattle.job_report.specs.declared.job.ProgramJob.{ProgramJob}
use Rattle.program_reader.specs.declared.limits.TheConstants.{FILE_BYTES_MOST}
use Rattle.job_programs.specs.Told.{AsksForPrograms, CountReads}

-- the file of a program of the job is one of its files
pub file-stands : (jobs : List ProgramJob) (i : ℕ) (job : ProgramJob) → i < length jobs → job ≡ get_or jobs i job → Contains (map (λ job. job.file) jobs) job.file
file-stands jobs i job within is =
    let file : ProgramJob → List ℕ = λ job. job.file in
    let count : length (map file jobs) ≡ length jobs = length-map jobs file in
    let at : get_or (map file jobs) i job.file ≡ file (get_or jobs i job) = get_or-map file jobs i job job.file within in
    (i, omega arith, at ∙ sym (ap file is))

-- nothing is asked for at first
pub asks-none : (jobs : List ProgramJob) (asked : List ℕ → ℕ) → AsksForPrograms jobs asked asked
asks-none jobs asked = λ name. inl (omega arith)

by-name : (names : List (List ℕ)) (file name : List ℕ) (r : Bool) → Decides r (name ≡ file) → (a b c : List ℕ → ℕ) → Contains names file → AsksUpTo file (FILE_BYTES_MOST + 1) b c
    → (b name ≤ a name) ⊎ (Contains names name × (b name ≤ max (a name) (FILE_BYTES_MOST + 1)))
    → (c name ≤ a name) ⊎ (Contains names name × (c name ≤ max (a name) (FILE_BYTES_MOST + 1)))
by-name names file name true same a b c stands next (inl less) =
    let e : name ≡ file = same.0 refl in
    let here : c name ≤ max (b name) (FILE_BYTES_MOST + 1) = subst (λ (n : List ℕ). c n ≤ max (b n) (FILE_BYTES_MOST + 1)) (sym e) next.here in
    inr (subst (λ (n : List ℕ). Contains names n) (sym e) stands, omega arith)
by-name names file name true same a b c stands next (inr more) =
    let e : name ≡ file = same.0 refl in
    let here : c name ≤ max (b name) (FILE_BYTES_MOST + 1) = subst (λ (n : List ℕ). c n ≤ max (b n) (FILE_BYTES_MOST + 1)) (sym e) next.here in
    let before = more.1 in
    inr (more.0, omega arith)
by-name names file name false same a b c stands next (inl less) =
    let after : c name ≤ b name = next.others name (λ e. let wrong : false ≡ true = same.1 e in cc) in
    inl (omega arith)
by-name names file name false same a b c stands next (inr more) =
    let after : c name ≤ b name = next.others name (λ e. let wrong : false ≡ true = same.1 e in cc) in
    let before = more.1 in
    inr (more.0, omega arith)

-- one more of the job's files is asked for bytes
pub asks-more : (jobs : List ProgramJob) (file : List ℕ) (a b c : List ℕ → ℕ) → Contains (map (λ job. job.file) jobs) file → AsksForPrograms jobs a b
    → AsksUpTo file (FILE_BYTES_MOST + 1) b c → AsksForPrograms jobs a c
asks-more jobs file a b c stands before next name =
    by-name (map (λ job. job.file) jobs) file name (bytes_eq name file) (bytes_eq-Decides name file) a b c stands next (before name)

-- counts of two reads
pub counts-more : (old middle new : ShelfCounts) → CountReads old middle → CountReads middle new → CountReads old new
counts-more old middle new before after = record {
  faults_grow = let x = before.faults_grow in let y = after.faults_grow in omega arith;
  same_write_faults = after.same_write_faults ∙ before.same_write_faults;
  absences_grow = let x = before.absences_grow in let y = after.absences_grow in omega arith;
}

pub counts-same : (counts : ShelfCounts) → CountReads counts counts
counts-same counts = record { faults_grow = omega arith; same_write_faults = refl; absences_grow = omega arith }
