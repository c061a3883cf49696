-- The first programs of a job, one more, and what stops there.
use Rattle.std.proofs.Common.{◌≡◌, ℕ, ◌+◌, ◌<◌, ◌≤◌, List, [], ◌∷◌, ◌++◌, length, take, drop, get_or, Option, None, Some, IfSome, refl, sym, ap, subst, ◌∙◌, length-take-le, arith}
use Rattle.std.specs.FinMap.{get}
use Rattle.std.proofs.lemmas.Option.{IfSome_then}
use Rattle.std.proofs.lemmas.List.{take_more, take-append-drop, drop_more}
use Rattle.std.proofs.lemmas.List.Elements.{All-push, All-nil}
use Rattle.std.proofs.lemmas.List.Sums.{sum_by_push}
use Rattle.shelf_io.specs.Counts.{ShelfCounts}
use Rattle.shelf_io.specs.Files.{Files}
use Rattle.shelf_io.proofs.Counted.{rose_later}
use Rattle.job_report.specs.declared.job.Form.{Form}
use Rattle.job_report.specs.declared.job.Job.{Job}
use Rattle.job_report.specs.declared.job.ProgramJob.{ProgramJob}
use Rattle.program_reader.specs.declared.limits.TheConstants.{FILE_BYTES_MOST, UNITS_MOST}
use Rattle.program_reader.specs.declared.program.Program.{Program}
use Rattle.program_reader.specs.declared.program_fault.SourceKind.{SourceKind}
use Rattle.job_programs.specs.declared.source_fault.SourceFault.{SourceFault}
use Rattle.job_programs.specs.declared.source_fault.ProgramsFault.{ProgramsFault}
use Rattle.job_programs.specs.declared.source_fault.ProgramsFault.TheVariants.{Refused, Failed, Missing, OutOfMemory}
use Rattle.job_programs.specs.Programs.{bytes_of_files, units_of_programs}
use Rattle.job_programs.specs.Read.{AreReadEach, IsReadFor}
use Rattle.job_programs.specs.Told.{AreProgramsIn, AreProgramsOn, CountReads, HasReadCause, HoldContents, IsRefusedIn, IsRefusedOn, StopsAtProgram}
use Rattle.job_programs.specs.Private.Behind.{AreProgramsOf, HoldPrograms, HoldsKept, IsProgramBehind, IsRefusedBehind, KeepsTime, job_keeps}
use Rattle.job_programs.specs.Share.{KeepsShare}
use Rattle.job_programs.specs.Private.Next.{HasNextCause, IsNextOn, IsNextRefusedOn}
use Rattle.job_programs.specs.Private.ReadSoFar.{HoldSoFar, ReadSoFar}
use Rattle.job_programs.proofs.Forms.{keeps, next-of, refused-of}
use Rattle.job_programs.proofs.NextLemmas.{in-files}

-- ---- lists

hold-more : (start : ℕ) (jobs : List ProgramJob) (contents : List (List ℕ)) (programs : List Program) (job : ProgramJob) (content : List ℕ) (program : Program)
    → HoldPrograms start jobs contents programs → HoldsKept start job content program
    → HoldPrograms start (jobs ++ job ∷ []) (contents ++ content ∷ []) (programs ++ program ∷ [])
hold-more start [] [] [] job content program held is = (is, tt)
hold-more start [] [] (p ∷ ps) job content program held is = absurd held
hold-more start [] (c ∷ cs) ps job content program held is = absurd held
hold-more start (j ∷ js) [] ps job content program held is = absurd held
hold-more start (j ∷ js) (c ∷ cs) [] job content program held is = absurd held
hold-more start (j ∷ js) (c ∷ cs) (p ∷ ps) job content program held is = (held.0, hold-more start js cs ps job content program held.1 is)

held-through : (files : Files) (start : ℕ) (jobs : List ProgramJob) (contents : List (List ℕ)) (programs : List Program) (job : ProgramJob) (after : List ProgramJob) (content : List ℕ)
    → HoldPrograms start jobs contents programs → HoldContents files jobs contents → get files job.file ≡ Some content
    → HoldContents files (jobs ++ job ∷ after) (contents ++ content ∷ [])
held-through files start [] [] [] job after content hold held is = (is, tt)
held-through files start [] [] (p ∷ ps) job after content hold held is = absurd hold
held-through files start [] (c ∷ cs) ps job after content hold held is = absurd hold
held-through files start (j ∷ js) [] ps job after content hold held is = absurd hold
held-through files start (j ∷ js) (c ∷ cs) [] job after content hold held is = absurd hold
held-through files start (j ∷ js) (c ∷ cs) (p ∷ ps) job after content hold held is =
    (held.0, held-through files start js cs ps job after content hold.1 held.1 is)

-- ---- one more program

are-more : (slot start : ℕ) (jobs : List ProgramJob) (contents : List (List ℕ)) (programs : List Program) (job : ProgramJob) (content : List ℕ) (program : Program)
    → AreProgramsOf slot start jobs contents programs
    → IsProgramBehind slot start (bytes_of_files contents) (units_of_programs programs) job.form job.program job.drop.items (job_keeps job) content program
    → AreProgramsOf slot start (jobs ++ job ∷ []) (contents ++ content ∷ []) (programs ++ program ∷ [])
are-more slot start jobs contents programs job content program are next = record {
  hold = hold-more start jobs contents programs job content program are.hold (record { holds = next.holds; near = next.near });
  few_bytes = subst (λ (n : ℕ). n ≤ FILE_BYTES_MOST) (sym (sum_by_push length contents content)) next.few_bytes;
  few_units = subst (λ (n : ℕ). n ≤ UNITS_MOST) (sym (sum_by_push (λ (p : Program). length p.units) programs program)) next.few_units;
  within = All-push (KeepsTime slot) programs program are.within next.within;
}

refused-at : (slot start b u b' u' : ℕ) (form : Form) (number : ℕ) (drop : List ℕ) (keeps : Program → Type 0) (content : List ℕ) (kind : SourceKind) (at : ℕ) → b ≡ b' → u ≡ u'
    → IsRefusedBehind slot start b u form number drop keeps content kind at → IsRefusedBehind slot start b' u' form number drop keeps content kind at
refused-at slot start b u b' u' form number drop keeps content kind at eb eu refused =
    subst (λ (n : ℕ). IsRefusedBehind slot start b' n form number drop keeps content kind at) eu (subst (λ (n : ℕ). IsRefusedBehind slot start n u form number drop keeps content kind at) eb refused)

-- none is read at first
pub read-none : (told : Option Files) (slot start : ℕ) → ReadSoFar told slot start [] [] 0 0
read-none told slot start = record {
  read = record { each = tt; few_units = omega arith };
  units_are = refl;
  few_bytes = omega arith;
  held = told-none told;
}
  where
    told-none : (told : Option Files) → IfSome told (λ files. HoldSoFar files slot start [] [] 0)
    told-none None = tt
    told-none (Some files) = record {
      contents = [];
      held = tt;
      are = record { hold = tt; few_bytes = omega arith; few_units = omega arith; within = All-nil (KeepsTime slot) };
      bytes_are = refl;
    }

each-more : (slot start : ℕ) (jobs : List ProgramJob) (programs : List Program) (job : ProgramJob) (program : Program) → AreReadEach slot start jobs programs → IsReadFor slot start job program
    → AreReadEach slot start (jobs ++ job ∷ []) (programs ++ program ∷ [])
each-more slot start [] [] job program each is = (is, tt)
each-more slot start [] (p ∷ ps) job program each is = absurd each
each-more slot start (j ∷ js) [] job program each is = absurd each
each-more slot start (j ∷ js) (p ∷ ps) job program each is = (each.0, each-more slot start js ps job program each.1 is)

told-more : (told : Option Files) (slot start : ℕ) (jobs : List ProgramJob) (job : ProgramJob) (programs : List Program) (bytes units size : ℕ) (program : Program)
    → ReadSoFar told slot start jobs programs bytes units
    → IsNextOn told job.file slot start bytes units job.form job.program job.drop.items (job_keeps job) size program
    → IfSome told (λ files. HoldSoFar files slot start (jobs ++ job ∷ []) (programs ++ program ∷ []) (bytes + size))
told-more None slot start jobs job programs bytes units size program read next = tt
told-more (Some files) slot start jobs job programs bytes units size program read next =
    let at = in-files files job.file next.held in
    let content : List ℕ = at.0 in
    let size_is : size ≡ length content = at.2.0 in
    let so_far : HoldSoFar files slot start jobs programs bytes = read.held in
    let behind : IsProgramBehind slot start (bytes_of_files so_far.contents) (units_of_programs programs) job.form job.program job.drop.items (job_keeps job) content program = record {
      few_bytes = omega (arith, next.few_bytes, so_far.bytes_are, size_is);
      holds = at.2.1;
      few_units = omega (arith, next.few_units, read.units_are);
      within = next.within;
      near = next.near;
    } in
    record {
      contents = so_far.contents ++ content ∷ [];
      held = held-through files start jobs so_far.contents programs job [] content so_far.are.hold so_far.held at.1;
      are = are-more slot start jobs so_far.contents programs job content program so_far.are behind;
      bytes_are = omega (arith, so_far.bytes_are, size_is, sum_by_push length so_far.contents content);
    }

one-more : (told : Option Files) (slot start : ℕ) (jobs : List ProgramJob) (job : ProgramJob) (programs : List Program) (bytes units size : ℕ) (program : Program)
    → ReadSoFar told slot start jobs programs bytes units
    → IsNextOn told job.file slot start bytes units job.form job.program job.drop.items (job_keeps job) size program
    → ReadSoFar told slot start (jobs ++ job ∷ []) (programs ++ program ∷ []) (bytes + size) (units + length program.units)
one-more told slot start jobs job programs bytes units size program read next =
    let count : units_of_programs (programs ++ program ∷ []) ≡ units_of_programs programs + length program.units = sum_by_push (λ (p : Program). length p.units) programs program in record {
      read = record {
        each = each-more slot start jobs programs job program read.read.each (record { read = next.read; within = keeps slot program next.within; share = next.near });
        few_units = omega (arith, count, read.units_are, next.few_units);
      };
      units_are = omega (arith, count, read.units_are);
      few_bytes = next.few_bytes;
      held = told-more told slot start jobs job programs bytes units size program read next;
    }

-- the next program is read
pub read-more : (told : Option Files) (slot start : ℕ) (jobs : List ProgramJob) (i : ℕ) (job : ProgramJob) (programs : List Program) (bytes units size : ℕ) (program : Program)
    → i < length jobs → job ≡ get_or jobs i job → ReadSoFar told slot start (take i jobs) programs bytes units
    → IsNextOn told job.file slot start bytes units job.form job.program job.drop.items (job_keeps job) size program
    → ReadSoFar told slot start (take (i + 1) jobs) (programs ++ program ∷ []) (bytes + size) (units + length program.units)
read-more told slot start jobs i job programs bytes units size program within is read next =
    let front : take (i + 1) jobs ≡ take i jobs ++ job ∷ [] = take_more jobs i job within ∙ ap (λ (j : ProgramJob). take i jobs ++ j ∷ []) (sym is) in
    subst (λ (done : List ProgramJob). ReadSoFar told slot start done (programs ++ program ∷ []) (bytes + size) (units + length program.units)) (sym front)
    (one-more told slot start (take i jobs) job programs bytes units size program read next)

-- what told files hold so far are programs of their contents
are-in : (files : Files) (slot start : ℕ) (done : List ProgramJob) (programs : List Program) (bytes : ℕ) → HoldSoFar files slot start done programs bytes
    → AreProgramsIn files slot start done programs
are-in files slot start done programs bytes so_far = record {
  contents = so_far.contents;
  held = so_far.held;
  are = next-of slot start done so_far.contents programs so_far.are;
}

-- all programs are read
pub read-all : (told : Option Files) (job : Job) (programs : List Program) (bytes units : ℕ) → ReadSoFar told job.slot job.start job.programs programs bytes units
    → AreProgramsOn told job programs
read-all told job programs bytes units read = record {
  read = read.read;
  held = IfSome_then told read.held (λ files so_far. are-in files job.slot job.start job.programs programs bytes so_far);
}

-- ---- what stops

split-at : (jobs : List ProgramJob) (i : ℕ) (job : ProgramJob) → i < length jobs → job ≡ get_or jobs i job → jobs ≡ take i jobs ++ job ∷ drop (i + 1) jobs
split-at jobs i job within is =
    sym (take-append-drop i jobs) ∙ ap (λ (rest : List ProgramJob). take i jobs ++ rest) (drop_more jobs i job within ∙ ap (λ (j : ProgramJob). j ∷ drop (i + 1) jobs) (sym is))

stops-at : (told : Option Files) (job : Job) (i : ℕ) (wanted : ProgramJob) (programs : List Program) (bytes units number : ℕ)
    → i < length job.programs → wanted ≡ get_or job.programs i wanted → ReadSoFar told job.slot job.start (take i job.programs) programs bytes units
    → number ≡ i → StopsAtProgram told job number wanted
stops-at told job i wanted programs bytes units number within is read number_is = record {
  before = take i job.programs;
  after = drop (i + 1) job.programs;
  split = split-at job.programs i wanted within is;
  number_is = number_is ∙ sym (length-take-le i job.programs (omega arith));
  programs = programs;
  read = read.read;
  held = IfSome_then told read.held (λ files so_far. are-in files job.slot job.start (take i job.programs) programs bytes so_far);
}

refused-in : (files : Files) (job : Job) (i : ℕ) (wanted : ProgramJob) (programs : List Program) (bytes units : ℕ) (fault : SourceFault)
    → i < length job.programs → wanted ≡ get_or job.programs i wanted → ReadSoFar (Some files) job.slot job.start (take i job.programs) programs bytes units
    → IsNextRefusedOn (Some files) wanted.file job.slot job.start bytes units wanted.form wanted.program wanted.drop.items (job_keeps wanted) i fault → IsRefusedIn files job fault
refused-in files job i wanted programs bytes units fault within is read refused =
    let split = split-at job.programs i wanted within is in
    let so_far : HoldSoFar files job.slot job.start (take i job.programs) programs bytes = read.held in
    let at = in-files files wanted.file refused.held in
    let content : List ℕ = at.0 in
    record {
      contents = so_far.contents ++ content ∷ [];
      held = subst (λ (jobs : List ProgramJob). HoldContents files jobs (so_far.contents ++ content ∷ [])) (sym split)
          (held-through files job.start (take i job.programs) so_far.contents programs wanted (drop (i + 1) job.programs) content so_far.are.hold so_far.held at.1);
      first = record {
        before = take i job.programs;
        refused = wanted;
        after = drop (i + 1) job.programs;
        split = split;
        read = so_far.contents;
        content = content;
        further = [];
        contents_are = refl;
        programs = programs;
        programs_are = next-of job.slot job.start (take i job.programs) so_far.contents programs so_far.are;
        number = refused.place_is ∙ sym (length-take-le i job.programs (omega arith));
        refusal = refused-of job.slot job.start so_far.contents programs wanted content fault.kind fault.at
            (refused-at job.slot job.start bytes units (bytes_of_files so_far.contents) (units_of_programs programs) wanted.form wanted.program wanted.drop.items (job_keeps wanted) content fault.kind fault.at
            so_far.bytes_are read.units_are at.2);
      };
    }

told-refused : (told : Option Files) (job : Job) (i : ℕ) (wanted : ProgramJob) (programs : List Program) (bytes units : ℕ) (fault : SourceFault)
    → i < length job.programs → wanted ≡ get_or job.programs i wanted → ReadSoFar told job.slot job.start (take i job.programs) programs bytes units
    → IsNextRefusedOn told wanted.file job.slot job.start bytes units wanted.form wanted.program wanted.drop.items (job_keeps wanted) i fault → IfSome told (λ files. IsRefusedIn files job fault)
told-refused None job i wanted programs bytes units fault within is read refused = tt
told-refused (Some files) job i wanted programs bytes units fault within is read refused = refused-in files job i wanted programs bytes units fault within is read refused

refused-on : (told : Option Files) (job : Job) (i : ℕ) (wanted : ProgramJob) (programs : List Program) (bytes units : ℕ) (fault : SourceFault)
    → i < length job.programs → wanted ≡ get_or job.programs i wanted → ReadSoFar told job.slot job.start (take i job.programs) programs bytes units
    → IsNextRefusedOn told wanted.file job.slot job.start bytes units wanted.form wanted.program wanted.drop.items (job_keeps wanted) i fault → IsRefusedOn told job fault
refused-on told job i wanted programs bytes units fault within is read refused = record {
  refused = wanted;
  stops = stops-at told job i wanted programs bytes units fault.program within is read refused.place_is;
  held = told-refused told job i wanted programs bytes units fault within is read refused;
}

-- a program isn't read: so the job's programs aren't, for its cause
pub not-read : (told : Option Files) (job : Job) (i : ℕ) (wanted : ProgramJob) (programs : List Program) (bytes units : ℕ) (old middle new : ShelfCounts) (since : ℕ) (fault : ProgramsFault)
    → i < length job.programs → wanted ≡ get_or job.programs i wanted → ReadSoFar told job.slot job.start (take i job.programs) programs bytes units
    → CountReads old middle → CountReads middle new
    → HasNextCause told wanted.file job.slot job.start bytes units wanted.form wanted.program wanted.drop.items (job_keeps wanted) i middle new since fault
    → HasReadCause told job old new since fault
not-read told job i wanted programs bytes units old middle new since (Refused fault) within is read before after cause =
    refused-on told job i wanted programs bytes units fault within is read cause
not-read told job i wanted programs bytes units old middle new since (Failed number) within is read before after cause = (
  wanted,
  stops-at told job i wanted programs bytes units number within is read cause.0,
  rose_later old.faults middle.faults new.faults before.faults_grow after.faults_grow cause.1,
  cause.2,
)
not-read told job i wanted programs bytes units old middle new since (Missing number) within is read before after cause = (
  wanted,
  stops-at told job i wanted programs bytes units number within is read cause.0,
  cause.1,
  rose_later old.absences middle.absences new.absences before.absences_grow after.absences_grow cause.2,
  cause.3,
)
not-read told job i wanted programs bytes units old middle new since OutOfMemory within is read before after cause = tt

-- the same of what a call says by the names, PIDs and ratios that it was given, over files that stayed
pub went-on : (told told' : Option Files) (slot start : ℕ) (jobs : List ProgramJob) (i : ℕ) (job : ProgramJob) (programs : List Program) (bytes units size : ℕ) (program : Program)
    (name drop coarser : List ℕ) → told' ≡ told → name ≡ job.file → drop ≡ job.drop.items → coarser ≡ job.coarser.items
    → i < length jobs → job ≡ get_or jobs i job → ReadSoFar told slot start (take i jobs) programs bytes units
    → IsNextOn told' name slot start bytes units job.form job.program drop (KeepsShare job.weight job.drift coarser) size program
    → ReadSoFar told slot start (take (i + 1) jobs) (programs ++ program ∷ []) (bytes + size) (units + length program.units)
went-on told told' slot start jobs i job programs bytes units size program name drop coarser et en ed ec within is read next =
    let n1 = subst (λ (t : Option Files). IsNextOn t name slot start bytes units job.form job.program drop (KeepsShare job.weight job.drift coarser) size program) et next in
    let n2 = subst (λ (n : List ℕ). IsNextOn told n slot start bytes units job.form job.program drop (KeepsShare job.weight job.drift coarser) size program) en n1 in
    let n3 = subst (λ (d : List ℕ). IsNextOn told job.file slot start bytes units job.form job.program d (KeepsShare job.weight job.drift coarser) size program) ed n2 in
    let n4 = subst (λ (c : List ℕ). IsNextOn told job.file slot start bytes units job.form job.program job.drop.items (KeepsShare job.weight job.drift c) size program) ec n3 in
    read-more told slot start jobs i job programs bytes units size program within is read n4

pub stopped : (told told' : Option Files) (job : Job) (i : ℕ) (wanted : ProgramJob) (programs : List Program) (bytes units place : ℕ) (name drop coarser : List ℕ)
    (old middle new : ShelfCounts) (since : ℕ) (fault : ProgramsFault) → told' ≡ told → name ≡ wanted.file → drop ≡ wanted.drop.items → coarser ≡ wanted.coarser.items → place ≡ i
    → i < length job.programs → wanted ≡ get_or job.programs i wanted → ReadSoFar told job.slot job.start (take i job.programs) programs bytes units
    → CountReads old middle → CountReads middle new
    → HasNextCause told' name job.slot job.start bytes units wanted.form wanted.program drop (KeepsShare wanted.weight wanted.drift coarser) place middle new since fault
    → HasReadCause told job old new since fault
stopped told told' job i wanted programs bytes units place name drop coarser old middle new since fault et en ed ec ep within is read before after cause =
    let c1 = subst (λ (t : Option Files). HasNextCause t name job.slot job.start bytes units wanted.form wanted.program drop (KeepsShare wanted.weight wanted.drift coarser) place middle new since fault) et cause in
    let c2 = subst (λ (n : List ℕ). HasNextCause told n job.slot job.start bytes units wanted.form wanted.program drop (KeepsShare wanted.weight wanted.drift coarser) place middle new since fault) en c1 in
    let c3 = subst (λ (d : List ℕ). HasNextCause told wanted.file job.slot job.start bytes units wanted.form wanted.program d (KeepsShare wanted.weight wanted.drift coarser) place middle new since fault) ed c2 in
    let c4 = subst (λ (p : ℕ). HasNextCause told wanted.file job.slot job.start bytes units wanted.form wanted.program wanted.drop.items (KeepsShare wanted.weight wanted.drift coarser) p middle new since fault) ep c3 in
    let c5 = subst (λ (c : List ℕ). HasNextCause told wanted.file job.slot job.start bytes units wanted.form wanted.program wanted.drop.items (KeepsShare wanted.weight wanted.drift c) i middle new since fault) ec c4 in
    not-read told job i wanted programs bytes units old middle new since fault within is read before after c5
