-- The next program without the bytes of its streams, the first programs of a job, and what stops there.
use Rattle.std.proofs.Common.{◌≡◌, ◌⊎◌, ℕ, ◌+◌, ◌<◌, ◌≤◌, List, [], ◌∷◌, ◌++◌, length, take, get_or, Option, Result, Ok, Err, IfOk, IfErr, true, inl, inr, refl, sym, ap, subst, ◌∙◌, arith}
use Rattle.std.specs.List.{AllZip}
use Rattle.shelf_io.specs.Counts.{ShelfCounts}
use Rattle.shelf_io.specs.Files.{Files, IfTold}
use Rattle.shelf_io.proofs.Whole.{IfTold_then}
use Rattle.file_pass.specs.FilePass.{StopsAs}
use Rattle.job_report.specs.declared.job.Form.{Form}
use Rattle.job_report.specs.declared.job.Job.{Job}
use Rattle.job_report.specs.declared.job.ProgramJob.{ProgramJob}
use Rattle.passed_programs.specs.declared.passed_fault.PassedFault.{PassedFault}
use Rattle.passed_programs.specs.declared.passed_fault.PassedFault.TheVariants as passed_faults
use Rattle.passed_programs.specs.declared.passed_program.PassedProgram.{PassedProgram}
use Rattle.passed_programs.specs.declared.sized_passed.SizedPassed.{SizedPassed}
use Rattle.passed_programs.specs.PassedFile.{HoldsProgram, IsPassedProgram, IsRefusedWithin, OnRefused, long, by_itself, passes_limit, stop_of}
use Rattle.passed_programs.specs.PassedProgram.{IsReadOff}
use Rattle.program_reader.specs.declared.limits.TheConstants.{FILE_BYTES_MOST, UNITS_MOST}
use Rattle.program_reader.specs.declared.program.Program.{Program}
use Rattle.program_reader.specs.declared.program.UnitSource.{UnitSource}
use Rattle.program_reader.specs.declared.program_fault.ProgramFault.{ProgramFault}
use Rattle.program_reader.specs.declared.program_fault.ProgramFault.TheVariants as program_faults
use Rattle.program_reader.specs.declared.program_fault.SourceKind.{SourceKind}
use Rattle.program_reader.specs.declared.program_fault.SourceKind.TheVariants as kinds
use Rattle.program_reader.specs.declared.unit_sizes.SizesWanted.{SizesWanted}
use Rattle.program_reader.specs.declared.unit_sizes.UnitSizes.{UnitSizes}
use Rattle.program_reader.specs.Programs.{IsProgramOfFile}
use Rattle.program_reader.specs.Sizes.{AreProgramSizes}
use Rattle.job_programs.specs.declared.passed.PassedPrograms.{PassedPrograms}
use Rattle.job_programs.specs.declared.source_fault.ProgramsFault.{ProgramsFault}
use Rattle.job_programs.specs.Passed.{ArePassedOn, IsSizedOff}
use Rattle.job_programs.specs.Share.{KeepsShare}
use Rattle.job_programs.specs.Private.Behind as behind
use Rattle.job_programs.specs.Private.Behind.{IsRefusedBehind}
use Rattle.job_programs.specs.Private.Next.{HasNextCause}
use Rattle.job_programs.specs.Private.Passed as limits
use Rattle.job_programs.specs.Private.Passed.{IsNextPassed, KeepsLimits, PassedSoFar, PassesLimits, fault_at, over_limit}
use Rattle.job_programs.specs.Private.ReadSoFar.{ReadSoFar}
use Rattle.job_programs.specs.Private.Sized.{IsSizedBy}
use Rattle.job_programs.proofs.ReadLemmas.{read-all, read-none, went-on}
use Rattle.job_programs.proofs.SizesLemmas.{job_sizes_more}

-- ---- what is read off a program

pub sized-by : (program : Program) (coarser : List ℕ) (passed : SizedPassed) (units : List UnitSource) (sizes : List UnitSizes) → IsSizedOff program coarser passed
    → units ≡ passed.program.units → sizes ≡ passed.sizes → IsSizedBy program coarser units sizes
sized-by program coarser passed units sizes is units_are sizes_are = record {
  units_are = units_are ∙ is.read_off.units_are;
  are_sizes = subst (λ (those : List UnitSizes). AreProgramSizes program coarser those) (sym sizes_are) is.are_sizes;
}

-- it has as many units
pub units-off : (program : Program) (coarser : List ℕ) (passed : SizedPassed) → IsSizedOff program coarser passed → length passed.program.units ≡ length program.units
units-off program coarser passed is = ap (λ (units : List UnitSource). length units) is.read_off.units_are

-- a program that was read by passes over a file, with the sizes that are wanted
pub sized-off : (start limit : ℕ) (wanted : SizesWanted) (told : ℕ → Program → Type 0) (passed : SizedPassed) → wanted.are_wanted ≡ true → (is : IsPassedProgram start limit wanted told passed)
    → IsSizedOff is.program wanted.coarser.now passed
sized-off start limit wanted told passed asked is = record { read_off = is.read_off; are_sizes = is.sized asked }

-- ---- the next program

-- it keeps the limits
pub next-passed : (told : Option Files) (name : List ℕ) (slot start bytes units : ℕ) (form : Form) (number : ℕ) (drop : List ℕ) (weight drift : ℕ) (limit : ℕ) (wanted : SizesWanted)
    (passed : SizedPassed) (result : Result SizedPassed ProgramsFault) → bytes + limit ≡ FILE_BYTES_MOST → wanted.are_wanted ≡ true
    → (is : IsPassedProgram start limit wanted (HoldsProgram told name form number drop start) passed)
    → IfOk result (λ same. (same ≡ passed) × KeepsLimits slot units (KeepsShare weight drift wanted.coarser.now) is.program)
    → IfOk result (IsNextPassed told name slot start bytes units form number drop weight drift wanted.coarser.now)
next-passed told name slot start bytes units form number drop weight drift limit wanted passed (Err fault) room asked is kept = tt
next-passed told name slot start bytes units form number drop weight drift limit wanted passed (Ok same) room asked is (same_is, kept) =
    let within : passed.size ≤ limit = is.within in
    subst (λ (those : SizedPassed). IsNextPassed told name slot start bytes units form number drop weight drift wanted.coarser.now those) (sym same_is) (record {
      program = is.program;
      next = record {
        read = is.read;
        few_bytes = omega (arith, room, within);
        few_units = kept.few_units;
        within = kept.within;
        near = kept.near;
        held = is.on_told;
      };
      sized_off = sized-off start limit wanted (HoldsProgram told name form number drop start) passed asked is;
    })

-- what it says of bytes and units
pub few-bytes : (told : Option Files) (name : List ℕ) (slot start bytes units : ℕ) (form : Form) (number : ℕ) (drop : List ℕ) (weight drift : ℕ) (coarser : List ℕ)
    (result : Result SizedPassed ProgramsFault) → IfOk result (IsNextPassed told name slot start bytes units form number drop weight drift coarser)
    → IfOk result (λ next. bytes + next.size ≤ FILE_BYTES_MOST)
few-bytes told name slot start bytes units form number drop weight drift coarser (Err fault) is = tt
few-bytes told name slot start bytes units form number drop weight drift coarser (Ok next) is = is.next.few_bytes

pub few-units : (told : Option Files) (name : List ℕ) (slot start bytes units : ℕ) (form : Form) (number : ℕ) (drop : List ℕ) (weight drift : ℕ) (coarser : List ℕ)
    (result : Result SizedPassed ProgramsFault) → IfOk result (IsNextPassed told name slot start bytes units form number drop weight drift coarser)
    → IfOk result (λ next. units + length next.program.units ≤ UNITS_MOST)
few-units told name slot start bytes units form number drop weight drift coarser (Err fault) is = tt
few-units told name slot start bytes units form number drop weight drift coarser (Ok next) is =
    let few : units + length is.program.units ≤ UNITS_MOST = is.next.few_units in
    let same : length next.program.units ≡ length is.program.units = units-off is.program coarser next is.sized_off in
    omega (arith, few, same)

-- ---- why it isn't read

abbrev kind_of : ProgramFault → SourceKind
kind_of (program_faults.Refused kind at) = kind
kind_of program_faults.OutOfMemory = kinds.ProgramLimit

abbrev at_of : ProgramFault → ℕ
at_of (program_faults.Refused kind at) = at
at_of program_faults.OutOfMemory = 0

refused-within : (slot start bytes units : ℕ) (form : Form) (number : ℕ) (drop : List ℕ) (keeps : Program → Type 0) (limit : ℕ) (content : List ℕ) (kind : SourceKind) (at : ℕ)
    → bytes + limit ≡ FILE_BYTES_MOST → IsRefusedWithin limit form number drop content (program_faults.Refused kind at)
    → IsRefusedBehind slot start bytes units form number drop keeps content kind at
refused-within slot start bytes units form number drop keeps limit content kind at room (long many is) =
    behind.many_bytes (omega (arith, room, many)) (ap kind_of is) (ap at_of is)
refused-within slot start bytes units form number drop keeps limit content kind at room (by_itself few bad) = behind.file (omega (arith, room, few)) bad

-- its file is refused, or can't be read, or isn't there
pub cause-fault : (told : Option Files) (name : List ℕ) (slot start bytes units : ℕ) (form : Form) (number : ℕ) (drop : List ℕ) (keeps : Program → Type 0) (place limit : ℕ) (old new : ShelfCounts)
    (since : ℕ) (fault : PassedFault) → bytes + limit ≡ FILE_BYTES_MOST
    → OnRefused fault (λ found. IfTold told name (λ content. IsRefusedWithin limit form number drop content found)) → StopsAs (stop_of fault) told name old new since
    → HasNextCause told name slot start bytes units form number drop keeps place old new since (fault_at place fault)
cause-fault told name slot start bytes units form number drop keeps place limit old new since (passed_faults.Refused (program_faults.Refused kind at)) room (inl memory) stops =
    absurd (let e : program_faults.Refused kind at ≡ program_faults.OutOfMemory = memory in cc)
cause-fault told name slot start bytes units form number drop keeps place limit old new since (passed_faults.Refused (program_faults.Refused kind at)) room (inr held) stops = record {
  place_is = refl;
  held = IfTold_then told name held (λ content bad. refused-within slot start bytes units form number drop keeps limit content kind at room bad);
}
cause-fault told name slot start bytes units form number drop keeps place limit old new since (passed_faults.Refused program_faults.OutOfMemory) room says stops = tt
cause-fault told name slot start bytes units form number drop keeps place limit old new since passed_faults.Failed room says stops = (refl, stops.rose, stops.last)
cause-fault told name slot start bytes units form number drop keeps place limit old new since passed_faults.Missing room says stops = (refl, stops.0, stops.1.rose, stops.1.last)

past-behind : (slot start bytes units : ℕ) (form : Form) (number : ℕ) (drop : List ℕ) (keeps : Program → Type 0) (content : List ℕ) (program : Program) → bytes + length content ≤ FILE_BYTES_MOST
    → IsProgramOfFile form content number drop start program → PassesLimits slot units keeps program
    → IsRefusedBehind slot start bytes units form number drop keeps content kinds.ProgramLimit 0
past-behind slot start bytes units form number drop keeps content program few holds (limits.many_units many) = behind.many_units program few holds many refl refl
past-behind slot start bytes units form number drop keeps content program few holds (limits.late past) = behind.late program few holds past refl refl
past-behind slot start bytes units form number drop keeps content program few holds (limits.far past) = behind.far program few holds past refl refl

-- it passes a limit
pub cause-limits : (told : Option Files) (name : List ℕ) (slot start bytes units : ℕ) (form : Form) (number : ℕ) (drop : List ℕ) (keeps : Program → Type 0) (place limit : ℕ) (wanted : SizesWanted)
    (passed : SizedPassed) (old new : ShelfCounts) (since : ℕ) (result : Result SizedPassed ProgramsFault) → bytes + limit ≡ FILE_BYTES_MOST
    → (is : IsPassedProgram start limit wanted (HoldsProgram told name form number drop start) passed)
    → IfErr result (λ fault. (fault ≡ over_limit place) × PassesLimits slot units keeps is.program)
    → IfErr result (HasNextCause told name slot start bytes units form number drop keeps place old new since)
cause-limits told name slot start bytes units form number drop keeps place limit wanted passed old new since (Ok same) room is past = tt
cause-limits told name slot start bytes units form number drop keeps place limit wanted passed old new since (Err fault) room is (fault_is, past) =
    let within : passed.size ≤ limit = is.within in
    subst (λ (said : ProgramsFault). HasNextCause told name slot start bytes units form number drop keeps place old new since said) (sym fault_is) (record {
      place_is = refl;
      held = IfTold_then told name is.on_told (λ content holds.
          past-behind slot start bytes units form number drop keeps content is.program (let size_is : passed.size ≡ length content = holds.0 in omega (arith, room, within, size_is)) holds.1 past);
    })

-- ---- the first programs of a job

zip-push : (programs : List Program) (passed : List PassedProgram) (program : Program) (own : PassedProgram) → AllZip IsReadOff programs passed → IsReadOff program own
    → AllZip IsReadOff (programs ++ program ∷ []) (passed ++ own ∷ [])
zip-push [] [] program own off is = (is, tt)
zip-push [] (p ∷ ps) program own off is = absurd off
zip-push (q ∷ qs) [] program own off is = absurd off
zip-push (q ∷ qs) (p ∷ ps) program own off is = (off.0, zip-push qs ps program own off.1 is)

-- none is read at first
passed-none : (told : Option Files) (slot start : ℕ) → PassedSoFar told slot start [] [] [] 0 0
passed-none told slot start = record { programs = []; read = read-none told slot start; read_off = tt; are_sizes = tt }

pub passed-start : (told : Option Files) (slot start : ℕ) (passed : List PassedProgram) (sizes : List (List UnitSizes)) → passed ≡ [] → sizes ≡ [] → PassedSoFar told slot start [] passed sizes 0 0
passed-start told slot start passed sizes passed_is sizes_are =
    subst (λ (ps : List PassedProgram). PassedSoFar told slot start [] ps sizes 0 0) (sym passed_is)
    (subst (λ (ss : List (List UnitSizes)). PassedSoFar told slot start [] [] ss 0 0) (sym sizes_are) (passed-none told slot start))

-- the next one is read, as a call says by the names, PIDs and ratios that it was given, over files that stayed
pub passed-more : (told told' : Option Files) (slot start : ℕ) (jobs : List ProgramJob) (i : ℕ) (job : ProgramJob) (passed more : List PassedProgram) (sizes further : List (List UnitSizes))
    (bytes units count : ℕ) (next : SizedPassed) (name drop coarser : List ℕ) → told' ≡ told → name ≡ job.file → drop ≡ job.drop.items → coarser ≡ job.coarser.items
    → i < length jobs → job ≡ get_or jobs i job → more ≡ passed ++ next.program ∷ [] → further ≡ sizes ++ next.sizes ∷ [] → count ≡ length next.program.units
    → PassedSoFar told slot start (take i jobs) passed sizes bytes units
    → IsNextPassed told' name slot start bytes units job.form job.program drop job.weight job.drift coarser next
    → PassedSoFar told slot start (take (i + 1) jobs) more further (bytes + next.size) (units + count)
passed-more told told' slot start jobs i job passed more sizes further bytes units count next name drop coarser et en ed ec within item more_is further_is count_is so_far is =
    let all : List Program = so_far.programs ++ is.program ∷ [] in
    let read : ReadSoFar told slot start (take (i + 1) jobs) all (bytes + next.size) (units + length is.program.units) =
    went-on told told' slot start jobs i job so_far.programs bytes units next.size is.program name drop coarser et en ed ec within item so_far.read is.next in
    record {
      programs = all;
      read = subst (λ (n : ℕ). ReadSoFar told slot start (take (i + 1) jobs) all (bytes + next.size) (units + n)) (sym (count_is ∙ units-off is.program coarser next is.sized_off)) read;
      read_off = subst (λ (those : List PassedProgram). AllZip IsReadOff all those) (sym more_is) (zip-push so_far.programs passed is.program next.program so_far.read_off is.sized_off.read_off);
      are_sizes = job_sizes_more jobs i job so_far.programs is.program all sizes next.sizes further coarser within item ec refl further_is so_far.are_sizes is.sized_off.are_sizes;
    }

-- all are read
pub passed-all : (told : Option Files) (job : Job) (passed : List PassedProgram) (sizes : List (List UnitSizes)) (bytes units : ℕ)
    → PassedSoFar told job.slot job.start job.programs passed sizes bytes units → ArePassedOn told job (record { programs = passed; sizes = sizes })
passed-all told job passed sizes bytes units so_far = record {
  programs = so_far.programs;
  are = read-all told job so_far.programs bytes units so_far.read;
  off = record { read_off = so_far.read_off; are_sizes = so_far.are_sizes };
}

-- ---- what stops

-- those before the next one were read
pub read-before : (told : Option Files) (slot start : ℕ) (done : List ProgramJob) (passed : List PassedProgram) (sizes : List (List UnitSizes)) (bytes units : ℕ)
    → PassedSoFar told slot start done passed sizes bytes units → (programs : List Program) × ReadSoFar told slot start done programs bytes units
read-before told slot start done passed sizes bytes units so_far = (so_far.programs, so_far.read)
