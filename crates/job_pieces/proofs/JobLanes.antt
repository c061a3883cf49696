-- The lanes of the programs of a job, one program further.
use Rattle.std.proofs.Common.{◌≡◌, ℕ, zero, suc, ◌+◌, ◌<◌, ◌≤◌, List, [], ◌∷◌, ◌++◌, length, get_or, take, drop, refl, ap, subst, sym, ◌∙◌, arith, append_assoc}
use Rattle.std.proofs.Common.{append-nil}
use Rattle.std.specs.List.{AllZip}
use Rattle.std.proofs.lemmas.List.{drop_more}
use Rattle.job_report.specs.declared.job.ProgramJob.{ProgramJob}
use Rattle.version_table.specs.declared.table.ProgramRow.{ProgramRow}
use Rattle.program_reader.specs.declared.program.Program.{Program}
use Rattle.file_pieces.specs.declared.lane.Lane.{Lane}
use Rattle.file_pieces.specs.declared.program_lanes.SentProgram.{SentProgram}
use Rattle.file_pieces.specs.ProgramLanes.{AddsLanes}
use Rattle.passed_programs.specs.declared.passed_program.PassedProgram.{PassedProgram}
use Rattle.passed_programs.specs.PassedProgram.{IsReadOff}
use Rattle.job_pieces.specs.JobLanes.{AreJobLanes, IsSentProgram}

-- the programs that were read stand beside those without their bytes
record IsBeside (read : List Program) (passed : PassedProgram) (k : ℕ) : Type 0 where
  pub program : Program
  pub read_off : IsReadOff program passed
  pub rest_is : drop k read ≡ program ∷ drop (k + 1) read

beside : (read : List Program) (programs : List PassedProgram) (k : ℕ) (passed : PassedProgram) → AllZip IsReadOff read programs → k < length programs → passed ≡ get_or programs k passed
    → IsBeside read passed k
beside read [] k passed all within same = absurd (let e : k < 0 = within in omega (arith, e))
beside [] (p ∷ ps) k passed all within same = absurd all
beside (r ∷ rs) (p ∷ ps) zero passed all within same = record { program = r; read_off = subst (IsReadOff r) (sym same) all.0; rest_is = refl }
beside (r ∷ rs) (p ∷ ps) (suc k) passed all within same =
    let rest = beside rs ps k passed all.1 (omega (arith, within)) same in
    let next : suc (k + 1) ≡ suc k + 1 = omega arith in
    record { program = rest.program; read_off = rest.read_off; rest_is = rest.rest_is ∙ ap (λ (n : ℕ). rest.program ∷ drop n (r ∷ rs)) next }

read_count : (read : List Program) (programs : List PassedProgram) → AllZip IsReadOff read programs → length read ≡ length programs
read_count [] [] all = refl
read_count [] (p ∷ ps) all = absurd all
read_count (r ∷ rs) [] all = absurd all
read_count (r ∷ rs) (p ∷ ps) all = ap suc (read_count rs ps all.1)

-- what fits the programs from one on, behind the lanes before, fits all
abbrev pub FitBefore : List ProgramJob → List PassedProgram → List ProgramRow → (choice rest : List ℕ) → (k : ℕ) → List Lane → Type 0
FitBefore jobs programs rows choice rest k lanes = (read : List Program) → AllZip IsReadOff read programs → (more : List Lane)
    → AreJobLanes (drop k jobs) (drop k read) (drop k rows) rest more → AreJobLanes jobs read rows choice (lanes ++ more)

pub fit_more : (jobs : List ProgramJob) (programs : List PassedProgram) (rows : List ProgramRow) (choice rest own later : List ℕ) (k : ℕ) (job : ProgramJob) (passed : PassedProgram) (row : ProgramRow)
    (sent : SentProgram) (lanes after : List Lane) → FitBefore jobs programs rows choice rest k lanes → k < length jobs → length programs ≡ length jobs → length rows ≡ length jobs
    → job ≡ get_or jobs k job → passed ≡ get_or programs k passed → row ≡ get_or rows k row → own ≡ take (length passed.units) rest → later ≡ drop (length passed.units) rest
    → ((read : Program) → IsReadOff read passed → IsSentProgram job read row own sent) → AddsLanes sent lanes after
    → FitBefore jobs programs rows choice later (k + 1) after
fit_more jobs programs rows choice rest own later k job passed row sent lanes after before within programs_many rows_many job_is passed_is row_is own_is later_is sends adds = λ read all more fits.
    let here = beside read programs k passed all (omega (arith, within, programs_many)) passed_is in
    let program = here.program in
    let count : length passed.units ≡ length program.units = ap length here.read_off.units_are in
    let own_choice : own ≡ take (length program.units) rest = own_is ∙ ap (λ (n : ℕ). take n rest) count in
    let rest_choice : later ≡ drop (length program.units) rest = later_is ∙ ap (λ (n : ℕ). drop n rest) count in
    let jobs_are : drop k jobs ≡ job ∷ drop (k + 1) jobs = drop_more jobs k job within ∙ ap (λ (j : ProgramJob). j ∷ drop (k + 1) jobs) (sym job_is) in
    let rows_are : drop k rows ≡ row ∷ drop (k + 1) rows = drop_more rows k row (omega (arith, within, rows_many)) ∙ ap (λ (r : ProgramRow). r ∷ drop (k + 1) rows) (sym row_is) in
    let sent_is : IsSentProgram job program row (take (length program.units) rest) sent = subst (λ (c : List ℕ). IsSentProgram job program row c sent) own_choice (sends program here.read_off) in
    let behind : AreJobLanes (drop (k + 1) jobs) (drop (k + 1) read) (drop (k + 1) rows) (drop (length program.units) rest) more =
    subst (λ (c : List ℕ). AreJobLanes (drop (k + 1) jobs) (drop (k + 1) read) (drop (k + 1) rows) c more) rest_choice fits in
    let all_here : AreJobLanes (job ∷ drop (k + 1) jobs) (program ∷ drop (k + 1) read) (row ∷ drop (k + 1) rows) rest (adds.own ++ more) =
    (adds.own, more, refl, (sent, sent_is, adds.own_are), behind) in
    let there : AreJobLanes (drop k jobs) (drop k read) (drop k rows) rest (adds.own ++ more) = rw (jobs_are, here.rest_is, rows_are) all_here in
    subst (AreJobLanes jobs read rows choice) (sym (ap (λ (xs : List Lane). xs ++ more) adds.new_is ∙ append_assoc lanes adds.own more)) (before read all (adds.own ++ more) there)

none_left : {A : Type 0} (xs : List A) (k : ℕ) → length xs ≤ k → drop k xs ≡ []
none_left [] zero past = refl
none_left [] (suc k) past = refl
none_left (x ∷ xs) zero past = absurd (omega (arith, past))
none_left (x ∷ xs) (suc k) past = none_left xs k (omega (arith, past))

pub fit_all : (jobs : List ProgramJob) (programs : List PassedProgram) (rows : List ProgramRow) (choice rest : List ℕ) (k : ℕ) (lanes : List Lane) → FitBefore jobs programs rows choice rest k lanes
    → length jobs ≤ k → length programs ≡ length jobs → length rows ≡ length jobs → (read : List Program) → AllZip IsReadOff read programs → AreJobLanes jobs read rows choice lanes
fit_all jobs programs rows choice rest k lanes before past programs_many rows_many read all =
    let none : AreJobLanes [] [] [] rest [] = refl in
    let count = read_count read programs all in
    subst (AreJobLanes jobs read rows choice) (append-nil lanes)
    (before read all [] (rw (none_left jobs k past, none_left read k (omega (arith, past, count, programs_many)), none_left rows k (omega (arith, past, rows_many))) none))
