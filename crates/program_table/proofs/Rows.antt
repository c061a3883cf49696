-- The rows of units and of programs, one more behind those before, and that there is one table.
use Rattle.std.proofs.Common.{
  ◌≡◌,
  ℕ,
  zero,
  suc,
  ◌+◌,
  ◌<◌,
  List,
  [],
  ◌∷◌,
  ◌++◌,
  length,
  drop,
  get_or,
  map,
  refl,
  ap,
  subst,
  sym,
  ◌∙◌,
  arith,
  append_assoc,
  append-nil,
}
use Rattle.std.proofs.lemmas.List.{drop_more}
use Rattle.job_report.specs.declared.job.Job.{Job}
use Rattle.job_report.specs.declared.job.ProgramJob.{ProgramJob}
use Rattle.version_table.specs.declared.table.ProgramRow.{ProgramRow}
use Rattle.version_table.specs.declared.table.Table.{Table}
use Rattle.version_table.specs.declared.table.Unit.{Unit as CodedUnit}
use Rattle.program_reader.specs.declared.program.Program.{Program}
use Rattle.program_reader.specs.declared.program.UnitSource.{UnitSource}
use Rattle.version_table.specs.declared.table.Version.{Version}
use Rattle.pes_units.specs.VideoHeader.{written_pes_header}
use Rattle.version_maker.specs.declared.version.UnitVersion.{UnitVersion}
use Rattle.version_maker.specs.declared.version.VersionSize.{VersionSize}
use Rattle.version_maker.specs.Versions.{size_of}
use Rattle.version_source.specs.Versions.{AreAllVersions, ratios_of}
use Rattle.program_table.specs.Table.{IsRowOf, IsTableOf, program_rows, row_version}
use Rattle.program_table.specs.Private.Rows.{AreProgramRowsSoFar, with_header}

-- ---- one unit

pub rows-of-sizes : (weight : ℕ) (unit : UnitSource) (versions : List UnitVersion)
    → map (with_header (length (written_pes_header unit.times)) weight) (map size_of versions) ≡ map (row_version weight unit) versions
rows-of-sizes weight unit [] = refl
rows-of-sizes weight unit (v ∷ vs) = ap (λ (rows : List Version). row_version weight unit v ∷ rows) (rows-of-sizes weight unit vs)

abbrev pub unit_with : ℕ → List Version → CodedUnit
unit_with due items = record { due = due; versions = record { items = items } }

-- ---- programs

more-programs : (jobs jobs_left jobs_rest : List ProgramJob) (programs left rest : List Program) (job : ProgramJob) (program : Program) (rows more : List ProgramRow) (row : ProgramRow)
    → jobs_left ≡ job ∷ jobs_rest → left ≡ program ∷ rest → more ≡ rows ++ row ∷ [] → AreProgramRowsSoFar jobs jobs_left programs left rows → IsRowOf program job.coarser.items job.weight job.drift row
    → AreProgramRowsSoFar jobs jobs_rest programs rest more
more-programs jobs jobs_left jobs_rest programs left rest job program rows more row jobs_split split pushed far is = record {
  all = λ versions are.
      let here : AreProgramRowsSoFar jobs (job ∷ jobs_rest) programs (program ∷ rest) rows =
      subst (λ (js : List ProgramJob). AreProgramRowsSoFar jobs js programs (program ∷ rest) rows) jobs_split
      (subst (λ (ps : List Program). AreProgramRowsSoFar jobs jobs_left programs ps rows) split far) in
      let (every, those, rows_are) = here.all (is.versions ∷ versions) (is.are_versions, are) in (
        every,
        those,
        rows_are ∙ ap (λ (r : ProgramRow). rows ++ r ∷ program_rows jobs_rest rest versions) (sym is.row_is) ∙ sym (append_assoc rows (row ∷ []) (program_rows jobs_rest rest versions))
            ∙ ap (λ (xs : List ProgramRow). xs ++ program_rows jobs_rest rest versions) (sym pushed),
      );
}

same-item : {X : Type 0} (xs : List X) (i : ℕ) (d e : X) → i < length xs → get_or xs i d ≡ get_or xs i e
same-item [] i d e within = absurd (omega (arith, within))
same-item (x ∷ xs) zero d e within = refl
same-item (x ∷ xs) (suc i) d e within = same-item xs i d e (omega (arith, within))

-- one more program, whose ratios and weight were read from the jobs
pub one-more-program : (jobs slice : List ProgramJob) (programs : List Program) (i : ℕ) (one two : ProgramJob) (ratios : List ℕ) (program : Program) (rows more : List ProgramRow) (row : ProgramRow)
    → i < length jobs → i < length programs → slice ≡ jobs → one ≡ get_or slice i one → two ≡ get_or slice i two → ratios ≡ one.coarser.items → program ≡ get_or programs i program
    → more ≡ rows ++ row ∷ [] → AreProgramRowsSoFar jobs (drop i jobs) programs (drop i programs) rows → IsRowOf program ratios two.weight two.drift row
    → AreProgramRowsSoFar jobs (drop (i + 1) jobs) programs (drop (i + 1) programs) more
one-more-program jobs slice programs i one two ratios program rows more row jobs_within within slice_is one_is two_is ratios_are program_is pushed far is =
    let one_at : one ≡ get_or jobs i one = subst (λ (xs : List ProgramJob). one ≡ get_or xs i one) slice_is one_is in
    let two_at : two ≡ get_or jobs i two = subst (λ (xs : List ProgramJob). two ≡ get_or xs i two) slice_is two_is in
    let same : two ≡ one = two_at ∙ same-item jobs i two one jobs_within ∙ sym one_at in
    more-programs jobs (drop i jobs) (drop (i + 1) jobs) programs (drop i programs) (drop (i + 1) programs) one program rows more row
    (drop_more jobs i one jobs_within ∙ ap (λ (x : ProgramJob). x ∷ drop (i + 1) jobs) (sym one_at))
    (drop_more programs i program within ∙ ap (λ (x : Program). x ∷ drop (i + 1) programs) (sym program_is)) pushed far
    (subst (λ (r : List ℕ). IsRowOf program r one.weight one.drift row) ratios_are (subst (λ (x : ProgramJob). IsRowOf program ratios x.weight x.drift row) same is))

pub all-programs : (job : Job) (programs left : List Program) (jobs_left : List ProgramJob) (table : Table) → left ≡ [] → jobs_left ≡ []
    → AreProgramRowsSoFar job.programs jobs_left programs left table.programs → table.slot ≡ job.slot → table.nodes ≡ job.nodes → table.evaluations ≡ job.evaluations
    → IsTableOf job programs table
all-programs job programs left jobs_left table none no_jobs far slot nodes evaluations =
    let here : AreProgramRowsSoFar job.programs [] programs [] table.programs =
    subst (λ (js : List ProgramJob). AreProgramRowsSoFar job.programs js programs [] table.programs) no_jobs
    (subst (λ (ps : List Program). AreProgramRowsSoFar job.programs jobs_left programs ps table.programs) none far) in
    let (versions, those, rows_are) = here.all [] tt in
    record { versions = versions; are_versions = those; slot = slot; nodes = nodes; evaluations = evaluations; rows = sym (rows_are ∙ append-nil table.programs) }

-- ---- one table

abbrev table_with : (slot nodes evaluations : ℕ) → List ProgramRow → Table
table_with slot nodes evaluations rows = record { slot = slot; nodes = nodes; evaluations = evaluations; programs = rows }

same-parts : (s t n m e f : ℕ) (ps qs : List ProgramRow) → s ≡ t → n ≡ m → e ≡ f → ps ≡ qs → table_with s n e ps ≡ table_with t m f qs
same-parts s t n m e f ps qs slot nodes evaluations rows =
    ap (λ (x : ℕ). table_with x n e ps) slot ∙ ap (λ (x : ℕ). table_with t x e ps) nodes ∙ ap (λ (x : ℕ). table_with t m x ps) evaluations
    ∙ ap (λ (xs : List ProgramRow). table_with t m f xs) rows

-- programs have one list of versions
abbrev pub HaveOneList : Type 0
HaveOneList = (programs : List Program) (ratios : List (List ℕ)) (a b : List (List (List UnitVersion))) → AreAllVersions programs ratios a → AreAllVersions programs ratios b → a ≡ b

pub one-table : HaveOneList → (job : Job) (programs : List Program) (a b : Table) → IsTableOf job programs a → IsTableOf job programs b → a ≡ b
one-table one_list job programs a b one other =
    let same : one.versions ≡ other.versions = one_list programs (ratios_of job.programs) one.versions other.versions one.are_versions other.are_versions in
    same-parts a.slot b.slot a.nodes b.nodes a.evaluations b.evaluations a.programs b.programs (one.slot ∙ sym other.slot) (one.nodes ∙ sym other.nodes)
    (one.evaluations ∙ sym other.evaluations) (one.rows ∙ ap (program_rows job.programs programs) same ∙ sym other.rows)
