-- The rows of units of which the sizes are told.
use Rattle.std.proofs.Common.{
  ◌≡◌,
  ℕ,
  zero,
  suc,
  ◌+◌,
  ◌-◌,
  ◌<◌,
  ◌≤◌,
  List,
  [],
  ◌∷◌,
  ◌++◌,
  length,
  drop,
  take,
  get_or,
  map,
  All,
  Option,
  Some,
  None,
  refl,
  ap,
  ap₂,
  subst,
  sym,
  ◌∙◌,
  arith,
  append_assoc,
  append-nil,
}
use Rattle.std.proofs.lemmas.List.{drop_more, length-drop, length-take-le}
use Rattle.std.proofs.lemmas.List.Elements.{All-cons, All-head, All-nil, All-tail}
use Rattle.bit_lists.specs.Fields.{AreBytes}
use Rattle.bit_lists.proofs.ByteLemmas.{AreBytes-take, AreBytes-drop}
use Rattle.picture_grammar.specs.Picture.{MayPrecede}
use Rattle.syntax_types.specs.declared.picture.SeqState.{SeqState}
use Rattle.job_report.specs.declared.job.ProgramJob.{ProgramJob}
use Rattle.job_report.specs.ValidJob.{IsValidProgramJob}
use Rattle.pes_units.specs.VideoHeader.{written_pes_header}
use Rattle.program_reader.specs.declared.program.Program.{Program}
use Rattle.program_reader.specs.declared.program.UnitSource.{UnitSource}
use Rattle.program_reader.specs.declared.unit_sizes.UnitSizes.{UnitSizes}
use Rattle.program_reader.specs.Sizes.{AreProgramSizes, AreUnitSizes, stands_at}
use Rattle.program_reader.specs.Carry.{unit_weight}
use Rattle.job_programs.specs.Sizes.{AreJobSizes}
use Rattle.version_table.specs.declared.table.ProgramRow.{ProgramRow}
use Rattle.version_table.specs.declared.table.Unit.{Unit as CodedUnit}
use Rattle.version_table.specs.declared.table.AudioPacket.{AudioPacket}
use Rattle.version_maker.specs.declared.limits.TheConstants.{UNIT_BYTES_MOST}
use Rattle.version_maker.specs.declared.version.VersionSize.{VersionSize}
use Rattle.version_maker.specs.Versions.{AreSizes}
use Rattle.version_source.specs.Sendable.{IsUnitOf, LeavesState, bytes_of_unit}
use Rattle.version_source.proofs.StateLemmas.{state-left}
use Rattle.program_table.specs.Table.{IsRowOf, audio_row, unit_rows}
use Rattle.program_table.specs.Private.Rows.{AreBounded, AreUnitRows, CanBeSaid, IsBounded, sized_row, sized_rows, with_header}
use Rattle.program_table.proofs.Rows.{rows-of-sizes, unit_with}

abbrev pub row_with : ℕ → List CodedUnit → List (List AudioPacket) → ProgramRow
row_with vbv units audios = record { vbv = vbv; units = units; audios = audios }

-- ---- what is told of units by their sizes

-- the state that a unit of told sizes leaves
leaves-sized : (before : Option SeqState) (unit coarser : List ℕ) (sizes : List VersionSize) → (are : AreSizes before unit coarser sizes) → LeavesState before unit are.are.picture.seq
leaves-sized before unit coarser sizes are = record { picture = are.are.picture; whole = are.are.whole; after_is = refl }

unit-short : (es : List ℕ) (unit : UnitSource) → IsUnitOf es unit → length (bytes_of_unit es unit) ≤ UNIT_BYTES_MOST
unit-short es unit is = omega (arith, length-of es unit.begin unit.end is.order is.inside, is.short)
  where
    length-of : (es : List ℕ) (begin end : ℕ) → begin ≤ end → end ≤ length es → length (take (end - begin) (drop begin es)) ≡ end - begin
    length-of es begin end order inside = length-take-le (end - begin) (drop begin es) (omega (arith, length-drop begin es, order, inside))

-- sizes have a place in a table
abbrev pub SizesAreBounded : Type 0
SizesAreBounded = (before : Option SeqState) (unit coarser : List ℕ) (sizes : List VersionSize) → MayPrecede before → AreBytes unit → length unit ≤ UNIT_BYTES_MOST
    → AreSizes before unit coarser sizes → All IsBounded sizes

pub all-bounded : SizesAreBounded → (es coarser : List ℕ) (before : Option SeqState) (units : List UnitSource) (sizes : List UnitSizes) → AreBytes es → MayPrecede before → All (IsUnitOf es) units
    → AreUnitSizes es coarser before (map stands_at units) sizes → All AreBounded sizes
all-bounded law es coarser before [] [] bytes may each are = All-nil AreBounded
all-bounded law es coarser before [] (s ∷ ss) bytes may each are = absurd are
all-bounded law es coarser before (u ∷ us) [] bytes may each are = absurd are
all-bounded law es coarser before (u ∷ us) (s ∷ ss) bytes may each are =
    let own : AreBytes (bytes_of_unit es u) = AreBytes-take (u.end - u.begin) (drop u.begin es) (AreBytes-drop u.begin es bytes) in
    let here : AreSizes before (bytes_of_unit es u) coarser s.versions.items = are.0 in
    let after : MayPrecede (Some here.are.picture.seq) = state-left before (bytes_of_unit es u) here.are.picture.seq may (leaves-sized before (bytes_of_unit es u) coarser s.versions.items here) in
    All-cons AreBounded s ss (law before (bytes_of_unit es u) coarser s.versions.items may own (unit-short es u (All-head (IsUnitOf es) u us each)) here)
    (all-bounded law es coarser (Some here.are.picture.seq) us ss bytes after (All-tail (IsUnitOf es) u us each) are.1)

pub all-said : (es : List ℕ) (units : List UnitSource) → All (IsUnitOf es) units → All CanBeSaid units
all-said es [] each = All-nil CanBeSaid
all-said es (u ∷ us) each =
    let own : IsUnitOf es u = All-head (IsUnitOf es) u us each in
    All-cons CanBeSaid u us (record { in_range = own.in_range; beside = own.beside }) (all-said es us (All-tail (IsUnitOf es) u us each))

-- ---- rows

-- the rows of units with these sizes are those of their versions
rows-sized : (es coarser : List ℕ) (before : Option SeqState) (weight drift : ℕ) (units : List UnitSource) (sizes : List UnitSizes) → AreUnitSizes es coarser before (map stands_at units) sizes
    → AreUnitRows es coarser before weight drift units (sized_rows weight drift units sizes)
rows-sized es coarser before weight drift [] [] are = record { versions = []; are_versions = tt; rows_are = refl }
rows-sized es coarser before weight drift [] (s ∷ ss) are = absurd are
rows-sized es coarser before weight drift (u ∷ us) [] are = absurd are
rows-sized es coarser before weight drift (u ∷ us) (s ∷ ss) are =
    let here : AreSizes before (bytes_of_unit es u) coarser s.versions.items = are.0 in
    let others = rows-sized es coarser (Some here.are.picture.seq) weight drift us ss are.1 in
    let items = ap (λ (those : List VersionSize). map (with_header (length (written_pes_header u.times)) (unit_weight weight drift u us)) those) here.each ∙ rows-of-sizes (unit_weight weight drift u us) u here.versions in
    record {
      versions = here.versions ∷ others.versions;
      are_versions = (here.are.picture.seq, leaves-sized before (bytes_of_unit es u) coarser s.versions.items here, here.are, others.are_versions);
      rows_are = ap₂ (λ (row : CodedUnit) (rows : List CodedUnit). row ∷ rows) (ap (unit_with u.due) items) others.rows_are;
    }

pub sized-more : (weight drift : ℕ) (units : List UnitSource) (sizes : List UnitSizes) (k : ℕ) (d : UnitSource) (own : UnitSizes) (rows more : List CodedUnit) (n : ℕ) (row : CodedUnit) → k < length units
    → length sizes ≡ length units → own ≡ get_or sizes k own → n ≡ unit_weight weight drift (get_or units k d) (drop (k + 1) units) → row ≡ sized_row n (get_or units k d) own → more ≡ rows ++ row ∷ []
    → rows ++ sized_rows weight drift (drop k units) (drop k sizes) ≡ sized_rows weight drift units sizes
    → more ++ sized_rows weight drift (drop (k + 1) units) (drop (k + 1) sizes) ≡ sized_rows weight drift units sizes
sized-more weight drift units sizes k d own rows more n row within many own_is weighs is pushed far =
    let sizes_within : k < length sizes = omega (arith, within, many) in
    let rest = sized_rows weight drift (drop (k + 1) units) (drop (k + 1) sizes) in
    let step : sized_rows weight drift (drop k units) (drop k sizes) ≡ row ∷ rest =
    ap₂ (λ (us : List UnitSource) (ss : List UnitSizes). sized_rows weight drift us ss) (drop_more units k d within) (drop_more sizes k own sizes_within)
    ∙ ap (λ (m : ℕ). sized_row m (get_or units k d) (get_or sizes k own) ∷ rest) (sym weighs)
    ∙ ap (λ (o : UnitSizes). sized_row n (get_or units k d) o ∷ rest) (sym own_is) ∙ ap (λ (r : CodedUnit). r ∷ rest) (sym is) in
    ap (λ (rs : List CodedUnit). rs ++ rest) pushed ∙ append_assoc rows (row ∷ []) rest ∙ ap (λ (rs : List CodedUnit). rows ++ rs) (sym step) ∙ far

pub sized-all : (weight drift : ℕ) (units : List UnitSource) (sizes : List UnitSizes) (k : ℕ) (rows : List CodedUnit) → drop k units ≡ []
    → rows ++ sized_rows weight drift (drop k units) (drop k sizes) ≡ sized_rows weight drift units sizes → rows ≡ sized_rows weight drift units sizes
sized-all weight drift units sizes k rows none far =
    sym (ap (λ (us : List UnitSource). rows ++ sized_rows weight drift us (drop k sizes)) none ∙ append-nil rows) ∙ far

-- ---- one program

pub row-sized : (program : Program) (coarser : List ℕ) (weight drift : ℕ) (units : List UnitSource) (sizes : List UnitSizes) (rows : List CodedUnit) (audios : List (List AudioPacket))
    → units ≡ program.units → rows ≡ sized_rows weight drift units sizes → audios ≡ map audio_row program.audios → AreProgramSizes program coarser sizes
    → IsRowOf program coarser weight drift (row_with program.vbv rows audios)
row-sized program coarser weight drift units sizes rows audios same rows_are audios_are are =
    let made = rows-sized program.video coarser None weight drift program.units sizes are in
    let those : rows ≡ unit_rows weight drift program.units made.versions = rows_are ∙ ap (λ (us : List UnitSource). sized_rows weight drift us sizes) same ∙ made.rows_are in
    record {
      versions = made.versions;
      are_versions = made.are_versions;
      row_is = ap₂ (λ (us : List CodedUnit) (those_audios : List (List AudioPacket)). row_with program.vbv us those_audios) those audios_are;
    }

-- ---- all programs

pub job-sizes-many : (jobs : List ProgramJob) (programs : List Program) (sizes : List (List UnitSizes)) → AreJobSizes jobs programs sizes
    → (length programs ≡ length jobs) × (length sizes ≡ length jobs)
job-sizes-many [] [] [] are = (refl, refl)
job-sizes-many [] [] (s ∷ ss) are = absurd are
job-sizes-many [] (p ∷ ps) sizes are = absurd are
job-sizes-many (j ∷ js) [] sizes are = absurd are
job-sizes-many (j ∷ js) (p ∷ ps) [] are = absurd are
job-sizes-many (j ∷ js) (p ∷ ps) (s ∷ ss) are = let many = job-sizes-many js ps ss are.1 in (ap suc many.0, ap suc many.1)

pub job-sizes-at : (jobs : List ProgramJob) (programs : List Program) (sizes : List (List UnitSizes)) (i : ℕ) (job : ProgramJob) (program : Program) (own : List UnitSizes) → i < length jobs
    → AreJobSizes jobs programs sizes → AreProgramSizes (get_or programs i program) (get_or jobs i job).coarser.items (get_or sizes i own)
job-sizes-at [] programs sizes i job program own within are = absurd (let e : i < 0 = within in omega (arith, e))
job-sizes-at (j ∷ js) [] sizes i job program own within are = absurd are
job-sizes-at (j ∷ js) (p ∷ ps) [] i job program own within are = absurd are
job-sizes-at (j ∷ js) (p ∷ ps) (s ∷ ss) zero job program own within are = are.0
job-sizes-at (j ∷ js) (p ∷ ps) (s ∷ ss) (suc i) job program own within are = job-sizes-at js ps ss i job program own (omega (arith, within)) are.1

-- the sizes of a program, of which it and its job were read
pub sizes-here : (jobs slice : List ProgramJob) (programs : List Program) (sizes : List (List UnitSizes)) (i : ℕ) (job : ProgramJob) (program : Program) (item own : List UnitSizes) → slice ≡ jobs
    → job ≡ get_or slice i job → program ≡ get_or programs i program → item ≡ get_or sizes i item → own ≡ item → i < length programs → AreJobSizes jobs programs sizes
    → AreProgramSizes program job.coarser.items own
sizes-here jobs slice programs sizes i job program item own slice_is job_is program_is item_is own_is within are =
    let many = job-sizes-many jobs programs sizes are in
    let here = job-sizes-at jobs programs sizes i job program item (omega (arith, within, many.0)) are in
    let job_at : get_or jobs i job ≡ job = sym (job_is ∙ ap (λ (js : List ProgramJob). get_or js i job) slice_is) in
    subst (λ (ss : List UnitSizes). AreProgramSizes program job.coarser.items ss) (sym item_is ∙ sym own_is)
    (subst (λ (j : ProgramJob). AreProgramSizes program j.coarser.items (get_or sizes i item)) job_at
    (subst (λ (p : Program). AreProgramSizes p (get_or jobs i job).coarser.items (get_or sizes i item)) (sym program_is) here))

-- a program that was read from the jobs of a valid job is valid
pub job-valid : (jobs slice : List ProgramJob) (i : ℕ) (job : ProgramJob) → slice ≡ jobs → job ≡ get_or slice i job → i < length jobs → All IsValidProgramJob jobs → IsValidProgramJob job
job-valid jobs slice i job slice_is job_is within all =
    subst IsValidProgramJob (sym (job_is ∙ ap (λ (js : List ProgramJob). get_or js i job) slice_is)) (all i job within)
