-- A job that fits in a slot has the same programs there, and their smallest choice is scheduled.
use Rattle.std.proofs.Common.{◌≡◌, ℕ, ◌≤◌, All, List, [], ◌∷◌, ◌++◌, map, get_or, Option, Some, None, refl, subst, arith}
use Rattle.std.proofs.lemmas.List.Elements.{All-cons, All-head, All-nil, All-tail}
use Rattle.std.proofs.lemmas.Option.{IfSome_then}
use Rattle.syntax_types.specs.declared.picture.SeqState.{SeqState}
use Rattle.job_programs.specs.Programs.{AreNextPrograms, IsWithinTime, last_time}
use Rattle.job_programs.specs.Read.{AreReadEach}
use Rattle.job_programs.specs.Told.{AreProgramsOn}
use Rattle.job_report.specs.declared.job.Job.{Job}
use Rattle.job_report.specs.declared.job.ProgramJob.{ProgramJob}
use Rattle.job_files.specs.declared.job_table.JobTable.{JobTable}
use Rattle.job_files.specs.JobTable.{IsTableOfJob}
use Rattle.program_reader.specs.declared.program.AudioPiece.{AudioPiece}
use Rattle.program_reader.specs.declared.program.AudioSource.{AudioSource}
use Rattle.program_reader.specs.declared.program.Program.{Program}
use Rattle.program_reader.specs.declared.program.UnitSource.{UnitSource}
use Rattle.program_table.specs.Table.{IsTableOf, audio_row, program_rows, unit_rows}
use Rattle.rate_fit.specs.Fit.{FitsIn, IsGoneBy, end_of_slots, in_slots}
use Rattle.shelf_io.specs.Files.{Files}
use Rattle.slot_rule.specs.Schedule.{IsScheduled}
use Rattle.version_maker.specs.declared.version.UnitVersion.{UnitVersion}
use Rattle.version_source.specs.Versions.{AreAllVersions, AreVideoVersions}
use Rattle.version_table.specs.declared.table.ProgramRow.{ProgramRow}
use Rattle.version_table.specs.declared.table.Table.{Table}
use Rattle.version_table.specs.declared.table.Unit.{Unit as CodedUnit}
use Rattle.version_table.specs.Choice.{IsSmallestChoice}
use Rattle.fit_command.specs.FitCommand.{RunsIn, job_in}

-- ---- times of programs, from those of their rows

-- a time that a stream of some slots reaches, and that isn't behind the last one of others
under : (longest slot time : ℕ) → time ≤ last_time longest → time ≤ end_of_slots slot → time ≤ last_time slot
under longest slot time here there = omega (arith, here, there)

-- no time of a program is behind this tick
record AreTimesBy (last : ℕ) (program : Program) : Type 0 where
  pub units : All (λ (unit : UnitSource). unit.due ≤ last) program.units
  pub audio_dues : All (λ (audio : AudioSource). All (λ (piece : AudioPiece). piece.packet.due ≤ last) audio.pieces) program.audios
  pub audio_gones : All (λ (audio : AudioSource). All (λ (piece : AudioPiece). piece.packet.gone ≤ last) audio.pieces) program.audios

-- a program that was read in some slots, with no time behind the last one of others, could be read in those
within_other : (longest slot : ℕ) (program : Program) → IsWithinTime longest program → AreTimesBy (end_of_slots slot) program → IsWithinTime slot program
within_other longest slot program here there = record {
  units = λ k d lt. under longest slot _ (here.units k d lt) (there.units k d lt);
  audio_dues = λ k d lt i e less. under longest slot _ (here.audio_dues k d lt i e less) (there.audio_dues k d lt i e less);
  audio_gones = λ k d lt i e less. under longest slot _ (here.audio_gones k d lt i e less) (there.audio_gones k d lt i e less);
}

unmapped : {A B : Type 0} (f : A → B) (P : B → Type 0) (xs : List A) → All P (map f xs) → All (λ x. P (f x)) xs
unmapped f P [] all = All-nil (λ x. P (f x))
unmapped f P (x ∷ xs) all = All-cons (λ y. P (f y)) x xs (All-head P (f x) (map f xs) all) (unmapped f P xs (All-tail P (f x) (map f xs) all))

unit_times : (last weight drift : ℕ) (es coarser : List ℕ) (before : Option SeqState) (units : List UnitSource) (versions : List (List UnitVersion))
    → AreVideoVersions es coarser before units versions → All (λ (unit : CodedUnit). unit.due ≤ last) (unit_rows weight drift units versions)
    → All (λ (unit : UnitSource). unit.due ≤ last) units
unit_times last weight drift es coarser before [] [] are all = All-nil _
unit_times last weight drift es coarser before [] (version ∷ versions) are all = absurd are
unit_times last weight drift es coarser before (unit ∷ units) [] are all = absurd are
unit_times last weight drift es coarser before (unit ∷ units) (version ∷ versions) (after, leaves, here, rest) all =
    All-cons (λ (u : UnitSource). u.due ≤ last) unit units (All-head (λ (u : CodedUnit). u.due ≤ last) _ (unit_rows weight drift units versions) all)
    (unit_times last weight drift es coarser (Some after) units versions rest (All-tail (λ (u : CodedUnit). u.due ≤ last) _ (unit_rows weight drift units versions) all))

piece_times : (last : ℕ) (audio : AudioSource) → All (IsGoneBy last) (audio_row audio)
    → All (λ (piece : AudioPiece). (piece.packet.due ≤ last) × (piece.packet.gone ≤ last)) audio.pieces
piece_times last audio all = unmapped (λ (piece : AudioPiece). piece.packet) (IsGoneBy last) audio.pieces all

-- programs are within the time that their rows are
program_times : (slot : ℕ) (jobs : List ProgramJob) (ratios : List (List ℕ)) (programs : List Program) (versions : List (List (List UnitVersion)))
    → AreAllVersions programs (map (λ (job : ProgramJob). job.coarser.items) jobs) versions
    → All (λ (program : ProgramRow). All (λ (unit : CodedUnit). unit.due ≤ end_of_slots slot) program.units) (program_rows jobs programs versions)
    → All (λ (program : ProgramRow). All (All (IsGoneBy (end_of_slots slot))) program.audios) (program_rows jobs programs versions) → All (AreTimesBy (end_of_slots slot)) programs
program_times slot [] ratios [] [] are units audios = All-nil _
program_times slot [] ratios [] (version ∷ versions) are units audios = All-nil _
program_times slot [] ratios (program ∷ programs) [] are units audios = absurd are
program_times slot [] ratios (program ∷ programs) (version ∷ versions) are units audios = absurd are
program_times slot (job ∷ jobs) ratios [] versions are units audios = All-nil _
program_times slot (job ∷ jobs) ratios (program ∷ programs) [] are units audios = absurd are
program_times slot (job ∷ jobs) ratios (program ∷ programs) (version ∷ versions) (here, rest) units audios =
    let row_units = All-head (λ (row : ProgramRow). All (λ (unit : CodedUnit). unit.due ≤ end_of_slots slot) row.units) _ (program_rows jobs programs versions) units in
    let row_audios = All-head (λ (row : ProgramRow). All (All (IsGoneBy (end_of_slots slot))) row.audios) _ (program_rows jobs programs versions) audios in
    let pieces = unmapped audio_row (All (IsGoneBy (end_of_slots slot))) program.audios row_audios in
    All-cons (AreTimesBy (end_of_slots slot)) program programs
    (record {
      units = unit_times (end_of_slots slot) job.weight job.drift program.video job.coarser.items None program.units version here row_units;
      audio_dues = λ k d lt i e less. (piece_times (end_of_slots slot) (get_or program.audios k d) (pieces k d lt) i e less).0;
      audio_gones = λ k d lt i e less. (piece_times (end_of_slots slot) (get_or program.audios k d) (pieces k d lt) i e less).1;
    })
    (program_times slot jobs ratios programs versions rest
    (All-tail (λ (row : ProgramRow). All (λ (unit : CodedUnit). unit.due ≤ end_of_slots slot) row.units) _ (program_rows jobs programs versions) units)
    (All-tail (λ (row : ProgramRow). All (All (IsGoneBy (end_of_slots slot))) row.audios) _ (program_rows jobs programs versions) audios))

-- ---- programs in other slots

-- programs that are within the time of shorter slots are those of the job there
next_in : (slot other start : ℕ) (contents : List (List ℕ)) (programs : List Program) (jobs : List ProgramJob) (further : List (List ℕ)) (more : List Program)
    → AreNextPrograms slot start contents programs jobs further more → All (AreTimesBy (end_of_slots other)) more → AreNextPrograms other start contents programs jobs further more
next_in slot other start contents programs [] [] [] are within = tt
next_in slot other start contents programs [] [] (program ∷ more) are within = absurd are
next_in slot other start contents programs [] (content ∷ further) more are within = absurd are
next_in slot other start contents programs (job ∷ jobs) [] more are within = absurd are
next_in slot other start contents programs (job ∷ jobs) (content ∷ further) [] are within = absurd are
next_in slot other start contents programs (job ∷ jobs) (content ∷ further) (program ∷ more) (next, rest) within = (
  record {
    few_bytes = next.few_bytes;
    holds = next.holds;
    few_units = next.few_units;
    within = within_other slot other program next.within (All-head (AreTimesBy (end_of_slots other)) program more within);
    share = next.share;
  },
  next_in slot other start (contents ++ content ∷ []) (programs ++ program ∷ []) jobs further more rest (All-tail (AreTimesBy (end_of_slots other)) program more within),
)

read_in : (slot other start : ℕ) (jobs : List ProgramJob) (programs : List Program) → AreReadEach slot start jobs programs → All (AreTimesBy (end_of_slots other)) programs
    → AreReadEach other start jobs programs
read_in slot other start [] [] each within = tt
read_in slot other start [] (program ∷ programs) each within = absurd each
read_in slot other start (job ∷ jobs) [] each within = absurd each
read_in slot other start (job ∷ jobs) (program ∷ programs) (was, rest) within = (
  record {
    read = was.read;
    within = within_other slot other program was.within (All-head (AreTimesBy (end_of_slots other)) program programs within);
    share = was.share;
  },
  read_in slot other start jobs programs rest (All-tail (AreTimesBy (end_of_slots other)) program programs within),
)

-- ---- the law

-- a table has one smallest choice
abbrev pub OneSmallest : Type 0
OneSmallest = (table : Table) (a b : List ℕ) → IsSmallestChoice table a → IsSmallestChoice table b → a ≡ b

table_runs : OneSmallest → (told : Option Files) (job : Job) (slot : ℕ) (programs : List Program) (table : Table) → AreProgramsOn told job programs
    → IsTableOf job programs table → FitsIn table slot → RunsIn told slot job
table_runs law told job slot programs table are is (within, (choice, small, scheduled)) =
    let rows = is.rows in
    let units = subst (λ (r : List ProgramRow). All (λ (program : ProgramRow). All (λ (unit : CodedUnit). unit.due ≤ end_of_slots slot) program.units) r) rows within.0 in
    let audios = subst (λ (r : List ProgramRow). All (λ (program : ProgramRow). All (All (IsGoneBy (end_of_slots slot))) program.audios) r) rows within.1 in
    let times = program_times slot job.programs [] programs is.versions is.are_versions units audios in (
      programs,
      in_slots slot table,
      record {
        read = record { each = read_in job.slot slot job.start job.programs programs are.read.each times; few_units = are.read.few_units };
        held = IfSome_then told are.held (λ files in_files. record {
          contents = in_files.contents;
          held = in_files.held;
          are = next_in job.slot slot job.start [] [] job.programs in_files.contents programs in_files.are times;
        });
      },
      record { versions = is.versions; are_versions = is.are_versions; slot = refl; nodes = is.nodes; evaluations = is.evaluations; rows = is.rows },
      λ other least. subst (λ (c : List ℕ). IsScheduled (in_slots slot table) c) (law (in_slots slot table) choice other small least) scheduled,
    )

-- the same of the job in other slots
pub fitting_runs : OneSmallest → (told : Option Files) (job : Job) (longest slot : ℕ) (made : JobTable) → IsTableOfJob told (job_in longest job) made → FitsIn made.table slot
    → RunsIn told slot job
fitting_runs law told job longest slot made is fits =
    table_runs law told (job_in longest job) slot made.programs made.table (subst (λ (j : Job). AreProgramsOn told j made.programs) is.job_is is.programs)
    (subst (λ (j : Job). IsTableOf j made.programs made.table) is.job_is is.table) fits
