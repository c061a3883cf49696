-- The layout of a job's stream, and what stands in the slots of its schedule.
use Rattle.std.proofs.Common.{◌≡◌, ℕ, ◌+◌, ◌^◌, ◌<◌, ◌≤◌, List, [], ◌∷◌, ◌++◌, All, length, sym, subst, arith}
use Rattle.std.proofs.lemmas.List.Elements.{All-cons, All-nil}
use Rattle.psi_tables.specs.declared.program_map.ProgramMap.{ProgramMap}
use Rattle.psi_tables.specs.declared.stream.Stream.{Stream}
use Rattle.version_table.specs.declared.table.Table.{Table}
use Rattle.version_table.specs.Choice.{Fits}
use Rattle.slot_rule.specs.declared.slot_list.SlotList.{SlotList}
use Rattle.job_report.specs.declared.job.Form.{Form}
use Rattle.job_report.specs.declared.job.Job.{Job}
use Rattle.job_report.specs.declared.job.ProgramJob.{ProgramJob}
use Rattle.program_reader.specs.declared.program.Program.{Program}
use Rattle.program_reader.specs.Programs.{IsProgramOfFile}
use Rattle.version_maker.specs.declared.version.UnitVersion.{UnitVersion}
use Rattle.version_source.specs.Pieces.{HasPiece, pieces_of, stream_items}
use Rattle.version_source.specs.Versions.{AreAllVersions, ratios_of}
use Rattle.mux_writer.specs.Output.{IsOfLayout}
use Rattle.mux_writer.specs.Pieces.{IsPayload}
use Rattle.mux_writer.specs.Layout.{IsLayout}
use Rattle.job_programs.specs.Programs.{AreNextPrograms, ArePrograms}
use Rattle.program_table.specs.Table.{IsTableOf}
use Rattle.job_stream.specs.Stream.{layout_of}
use Rattle.job_stream.proofs.LayoutLemmas.{maps-count}
use Rattle.program_reader.proofs.TakenMaps.{taken-written}
use Rattle.job_stream.proofs.PieceSizes.{pieces-sized}
use Rattle.job_stream.proofs.ReadPrograms.{AreReady}
use Rattle.job_stream.proofs.RowLemmas.{SlotsNameTable, rows-there}
use Rattle.job_stream.proofs.StreamSize.{is-layout}
use Rattle.program_table.proofs.Rows.{HaveOneList}

pub layout-is-one : (job : Job) (programs : List Program) → length job.programs ≤ 8 → AreReady job.programs programs
    → IsLayout (layout_of job programs) × (length (layout_of job programs).maps.items ≤ 8)
layout-is-one job programs few ready =
    (is-layout job programs (omega (arith, few, ready.as_many)) ready.as_many ready.out, omega (arith, few, ready.as_many, maps-count 0 job.programs programs ready.as_many))

-- ---- stream types

abbrev pub HasKinds : Program → Type 0
HasKinds program = All (λ (stream : Stream). stream.kind < 2 ^ 8) program.map.streams.items

kinds-of : (form : Form) (file : List ℕ) (number : ℕ) (dropped : List ℕ) (start : ℕ) (program : Program) → IsProgramOfFile form file number dropped start program → HasKinds program
kinds-of form file number dropped start program of =
    subst (λ (m : ProgramMap). All (λ (stream : Stream). stream.kind < 2 ^ 8) m.streams.items) (sym of.program_is.map_is)
    (taken-written form file number dropped of.demuxed of.demuxed_is).kinds

next-kinds : (slot start : ℕ) (contents : List (List ℕ)) (before : List Program) (jobs : List ProgramJob) (further : List (List ℕ)) (programs : List Program)
    → AreNextPrograms slot start contents before jobs further programs → All HasKinds programs
next-kinds slot start contents before [] [] [] are = All-nil HasKinds
next-kinds slot start contents before [] [] (p ∷ ps) are = absurd are
next-kinds slot start contents before [] (c ∷ cs) programs are = absurd are
next-kinds slot start contents before (j ∷ js) [] programs are = absurd are
next-kinds slot start contents before (j ∷ js) (c ∷ cs) [] are = absurd are
next-kinds slot start contents before (j ∷ js) (c ∷ cs) (p ∷ ps) (next, rest) =
    All-cons HasKinds p ps (kinds-of j.form c j.program j.drop.items start p next.holds) (next-kinds slot start (contents ++ c ∷ []) (before ++ p ∷ []) js cs ps rest)

pub kinds-are : (job : Job) (contents : List (List ℕ)) (programs : List Program) → ArePrograms job contents programs
    → All (λ (program : Program). All (λ (stream : Stream). stream.kind < 2 ^ 8) program.map.streams.items) programs
kinds-are job contents programs are = next-kinds job.slot job.start [] [] job.programs contents programs are

-- ---- slots

pub slots-are : HaveOneList → (job : Job) (programs : List Program) (table : Table) (choice : List ℕ) (slots : SlotList) (versions : List (List (List UnitVersion)))
    → AreReady job.programs programs → IsTableOf job programs table → Fits table choice → SlotsNameTable table choice slots → AreAllVersions programs (ratios_of job.programs) versions
    → All (IsOfLayout (layout_of job programs) (IsPayload (pieces_of (stream_items programs versions choice)))) slots.rows
slots-are one job programs table choice slots versions ready of fits named are =
    let same : of.versions ≡ versions = one programs (ratios_of job.programs) of.versions versions of.are_versions are in
    rows-there job programs table choice slots (IsPayload (pieces_of (stream_items programs versions choice))) of fits ready
    (λ s i p there. pieces-sized programs versions choice ready.sendable s i p (subst (λ (vs : List (List (List UnitVersion))). HasPiece (stream_items programs vs choice) s i p) same there)) named
