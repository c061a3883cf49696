-- What was written is the stream of the job.
use Rattle.std.proofs.Common.{◌≡◌, ℕ, inl, inr, List, Option, Some, refl, sym, subst, arith}
use Rattle.std.specs.Prelude.{IfSome}
use Rattle.shelf_io.specs.Causes.{SinkCauses}
use Rattle.shelf_io.specs.Counts.{Rose}
use Rattle.job_report.specs.declared.job.Job.{Job}
use Rattle.job_report.specs.declared.job.ProgramJob.{ProgramJob}
use Rattle.version_table.specs.declared.table.Table.{Table}
use Rattle.slot_rule.specs.declared.slot_list.SlotList.{SlotList}
use Rattle.program_reader.specs.declared.program.Program.{Program}
use Rattle.version_maker.specs.declared.version.UnitVersion.{UnitVersion}
use Rattle.version_source.specs.Pieces.{HasPiece, pieces_of, stream_items}
use Rattle.version_source.specs.Versions.{AreAllVersions, ratios_of}
use Rattle.mux_writer.specs.declared.layout.Layout.{Layout}
use Rattle.mux_writer.specs.Causes.{StreamCauses}
use Rattle.mux_writer.specs.Output.{output_stream}
use Rattle.mux_writer.specs.Pieces.{Pieces}
use Rattle.program_table.specs.Table.{IsTableOf}
use Rattle.job_stream.specs.Stream.{IsStreamIn, layout_of}

-- what a source of pieces tells of these programs
abbrev pub Tells : List Program → List ProgramJob → (choice : List ℕ) → Option Pieces → Type 0
Tells programs jobs choice told = (versions : List (List (List UnitVersion))) → AreAllVersions programs (ratios_of jobs) versions → told ≡ Some (pieces_of (stream_items programs versions choice))

-- it has each piece of them
abbrev pub HasAll : List Program → List ProgramJob → (choice : List ℕ) → (has : (stream item piece : ℕ) → Type 0) → Type 0
HasAll programs jobs choice has = (versions : List (List (List UnitVersion))) → AreAllVersions programs (ratios_of jobs) versions
    → (stream item piece : ℕ) → HasPiece (stream_items programs versions choice) stream item piece → has stream item piece

pub told-of : (programs : List Program) (jobs those : List ProgramJob) (choice that : List ℕ) (told : Option Pieces) → those ≡ jobs → that ≡ choice → Tells programs those that told
    → Tells programs jobs choice told
told-of programs jobs those choice that told jobs-are choice-is tells =
    subst (λ (js : List ProgramJob). Tells programs js choice told) jobs-are (subst (λ (ch : List ℕ). Tells programs those ch told) choice-is tells)

pub has-all : (programs : List Program) (jobs those : List ProgramJob) (choice that : List ℕ) (has : (stream item piece : ℕ) → Type 0) → those ≡ jobs → that ≡ choice
    → HasAll programs those that has → HasAll programs jobs choice has
has-all programs jobs those choice that has jobs-are choice-is all =
    subst (λ (js : List ProgramJob). HasAll programs js choice has) jobs-are (subst (λ (ch : List ℕ). HasAll programs those ch has) choice-is all)

-- what is said of the stream of the layout and the pieces that are told holds of the stream of the job
pub of-stream : (job : Job) (programs : List Program) (choice : List ℕ) (slots : SlotList) (layout : Layout) (told : Option Pieces) (Q : List ℕ → Type 0) → layout ≡ layout_of job programs
    → Tells programs job.programs choice told → IfSome told (λ pieces. Q (output_stream layout job.slot pieces slots.rows))
    → (stream : List ℕ) → IsStreamIn job programs choice slots stream → Q stream
of-stream job programs choice slots layout told Q same tells said stream is =
    let here : Q (output_stream layout job.slot (pieces_of (stream_items programs is.versions choice)) slots.rows) =
    subst (λ (o : Option Pieces). IfSome o (λ pieces. Q (output_stream layout job.slot pieces slots.rows))) (tells is.versions is.are_versions) said in
    subst Q (sym is.stream_is)
    (subst (λ (l : Layout). Q (output_stream l job.slot (pieces_of (stream_items programs is.versions choice)) slots.rows)) same here)

-- there is a stream
pub some-stream : (job : Job) (programs : List Program) (table : Table) (choice : List ℕ) (slots : SlotList) → IsTableOf job programs table
    → (stream : List ℕ) × IsStreamIn job programs choice slots stream
some-stream job programs table choice slots of = (
  output_stream (layout_of job programs) job.slot (pieces_of (stream_items programs of.versions choice)) slots.rows,
  record { versions = of.versions; are_versions = of.are_versions; stream_is = refl },
)

-- ---- causes

no-rise : Rose 0 0 → ⊥
no-rise rose = omega (arith, rose (omega arith))

-- where the source never fails, a fault is the sink's
pub sink-causes : {K P : Type 0} (sink_faults since_fault : K → ℕ) (failed missing : Type 0) (to after : K) (pieces pieces_after : P)
    → StreamCauses sink_faults since_fault (λ (p : P). 0) failed missing to after pieces pieces_after → SinkCauses sink_faults failed missing to after
sink-causes sink_faults since_fault failed missing to after pieces pieces_after causes = record {
  failed_rose = λ f. elim (causes.failed_rose f) [ inl sink ↦ sink.0 | inr source ↦ absurd (no-rise source) ];
  never_missing = causes.never_missing;
  faults_grow = causes.sink_faults_grow;
}

pub failed-last : {K P : Type 0} (sink_faults since_fault : K → ℕ) (failed missing : Type 0) (to after : K) (pieces pieces_after : P)
    → StreamCauses sink_faults since_fault (λ (p : P). 0) failed missing to after pieces pieces_after → failed → since_fault after ≡ 0
failed-last sink_faults since_fault failed missing to after pieces pieces_after causes f =
    elim (causes.failed_rose f) [ inl sink ↦ sink.1 | inr source ↦ absurd (no-rise source) ]
