-- What stands in the slots of a job's schedule is of the layout of its stream, and its pieces are there.
use Rattle.std.proofs.Common.{◌≡◌, ℕ, zero, suc, ◌+◌, ◌*◌, ◌<◌, List, [], ◌∷◌, All, length, get_or, Some, refl, sym, ap, subst, ◌∙◌, arith}
use Rattle.std.specs.Prelude.{slice_get, slice_index}
use Rattle.std.specs.List.{AllZip}
use Rattle.std.proofs.lemmas.List.{length-map}
use Rattle.std.proofs.lemmas.Option.{slice_get-get_or}
use Rattle.bit_lists.specs.Payload.{Payload}
use Rattle.job_report.specs.declared.job.Job.{Job}
use Rattle.job_report.specs.declared.job.ProgramJob.{ProgramJob}
use Rattle.version_table.specs.declared.table.ProgramRow.{ProgramRow}
use Rattle.version_table.specs.declared.table.Table.{Table}
use Rattle.version_table.specs.Choice.{Fits, HasVersion, version_at}
use Rattle.slot_rule.specs.declared.sent.Sent.{Sent}
use Rattle.slot_rule.specs.declared.sent.Sent.TheVariants.{Null, Pat, Pmt, Pcr, Video, Audio}
use Rattle.slot_rule.specs.declared.slot_list.SlotList.{SlotList}
use Rattle.slot_rule.specs.Queues.{queues_of}
use Rattle.slot_rule.specs.Sent.{IsOfTable, choice_from, video_number}
use Rattle.slot_rule.specs.SlotList.{IsSlotList, sent_of}
use Rattle.program_reader.specs.declared.program.Program.{Program}
use Rattle.version_maker.specs.declared.version.UnitVersion.{UnitVersion}
use Rattle.version_source.specs.Pieces.{HasPiece, pieces_at, stream_items}
use Rattle.version_source.specs.Versions.{AreAllVersions, ratios_of}
use Rattle.mux_writer.specs.Output.{IsOfLayout}
use Rattle.program_table.specs.Table.{IsTableOf, program_rows}
use Rattle.job_stream.specs.Stream.{layout_of}
use Rattle.job_stream.proofs.NamedVersions.{all_units}
use Rattle.job_stream.proofs.PieceLemmas.{audio-packet-has, video-has}
use Rattle.job_stream.proofs.LayoutLemmas.{maps-count, streams-count}
use Rattle.job_stream.proofs.ReadPrograms.{AreReady}

-- a stream that has a piece is one of the streams
stream-there : (streams : List (List (List Payload))) (stream item piece : ℕ) → piece < length (pieces_at streams stream item) → stream < length streams
stream-there [] stream item piece within = absurd (omega (arith, within))
stream-there (s ∷ ss) zero item piece within = omega arith
stream-there (s ∷ ss) (suc stream) item piece within = omega (arith, stream-there ss stream item piece within)

pub program_rows-count : (jobs : List ProgramJob) (programs : List Program) (versions : List (List (List UnitVersion))) → AreAllVersions programs (ratios_of jobs) versions
    → length (program_rows jobs programs versions) ≡ length programs
program_rows-count [] [] [] are = refl
program_rows-count [] [] (v ∷ vs) are = absurd are
program_rows-count [] (p ∷ ps) versions are = absurd are
program_rows-count (j ∷ js) [] versions are = absurd are
program_rows-count (j ∷ js) (p ∷ ps) [] are = absurd are
program_rows-count (j ∷ js) (p ∷ ps) (v ∷ vs) are = ap suc (program_rows-count js ps vs are.1)

-- what the table of a job's programs has is in the layout of their stream, and its pieces are there
sent-there : (job : Job) (programs : List Program) (table : Table) (choice : List ℕ) (has : (stream item piece : ℕ) → Type 0) (of : IsTableOf job programs table) → Fits table choice
    → AreReady job.programs programs
    → ((stream item piece : ℕ) → HasPiece (stream_items programs of.versions choice) stream item piece → has stream item piece)
    → (sent : Sent) → IsOfTable table choice sent → IsOfLayout (layout_of job programs) has sent
sent-there job programs table choice has of fits ready pieces Null is = tt
sent-there job programs table choice has of fits ready pieces Pat is = tt
sent-there job programs table choice has of fits ready pieces (Pmt program) is =
    omega (arith, is, ap length of.rows, program_rows-count job.programs programs of.versions of.are_versions, maps-count 0 job.programs programs ready.as_many)
sent-there job programs table choice has of fits ready pieces (Pcr program) is =
    omega (arith, is, ap length of.rows, program_rows-count job.programs programs of.versions of.are_versions, maps-count 0 job.programs programs ready.as_many)
sent-there job programs table choice has of fits ready pieces (Video stream unit piece) is =
    let streams = stream_items programs of.versions choice in
    let rows = program_rows job.programs programs of.versions in
    let row : slice_get rows is.program ≡ Some is.row = subst (λ (r : List ProgramRow). slice_get r is.program ≡ Some is.row) of.rows is.row_is in
    let fit : AllZip HasVersion (all_units rows) choice = subst (λ (r : List ProgramRow). AllZip HasVersion (all_units r) choice) of.rows fits in
    let within : 184 * piece < (version_at is.unit (slice_index (choice_from rows is.program choice) unit)).bytes =
    subst (λ (r : List ProgramRow). 184 * piece < (version_at is.unit (slice_index (choice_from r is.program choice) unit)).bytes) of.rows is.piece_within in
    let here : piece < length (pieces_at streams (video_number rows is.program) unit) =
    video-has job.programs programs of.versions choice is.program unit piece is.row is.unit of.are_versions fit row is.unit_is within in
    let number : stream ≡ video_number rows is.program = is.number ∙ ap (λ (r : List ProgramRow). video_number r is.program) of.rows in
    let there : HasPiece streams stream unit piece = subst (λ (n : ℕ). piece < length (pieces_at streams n unit)) (sym number) here in
    (omega (arith, stream-there streams stream unit piece there, streams-count 0 job.programs programs of.versions choice of.are_versions ready.out), pieces stream unit piece there)
sent-there job programs table choice has of fits ready pieces (Audio stream packet) is =
    let streams = stream_items programs of.versions choice in
    let rows = program_rows job.programs programs of.versions in
    let row : slice_get rows is.program ≡ Some is.row = subst (λ (r : List ProgramRow). slice_get r is.program ≡ Some is.row) of.rows is.row_is in
    let number : stream ≡ video_number rows is.program + 1 + is.audio = is.number ∙ ap (λ (r : List ProgramRow). video_number r is.program + 1 + is.audio) of.rows in
    let there : HasPiece streams stream packet 0 =
    audio-packet-has job.programs programs of.versions choice is.program stream is.audio packet is.row is.packets is.packet row is.packets_are number is.packet_is in
    (omega (arith, stream-there streams stream packet 0 there, streams-count 0 job.programs programs of.versions choice of.are_versions ready.out), pieces stream packet 0 there)

-- what stands in the slots of a schedule names the table
abbrev pub SlotsNameTable : Table → List ℕ → SlotList → Type 0
SlotsNameTable table choice slots = (n : ℕ) (sent : Sent) → slice_get slots.rows n ≡ Some sent → IsOfTable table choice sent

-- the rows of a job's schedule are of the layout of its stream
pub rows-there : (job : Job) (programs : List Program) (table : Table) (choice : List ℕ) (slots : SlotList) (has : (stream item piece : ℕ) → Type 0)
    (of : IsTableOf job programs table) → Fits table choice → AreReady job.programs programs
    → ((stream item piece : ℕ) → HasPiece (stream_items programs of.versions choice) stream item piece → has stream item piece)
    → SlotsNameTable table choice slots → All (IsOfLayout (layout_of job programs) has) slots.rows
rows-there job programs table choice slots has of fits ready pieces named =
    λ k d within. sent-there job programs table choice has of fits ready pieces (get_or slots.rows k d) (named k (get_or slots.rows k d) (slice_get-get_or slots.rows k d within))

-- there is a row in each slot
pub one-row-each : (table : Table) (choice : List ℕ) (slots : SlotList) → IsSlotList table choice slots → length slots.rows ≡ slots.slots
one-row-each table choice slots is = ap length is.rows_are ∙ length-map is.rows (sent_of (queues_of table choice)) ∙ is.one_each
