-- The bytes of a job's stream are clean.
use Rattle.std.proofs.Common.{◌≡◌, ℕ, zero, suc, ◌*◌, ◌/◌, ◌<◌, ◌≤◌, List, [], ◌∷◌, All, length, map, drop, Some, refl, sym, ap, ◌∙◌, arith}
use Rattle.ts_packets.specs.TransportStream.{packets, rest_of}
use Rattle.version_table.specs.declared.table.Table.{Table}
use Rattle.version_table.specs.Choice.{Fits}
use Rattle.version_table.specs.Table.{IsValidTable}
use Rattle.slot_rule.specs.declared.row.Row.{Row}
use Rattle.slot_rule.specs.declared.sent.Sent.TheVariants.{Pat, Pmt}
use Rattle.slot_rule.specs.declared.slot_list.SlotList.{SlotList}
use Rattle.slot_rule.specs.Queues.{queues_of}
use Rattle.slot_rule.specs.Schedule.{IsSchedule}
use Rattle.tstd_bridge.specs.Clean.{AreClean}
use Rattle.mux_writer.specs.Layout.{IsLayout}
use Rattle.mux_writer.specs.Output.{IsOfLayout, output_packets, output_stream}
use Rattle.mux_writer.specs.Pieces.{HasPayloadSize}
use Rattle.mux_writer.proofs.Written.{packet-writable, read-as-written}
use Rattle.job_report.specs.declared.job.Job.{Job}
use Rattle.program_reader.specs.declared.program.Program.{Program}
use Rattle.version_maker.specs.declared.version.UnitVersion.{UnitVersion}
use Rattle.version_source.specs.Pieces.{HasPiece, pieces_of, stream_items}
use Rattle.version_source.specs.Versions.{ratios_of}
use Rattle.program_table.specs.Table.{IsTableOf}
use Rattle.job_stream.specs.Stream.{IsStreamIn, layout_of}
use Rattle.job_stream.proofs.LayoutLemmas.{maps-count}
use Rattle.job_stream.proofs.PieceSizes.{pieces-sized}
use Rattle.job_stream.proofs.ReadPrograms.{AreReady}
use Rattle.job_stream.proofs.RowLemmas.{SlotsNameTable, program_rows-count, rows-there}
use Rattle.job_stream.proofs.StreamSize.{is-layout}
use Rattle.clean_laws.specs.Clean.{IsCleanStream}
use Rattle.clean_laws.proofs.SectionsBrought.{AreSections}
use Rattle.clean_laws.proofs.Pids.{no-map, no-pat}
use Rattle.clean_laws.proofs.Cleanness.{IsMade, audio-clean, sections-clean, video-clean}
use Rattle.program_table.proofs.Rows.{HaveOneList}

-- a schedule is clean
abbrev pub SchedulesAreClean : Type 0
SchedulesAreClean = (table : Table) (choice : List ℕ) (rows : List Row) → IsValidTable table → Fits table choice → IsSchedule table choice rows → AreClean table choice rows

dropped : {A : Type 0} (n : ℕ) (xs : List A) → length xs ≤ n → drop n xs ≡ []
dropped zero [] past = refl
dropped (suc n) [] past = refl
dropped zero (x ∷ xs) past = absurd (omega (arith, past))
dropped (suc n) (x ∷ xs) past = dropped n xs (omega (arith, past))

whole-packets : (bytes : List ℕ) (slots : ℕ) → length bytes ≡ 188 * slots → rest_of bytes ≡ []
whole-packets bytes slots size = dropped (188 * (length bytes / 188)) bytes (omega (arith, size))

-- what a job's stream is made of, as far as its bytes are concerned
pub record IsReady (job : Job) (programs : List Program) (table : Table) (choice : List ℕ) (slots : SlotList) (of : IsTableOf job programs table) : Type 0 where
  pub few : length job.programs ≤ 8
  pub ready : AreReady job.programs programs
  pub made : IsMade job programs table choice of.versions slots
  pub named : SlotsNameTable table choice slots

module _ (job : Job) (programs : List Program) (table : Table) (choice : List ℕ) (slots : SlotList) (of : IsTableOf job programs table) (is : IsReady job programs table choice slots of) where
  -- the items of its streams
  abbrev Has : (stream item piece : ℕ) → Type 0
  Has stream item piece = HasPiece (stream_items programs of.versions choice) stream item piece

  few-programs : length programs ≤ 8
  few-programs = let r = is.ready in omega (arith, is.few, r.as_many)

  a-layout : IsLayout (layout_of job programs)
  a-layout = is-layout job programs few-programs is.ready.as_many is.ready.out

  few-maps : length (layout_of job programs).maps.items ≤ 8
  few-maps = omega (arith, few-programs, maps-count 0 job.programs programs is.ready.as_many)

  sized : (stream item piece : ℕ) → Has stream item piece → HasPayloadSize (length (pieces_of (stream_items programs of.versions choice) stream item piece).bytes)
  sized = pieces-sized programs of.versions choice is.ready.sendable

  of-layout : All (IsOfLayout (layout_of job programs) Has) slots.rows
  of-layout = rows-there job programs table choice slots Has of is.made.fits is.ready (λ s i p there. there) is.named

  -- the stream's bytes are read as its packets
  pub stream-read : (one : HaveOneList) (stream : List ℕ) → IsStreamIn job programs choice slots stream
      → packets stream ≡ map Some (output_packets (layout_of job programs) job.slot (pieces_of (stream_items programs of.versions choice)) slots.rows)
  stream-read one stream in_slots =
      ap packets
      (in_slots.stream_is
      ∙ ap (λ (versions : List (List (List UnitVersion))). output_stream (layout_of job programs) job.slot (pieces_of (stream_items programs versions choice)) slots.rows)
      (one programs (ratios_of job.programs) in_slots.versions of.versions in_slots.are_versions of.are_versions))
      ∙ read-as-written (layout_of job programs) Has job.slot (pieces_of (stream_items programs of.versions choice)) slots.rows a-layout few-maps sized of-layout

  as-many-maps : length (layout_of job programs).maps.items ≡ length table.programs
  as-many-maps = maps-count 0 job.programs programs is.ready.as_many ∙ sym (ap length of.rows ∙ program_rows-count job.programs programs of.versions of.are_versions)

  sections-fill : AreSections (queues_of table choice) (layout_of job programs) (length table.programs)
  sections-fill = record {
    pat = (packet-writable (layout_of job programs) Has job.slot (pieces_of (stream_items programs of.versions choice)) 0 0 Pat a-layout few-maps sized tt).payload;
    pmts = λ program inside.
        (packet-writable (layout_of job programs) Has job.slot (pieces_of (stream_items programs of.versions choice)) 0 0 (Pmt program) a-layout few-maps sized
        (let e : program < length (layout_of job programs).maps.items = omega (arith, inside, as-many-maps) in e)).payload;
    no_pat = no-pat job programs table choice of.versions is.made.valid is.ready.out of.rows;
    no_map = no-map job programs table choice of.versions is.made.valid is.ready.out of.rows;
  }

  pub stream-clean : (one : HaveOneList) (stream : List ℕ) → IsStreamIn job programs choice slots stream → length stream ≡ 188 * slots.slots → IsCleanStream table choice stream
  stream-clean one stream in_slots size = record {
    stream = output_packets (layout_of job programs) job.slot (pieces_of (stream_items programs of.versions choice)) slots.rows;
    read = stream-read one stream in_slots;
    whole = whole-packets stream slots.slots size;
    videos = λ program row there. video-clean job programs table choice of.versions slots is.made program row there;
    audios = λ program audio row audio_packets there found. audio-clean job programs table choice of.versions slots is.made program audio row audio_packets there found;
    sections = λ program inside fault found. sections-clean job programs table choice of.versions slots is.made sections-fill program inside fault found;
  }
