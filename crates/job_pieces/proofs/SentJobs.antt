-- The lanes of a job, by the laws of its programs and files.
use Rattle.std.proofs.Common.{◌≡◌, ℕ, List, All, Option, Some, None, ap, subst, sym, ◌∙◌}
use Rattle.shelf_io.specs.Files.{Files}
use Rattle.bit_lists.specs.Payload.{Payload}
use Rattle.version_table.specs.declared.table.ProgramRow.{ProgramRow}
use Rattle.version_table.specs.declared.table.Table.{Table}
use Rattle.slot_rule.specs.declared.slot_list.SlotList.{SlotList}
use Rattle.mux_writer.specs.Output.{IsOfLayout, output_stream}
use Rattle.job_report.specs.declared.job.Job.{Job}
use Rattle.program_reader.specs.declared.program.Program.{Program}
use Rattle.version_maker.specs.declared.version.UnitVersion.{UnitVersion}
use Rattle.version_source.specs.Pieces.{pieces_of, stream_items}
use Rattle.version_source.specs.Versions.{AreAllVersions, ratios_of}
use Rattle.program_table.specs.Table.{program_rows}
use Rattle.job_stream.specs.Stream.{IsStreamIn, layout_of}
use Rattle.job_stream.proofs.ReadPrograms.{AreReady, ReadIsSendable, read-ready}
use Rattle.job_stream.proofs.RowLemmas.{SlotsNameTable, rows-there}
use Rattle.file_pieces.specs.declared.lane.Lane.{Lane}
use Rattle.file_pieces.specs.FilePieces.{AreHeld, AreLanesVersions, HaveLanesVersions, LanesHave, lanes_items}
use Rattle.file_pieces.specs.Private.OneVersions.{one-lanes}
use Rattle.job_pieces.specs.JobLanes.{AreJobLanes, CanBeSent}
use Rattle.job_pieces.proofs.AllPrograms.{AreReadyAll, Sends, all_have, all_held, all_send, have_piece, ready_all}
use Rattle.job_pieces.proofs.OneProgram.{HoldAudios, HoldVideos, SendAudios, SendVideos}

module _ (sendable : ReadIsSendable) (told : Option Files) (job : Job) (programs : List Program) (table : Table) (choice : List ℕ) (lanes : List Lane) (can : CanBeSent told job programs table choice)
    (are : AreJobLanes job.programs programs table.programs choice lanes) where
  ready : AreReady job.programs programs
  ready = read-ready sendable job programs can.programs_are.read

  all_ready : AreReadyAll told job.start job.programs programs can.table_is.versions choice
  all_ready = ready_all told job programs table choice can.programs_are ready.sendable ready.out can.pids can.forms can.table_is can.fits

  by_rows : AreJobLanes job.programs programs (program_rows job.programs programs can.table_is.versions) choice lanes
  by_rows = subst (λ (rows : List ProgramRow). AreJobLanes job.programs programs rows choice lanes) can.table_is.rows are

  pub job_held : HoldVideos → HoldAudios → AreHeld told lanes
  job_held videos audios = all_held videos audios told job.start job.programs programs can.table_is.versions choice lanes all_ready by_rows

  pub job_rows : (slots : SlotList) → SlotsNameTable table choice slots → All (IsOfLayout (layout_of job programs) (LanesHave lanes)) slots.rows
  job_rows slots named =
      rows-there job programs table choice slots (LanesHave lanes) can.table_is can.fits ready
      (have_piece lanes (stream_items programs can.table_is.versions choice) (all_have told job.start job.programs programs can.table_is.versions choice lanes all_ready by_rows)) named

job_sends : ReadIsSendable → SendVideos → SendAudios → (files : Files) (job : Job) (programs : List Program) (table : Table) (choice : List ℕ) (lanes : List Lane)
    (can : CanBeSent (Some files) job programs table choice) → AreJobLanes job.programs programs table.programs choice lanes
    → Sends files lanes (stream_items programs can.table_is.versions choice)
job_sends sendable videos audios files job programs table choice lanes can are =
    all_send videos audios files job.start job.programs programs can.table_is.versions choice lanes
    (all_ready sendable (Some files) job programs table choice lanes can are) (by_rows sendable (Some files) job programs table choice lanes can are)

pub job_versions : ReadIsSendable → SendVideos → SendAudios → (told : Option Files) (job : Job) (programs : List Program) (table : Table) (choice : List ℕ) (lanes : List Lane)
    → CanBeSent told job programs table choice → AreJobLanes job.programs programs table.programs choice lanes → HaveLanesVersions told lanes
job_versions sendable videos audios None job programs table choice lanes can are = tt
job_versions sendable videos audios (Some files) job programs table choice lanes can are =
    let sends = job_sends sendable videos audios files job programs table choice lanes can are in (sends.versions, ∣ sends.are ∣₁)

-- there is one list of the versions of programs
abbrev pub HaveOne : Type 0
HaveOne = (programs : List Program) (ratios : List (List ℕ)) (a b : List (List (List UnitVersion))) → AreAllVersions programs ratios a → AreAllVersions programs ratios b → a ≡ b

pub job_stream : HaveOne → ReadIsSendable → SendVideos → SendAudios → (files : Files) (job : Job) (programs : List Program) (table : Table) (choice : List ℕ) (lanes : List Lane) (slots : SlotList)
    (versions : List (List (List UnitVersion))) (stream : List ℕ) → CanBeSent (Some files) job programs table choice → AreJobLanes job.programs programs table.programs choice lanes
    → AreLanesVersions files lanes versions → IsStreamIn job programs choice slots stream
    → stream ≡ output_stream (layout_of job programs) job.slot (pieces_of (lanes_items files lanes versions)) slots.rows
job_stream one sendable videos audios files job programs table choice lanes slots versions stream can are lanes_are is =
    let sends = job_sends sendable videos audios files job programs table choice lanes can are in
    let same : is.versions ≡ can.table_is.versions = one programs (ratios_of job.programs) is.versions can.table_is.versions is.are_versions can.table_is.are_versions in
    let those : sends.versions ≡ versions = one-lanes files lanes sends.versions versions sends.are lanes_are in
    is.stream_is
    ∙ ap (λ (items : List (List (List Payload))). output_stream (layout_of job programs) job.slot (pieces_of items) slots.rows)
    (ap (λ (vs : List (List (List UnitVersion))). stream_items programs vs choice) same ∙ sym sends.items ∙ ap (lanes_items files lanes) those)
