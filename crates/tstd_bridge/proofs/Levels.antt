-- The queues of a valid table: each video has a vbv buffer of Main level.
use Rattle.std.proofs.Common.{◌≡◌, ℕ, ◌+◌, ◌≤◌, List, [], ◌∷◌, length, map, drop, slice_get, Some, All}
use Rattle.std.proofs.lemmas.List.Elements.{All-nil, All-cons, All-append, All-head, All-tail}
use Rattle.stream_constants.specs.declared.main_level.TheConstants.{VBV_MOST}
use Rattle.version_table.specs.declared.table.AudioPacket.{AudioPacket}
use Rattle.version_table.specs.declared.table.ProgramRow.{ProgramRow}
use Rattle.version_table.specs.declared.table.Table.{Table}
use Rattle.version_table.specs.Table.{IsValidTable, IsValidProgram}
use Rattle.slot_rule.specs.declared.queue_kind.QueueKind.TheVariants.{Video}
use Rattle.slot_rule.specs.declared.queued_packet.QueuedPacket.{QueuedPacket}
use Rattle.slot_rule.specs.Queues.{Queue, audio_of, video_queue, queues_from, queues_of}
use Rattle.slot_rule.proofs.Places.{All-at_place}
use Rattle.tstd_model.specs.Decoder.{IsInLevel}
use Rattle.tstd_bridge.specs.Arrivals.{buffers_of}

abbrev KeepsLevel : Queue → Type 0
KeepsLevel queue = IsInLevel (buffers_of queue.kind)

audio_levels : (audios : List (List AudioPacket)) → All KeepsLevel (map audio_of audios)
audio_levels [] = All-nil KeepsLevel
audio_levels (packets ∷ audios) = All-cons KeepsLevel (audio_of packets) (map audio_of audios) tt (audio_levels audios)

levels_from : (slot program : ℕ) (rows : List ProgramRow) (choice : List ℕ) → All (IsValidProgram slot) rows → All KeepsLevel (queues_from program rows choice)
levels_from slot program [] choice valid = All-nil KeepsLevel
levels_from slot program (row ∷ rows) choice valid =
    let here : IsValidProgram slot row = All-head (IsValidProgram slot) row rows valid in
    All-append KeepsLevel (video_queue program row choice ∷ map audio_of row.audios) (queues_from (program + 1) rows (drop (length row.units) choice))
    (All-cons KeepsLevel (video_queue program row choice) (map audio_of row.audios) here.vbv (audio_levels row.audios))
    (levels_from slot (program + 1) rows (drop (length row.units) choice) (All-tail (IsValidProgram slot) row rows valid))

pub video_level : (table : Table) (choice : List ℕ) (stream program vbv : ℕ) (packets : List QueuedPacket) → IsValidTable table
    → slice_get (queues_of table choice) stream ≡ Some (record { kind = Video program vbv; packets = packets }) → vbv ≤ VBV_MOST
video_level table choice stream program vbv packets valid there =
    All-at_place KeepsLevel (queues_of table choice) (levels_from table.slot 0 table.programs choice valid.programs) stream (record { kind = Video program vbv; packets = packets }) there
