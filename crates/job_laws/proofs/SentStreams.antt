-- Each queue of a job's table sends the items of its stream.
use Rattle.std.proofs.Common.{◌≡◌, ℕ, zero, suc, ◌+◌, ◌<◌, ◌≤◌, List, [], ◌∷◌, ◌++◌, length, get_or, map, drop, Some, refl, sym, ap, ap₂, subst, ◌∙◌, arith, length-append}
use Rattle.std.specs.Prelude.{slice_get, slice_index_or}
use Rattle.std.specs.List.{AllZip, flat_map, zip}
use Rattle.std.specs.Option.{option_map_or}
use Rattle.std.proofs.lemmas.List.{get_or-map, length-map}
use Rattle.std.proofs.lemmas.Option.{slice_get-get_or}
use Rattle.bit_lists.specs.Payload.{Payload}
use Rattle.pes_units.specs.VideoHeader.{written_pes_header}
use Rattle.pes_units.specs.PesPieces.{pes_pieces}
use Rattle.version_table.specs.declared.table.AudioPacket.{AudioPacket}
use Rattle.version_table.specs.declared.table.ProgramRow.{ProgramRow}
use Rattle.version_table.specs.declared.table.Table.{Table}
use Rattle.version_table.specs.declared.table.Unit.{Unit as CodedUnit}
use Rattle.version_table.specs.Choice.{Fits, HasVersion, version_at}
use Rattle.slot_rule.specs.Queues.{Queue, audio_of, payloads, queues_from, queues_of, video_queue}
use Rattle.job_report.specs.declared.job.Job.{Job}
use Rattle.job_report.specs.declared.job.ProgramJob.{ProgramJob}
use Rattle.program_reader.specs.Carry.{unit_weight}
use Rattle.program_reader.specs.declared.program.AudioPiece.{AudioPiece}
use Rattle.program_reader.specs.declared.program.AudioSource.{AudioSource}
use Rattle.program_reader.specs.declared.program.Program.{Program}
use Rattle.program_reader.specs.declared.program.UnitSource.{UnitSource}
use Rattle.version_maker.specs.declared.version.UnitVersion.{UnitVersion}
use Rattle.version_source.specs.Pieces.{audio_items, audio_payload, pes_packet, stream_items, video_items}
use Rattle.version_source.specs.Versions.{AreAllVersions, chosen_bytes, ratios_of}
use Rattle.program_table.specs.Table.{IsTableOf, audio_row, program_row, program_rows, row_version, unit_row, unit_rows}
use Rattle.output_laws.specs.SentItems.{Sends}
use Rattle.job_stream.proofs.NamedVersions.{unit_rows-count}

-- ---- sizes

-- the pieces of a PES packet are as long as the payloads that are queued
abbrev pub AsQueued : Type 0
AsQueued = (packet : List ℕ) → 1 ≤ length packet → map (λ (piece : Payload). length piece.bytes) (pes_pieces packet) ≡ payloads (length packet)

no_version : UnitVersion
no_version = record { bytes = []; distortion = 0 }

packet-size : (weight : ℕ) (unit : UnitSource) (versions : List UnitVersion) (k : ℕ) → k < length versions
    → length (pes_packet unit (chosen_bytes versions k)) ≡ (version_at (unit_row weight unit versions) k).bytes
packet-size weight unit versions k within =
    let chosen : chosen_bytes versions k ≡ (get_or versions k no_version).bytes =
    ap (λ found. option_map_or (λ (version : UnitVersion). version.bytes) found []) (slice_get-get_or versions k no_version within) in
    let row : version_at (unit_row weight unit versions) k ≡ row_version weight unit (get_or versions k no_version) =
    get_or-map (row_version weight unit) versions k no_version (record { bytes = 0; distortion = 0 }) within in
    length-append (written_pes_header unit.times) (chosen_bytes versions k)
    ∙ ap (λ (bytes : List ℕ). length (written_pes_header unit.times) + length bytes) chosen ∙ sym (ap (λ version. version.bytes) row)

unit-pieces : AsQueued → (weight : ℕ) (unit : UnitSource) (versions : List UnitVersion) (k : ℕ) → k < length (map (row_version weight unit) versions)
    → length (pes_pieces (pes_packet unit (chosen_bytes versions k))) ≡ length (payloads (version_at (unit_row weight unit versions) k).bytes)
unit-pieces queued weight unit versions k within =
    let packet : List ℕ = pes_packet unit (chosen_bytes versions k) in
    let inside : k < length versions = omega (arith, within, length-map versions (row_version weight unit)) in
    sym (length-map (pes_pieces packet) (λ (piece : Payload). length piece.bytes)) ∙ ap length (queued packet (omega arith))
    ∙ ap (λ (bytes : ℕ). length (payloads bytes)) (packet-size weight unit versions k inside)

video-sizes : AsQueued → (weight drift : ℕ) (units : List UnitSource) (versions : List (List UnitVersion)) (choice : List ℕ) (more : List CodedUnit)
    → AllZip HasVersion (unit_rows weight drift units versions ++ more) choice
    → map (λ (pieces : List Payload). length pieces) (video_items units versions choice)
    ≡ map (λ (chosen : CodedUnit × ℕ). length (payloads (version_at chosen.0 chosen.1).bytes)) (zip (unit_rows weight drift units versions) choice)
video-sizes queued weight drift [] versions choice more fits = refl
video-sizes queued weight drift (unit ∷ units) [] choice more fits = refl
video-sizes queued weight drift (unit ∷ units) (v ∷ vs) [] more fits = refl
video-sizes queued weight drift (unit ∷ units) (v ∷ vs) (k ∷ choice) more fits =
    ap₂ (λ (n : ℕ) (sizes : List ℕ). n ∷ sizes) (unit-pieces queued (unit_weight weight drift unit units) unit v k fits.0) (video-sizes queued weight drift units vs choice more fits.1)

audio-sizes : (bytes : List ℕ) (pieces : List AudioPiece)
    → map (λ (pieces : List Payload). length pieces) (map (λ (piece : AudioPiece). audio_payload bytes piece ∷ []) pieces)
    ≡ map (λ (packet : AudioPacket). 1) (map (λ (piece : AudioPiece). piece.packet) pieces)
audio-sizes bytes [] = refl
audio-sizes bytes (piece ∷ pieces) = ap (λ (sizes : List ℕ). 1 ∷ sizes) (audio-sizes bytes pieces)

-- ---- queues and items side by side

abbrev AllSend : List Queue → List (List (List Payload)) → Type 0
AllSend [] [] = Unit {0}
AllSend [] (_ ∷ _) = ⊥
AllSend (_ ∷ _) [] = ⊥
AllSend (queue ∷ queues) (items ∷ streams) = Sends queue items × AllSend queues streams

send-both : (queues more : List Queue) (streams others : List (List (List Payload))) → AllSend queues streams → AllSend more others → AllSend (queues ++ more) (streams ++ others)
send-both [] more [] others send rest = rest
send-both [] more (_ ∷ _) others send rest = absurd send
send-both (_ ∷ _) more [] others send rest = absurd send
send-both (queue ∷ queues) more (items ∷ streams) others send rest = (send.0, send-both queues more streams others send.1 rest)

-- the queue of a stream that has items sends them
pub record SendsAt (queues : List Queue) (streams : List (List (List Payload))) (stream : ℕ) : Type 0 where
  pub queue : Queue
  pub there : slice_get queues stream ≡ Some queue
  pub sends : Sends queue (slice_index_or streams stream [])

sends-at : (queues : List Queue) (streams : List (List (List Payload))) (stream : ℕ) → AllSend queues streams → stream < length streams → SendsAt queues streams stream
sends-at [] [] stream send within = absurd (omega (arith, within))
sends-at [] (_ ∷ _) stream send within = absurd send
sends-at (_ ∷ _) [] stream send within = absurd send
sends-at (queue ∷ queues) (items ∷ streams) zero send within = record { queue = queue; there = refl; sends = send.0 }
sends-at (queue ∷ queues) (items ∷ streams) (suc stream) send within =
    let later = sends-at queues streams stream send.1 (omega (arith, within)) in record { queue = later.queue; there = later.there; sends = later.sends }

-- what is asked of queues: items that have as many pieces as they have packets
abbrev pub VideoSends : Type 0
VideoSends = (program : ℕ) (row : ProgramRow) (choice : List ℕ) (items : List (List Payload))
    → map (λ (pieces : List Payload). length pieces) items ≡ map (λ (chosen : CodedUnit × ℕ). length (payloads (version_at chosen.0 chosen.1).bytes)) (zip row.units choice)
    → Sends (video_queue program row choice) items

abbrev pub AudioSends : Type 0
AudioSends = (packets : List AudioPacket) (items : List (List Payload))
    → map (λ (pieces : List Payload). length pieces) items ≡ map (λ (packet : AudioPacket). 1) packets → Sends (audio_of packets) items

audios-send : AudioSends → (audios : List AudioSource) → AllSend (map audio_of (map audio_row audios)) (map audio_items audios)
audios-send law [] = tt
audios-send law (audio ∷ audios) = (law (audio_row audio) (audio_items audio) (audio-sizes audio.bytes audio.pieces), audios-send law audios)

-- ---- all programs

pub fits-behind : (units more : List CodedUnit) (choice : List ℕ) → AllZip HasVersion (units ++ more) choice → AllZip HasVersion more (drop (length units) choice)
fits-behind [] more choice fits = fits
fits-behind (unit ∷ units) more [] fits = absurd fits
fits-behind (unit ∷ units) more (k ∷ choice) fits = fits-behind units more choice fits.1

all-send : AsQueued → VideoSends → AudioSends → (first : ℕ) (jobs : List ProgramJob) (programs : List Program) (versions : List (List (List UnitVersion))) (choice : List ℕ)
    → AreAllVersions programs (ratios_of jobs) versions → AllZip HasVersion (flat_map (λ (row : ProgramRow). row.units) (program_rows jobs programs versions)) choice
    → AllSend (queues_from first (program_rows jobs programs versions) choice) (stream_items programs versions choice)
all-send queued video audio first [] [] [] choice are fits = tt
all-send queued video audio first [] [] (v ∷ vs) choice are fits = absurd are
all-send queued video audio first [] (p ∷ ps) versions choice are fits = absurd are
all-send queued video audio first (j ∷ js) [] versions choice are fits = absurd are
all-send queued video audio first (j ∷ js) (p ∷ ps) [] choice are fits = absurd are
all-send queued video audio first (j ∷ js) (p ∷ ps) (v ∷ vs) choice are fits =
    let row : ProgramRow = program_row j.weight j.drift p v in
    let later : List CodedUnit = flat_map (λ (row : ProgramRow). row.units) (program_rows js ps vs) in
    let count : length row.units ≡ length p.units = unit_rows-count j.weight j.drift p.video j.coarser.items _ p.units v are.0 in
    let own : AllSend (video_queue first row choice ∷ map audio_of row.audios) (video_items p.units v choice ∷ map audio_items p.audios) =
    (video first row choice (video_items p.units v choice) (video-sizes queued j.weight j.drift p.units v choice later fits), audios-send audio p.audios) in
    let rest = all-send queued video audio (first + 1) js ps vs (drop (length row.units) choice) are.1 (fits-behind row.units later choice fits) in
    send-both (video_queue first row choice ∷ map audio_of row.audios) (queues_from (first + 1) (program_rows js ps vs) (drop (length row.units) choice))
    (video_items p.units v choice ∷ map audio_items p.audios) (stream_items ps vs (drop (length p.units) choice)) own
    (subst (λ (n : ℕ). AllSend (queues_from (first + 1) (program_rows js ps vs) (drop (length row.units) choice)) (stream_items ps vs (drop n choice))) count rest)

pub streams-send : AsQueued → VideoSends → AudioSends → (job : Job) (programs : List Program) (table : Table) (choice : List ℕ) (versions : List (List (List UnitVersion)))
    (of : IsTableOf job programs table)
    → Fits table choice → of.versions ≡ versions → AreAllVersions programs (ratios_of job.programs) versions → (stream : ℕ) → stream < length (stream_items programs versions choice)
    → SendsAt (queues_of table choice) (stream_items programs versions choice) stream
streams-send queued video audio job programs table choice versions of fits same are stream within =
    let rows : table.programs ≡ program_rows job.programs programs versions = of.rows ∙ ap (program_rows job.programs programs) same in
    let fit = subst (λ (rows : List ProgramRow). AllZip HasVersion (flat_map (λ (row : ProgramRow). row.units) rows) choice) rows fits in
    subst (λ (rows : List ProgramRow). SendsAt (queues_from 0 rows choice) (stream_items programs versions choice) stream) (sym rows)
    (sends-at (queues_from 0 (program_rows job.programs programs versions) choice) (stream_items programs versions choice) stream
    (all-send queued video audio 0 job.programs programs versions choice are fit) within)
