-- The pieces of programs in chosen versions, beside the packets that their table has.
use Rattle.std.proofs.Common.{◌≡◌, ℕ, zero, suc, ◌+◌, ◌*◌, ◌<◌, ◌≤◌, List, [], ◌∷◌, ◌++◌, length, map, take, drop, slice_index_or}
use Rattle.std.proofs.Common.{Some, None, refl, sym, ap, subst, ◌∙◌, arith, length-append}
use Rattle.std.specs.Prelude.{slice_get, slice_index}
use Rattle.std.specs.List.{AllZip}
use Rattle.std.proofs.lemmas.List.{drop-drop, drop_at, get_or-append-add, length-map}
use Rattle.std.proofs.lemmas.List.Sums.{sum_by-cons}
use Rattle.std.proofs.lemmas.Option.{none-some, same_Some}
use Rattle.bit_lists.specs.Payload.{Payload}
use Rattle.pes_units.specs.VideoHeader.{written_pes_header}
use Rattle.pes_units.proofs.PesPieces.{piece-within}
use Rattle.job_report.specs.declared.job.ProgramJob.{ProgramJob}
use Rattle.version_table.specs.declared.table.AudioPacket.{AudioPacket}
use Rattle.version_table.specs.declared.table.ProgramRow.{ProgramRow}
use Rattle.version_table.specs.declared.table.Unit.{Unit as CodedUnit}
use Rattle.version_table.specs.Choice.{HasVersion, version_at}
use Rattle.slot_rule.specs.Sent.{choice_from, video_number}
use Rattle.program_reader.specs.Carry.{unit_weight}
use Rattle.program_reader.specs.declared.program.AudioPiece.{AudioPiece}
use Rattle.program_reader.specs.declared.program.AudioSource.{AudioSource}
use Rattle.program_reader.specs.declared.program.Program.{Program}
use Rattle.program_reader.specs.declared.program.UnitSource.{UnitSource}
use Rattle.version_maker.specs.declared.version.UnitVersion.{UnitVersion}
use Rattle.version_source.specs.Pieces.{audio_items, audio_payload, pes_packet, pieces_at, stream_items, video_items}
use Rattle.version_source.specs.Versions.{AreAllVersions, chosen_bytes, ratios_of}
use Rattle.program_table.specs.Table.{audio_row, program_row, program_rows, row_version, unit_row, unit_rows}
use Rattle.job_stream.proofs.NamedVersions.{IsSplit, all_units, unit_rows-count, zip-length, zip-split}

-- ---- a unit

-- a version of a row has the bytes of the PES packet
version-bytes : (weight : ℕ) (unit : UnitSource) (versions : List UnitVersion) (k n : ℕ) → n < (slice_index_or (map (row_version weight unit) versions) k (record { bytes = 0; distortion = 0 })).bytes
    → n < length (pes_packet unit (chosen_bytes versions k))
version-bytes weight unit [] k n below = absurd (omega (arith, below))
version-bytes weight unit (v ∷ vs) zero n below = omega (arith, below, length-append (written_pes_header unit.times) v.bytes)
version-bytes weight unit (v ∷ vs) (suc k) n below = version-bytes weight unit vs k n below

-- a piece of a unit that a row has
unit-has : (weight drift : ℕ) (units : List UnitSource) (versions : List (List UnitVersion)) (choice : List ℕ) (item piece : ℕ) (unit : CodedUnit) → length units ≤ length choice
    → slice_get (unit_rows weight drift units versions) item ≡ Some unit → 184 * piece < (version_at unit (slice_index choice item)).bytes
    → piece < length (slice_index_or (video_items units versions choice) item [])
unit-has weight drift [] versions choice item piece unit enough found within = absurd (none-some unit found)
unit-has weight drift (u ∷ us) [] choice item piece unit enough found within = absurd (none-some unit found)
unit-has weight drift (u ∷ us) (v ∷ vs) [] item piece unit enough found within = absurd (omega (arith, enough))
unit-has weight drift (u ∷ us) (v ∷ vs) (c ∷ cs) zero piece unit enough found within =
    let same : unit_row (unit_weight weight drift u us) u v ≡ unit = same_Some (unit_row (unit_weight weight drift u us) u v) unit found in
    let own : 184 * piece < (version_at (unit_row (unit_weight weight drift u us) u v) c).bytes = subst (λ (x : CodedUnit). 184 * piece < (version_at x c).bytes) (sym same) within in
    piece-within (pes_packet u (chosen_bytes v c)) piece (version-bytes (unit_weight weight drift u us) u v c (184 * piece) own)
unit-has weight drift (u ∷ us) (v ∷ vs) (c ∷ cs) (suc item) piece unit enough found within = unit-has weight drift us vs cs item piece unit (omega (arith, enough)) found within

-- ---- an audio stream

piece-has : (bytes : List ℕ) (pieces : List AudioPiece) (item : ℕ) (packet : AudioPacket) → slice_get (map (λ (piece : AudioPiece). piece.packet) pieces) item ≡ Some packet
    → 0 < length (slice_index_or (map (λ (piece : AudioPiece). audio_payload bytes piece ∷ []) pieces) item [])
piece-has bytes [] item packet found = absurd (none-some packet found)
piece-has bytes (p ∷ ps) zero packet found = omega arith
piece-has bytes (p ∷ ps) (suc item) packet found = piece-has bytes ps item packet found

audio-has : (audios : List AudioSource) (more : List (List (List Payload))) (audio item : ℕ) (packets : List AudioPacket) (packet : AudioPacket)
    → slice_get (map audio_row audios) audio ≡ Some packets → slice_get packets item ≡ Some packet
    → 0 < length (slice_index_or (slice_index_or (map audio_items audios ++ more) audio []) item [])
audio-has [] more audio item packets packet row found = absurd (none-some packets row)
audio-has (a ∷ others) more zero item packets packet row found =
    piece-has a.bytes a.pieces item packet (subst (λ (x : List AudioPacket). slice_get x item ≡ Some packet) (sym (same_Some (audio_row a) packets row)) found)
audio-has (a ∷ others) more (suc audio) item packets packet row found = audio-has others more audio item packets packet row found

-- ---- a program behind others

-- the streams behind those of a first program have their places behind
behind-block : (block more : List (List (List Payload))) (n at item piece : ℕ) → at ≡ length block + n → piece < length (pieces_at more n item)
    → piece < length (pieces_at (block ++ more) at item)
behind-block block more n at item piece is within =
    subst (λ (items : List (List Payload)). piece < length (slice_index_or items item []))
    (sym (ap (λ (k : ℕ). slice_index_or (block ++ more) k []) is ∙ get_or-append-add block more n [])) within

block-length : (program : Program) (versions : List (List UnitVersion)) (choice : List ℕ)
    → length (video_items program.units versions choice ∷ map audio_items program.audios) ≡ suc (length program.audios)
block-length program versions choice = ap suc (length-map program.audios audio_items)

-- the video of a program has the number behind those of the programs before it
number-behind : (weight drift : ℕ) (p : Program) (v : List (List UnitVersion)) (choice : List ℕ) (rows : List ProgramRow) (program : ℕ)
    → video_number (program_row weight drift p v ∷ rows) (suc program) ≡ length (video_items p.units v choice ∷ map audio_items p.audios) + video_number rows program
number-behind weight drift p v choice rows program =
    sum_by-cons (λ (row : ProgramRow). suc (length row.audios)) (program_row weight drift p v) (take program rows)
    ∙ ap (λ (n : ℕ). n + video_number rows program) (ap suc (length-map p.audios audio_row) ∙ sym (block-length p v choice))

-- the version numbers of a program stand behind those of the programs before it
choice-behind : (weight drift : ℕ) (p : Program) (v : List (List UnitVersion)) (rows : List ProgramRow) (program : ℕ) (choice : List ℕ) → length (unit_rows weight drift p.units v) ≡ length p.units
    → choice_from (program_row weight drift p v ∷ rows) (suc program) choice ≡ choice_from rows program (drop (length p.units) choice)
choice-behind weight drift p v rows program choice count =
    ap (λ (n : ℕ). drop n choice) (length-append (unit_rows weight drift p.units v) (all_units (take program rows)) ∙ ap (λ (n : ℕ). n + length (all_units (take program rows))) count)
    ∙ sym (drop-drop (length (all_units (take program rows))) (length p.units) choice)

-- the version numbers behind those of a program fit the units behind
fits-behind : (xs more : List CodedUnit) (choice : List ℕ) (n : ℕ) → length xs ≡ n → AllZip HasVersion (xs ++ more) choice → (n ≤ length choice) × AllZip HasVersion more (drop n choice)
fits-behind xs more choice n count fits =
    let split : IsSplit HasVersion xs more choice = zip-split HasVersion xs more choice fits in
    let own : length split.own ≡ n = sym (zip-length HasVersion xs split.own split.first) ∙ count in (
      omega (arith, own, ap length split.parts, length-append split.own split.rest),
      subst (AllZip HasVersion more) (sym (ap (drop n) split.parts ∙ dropped split.own split.rest n own)) split.second,
    )
  where
    dropped : (own rest : List ℕ) (n : ℕ) → length own ≡ n → drop n (own ++ rest) ≡ rest
    dropped own rest n is = drop_at own rest n is

-- each piece that the table of programs has is a piece of theirs
pub video-has : (jobs : List ProgramJob) (programs : List Program) (versions : List (List (List UnitVersion))) (choice : List ℕ) (program item piece : ℕ) (row : ProgramRow) (unit : CodedUnit)
    → AreAllVersions programs (ratios_of jobs) versions → AllZip HasVersion (all_units (program_rows jobs programs versions)) choice
    → slice_get (program_rows jobs programs versions) program ≡ Some row → slice_get row.units item ≡ Some unit
    → 184 * piece < (version_at unit (slice_index (choice_from (program_rows jobs programs versions) program choice) item)).bytes
    → piece < length (pieces_at (stream_items programs versions choice) (video_number (program_rows jobs programs versions) program) item)
video-has [] programs versions choice program item piece row unit are fits found of within = absurd (none-some row found)
video-has (j ∷ js) [] versions choice program item piece row unit are fits found of within = absurd (none-some row found)
video-has (j ∷ js) (p ∷ ps) [] choice program item piece row unit are fits found of within = absurd (none-some row found)
video-has (j ∷ js) (p ∷ ps) (v ∷ vs) choice zero item piece row unit are fits found of within =
    let same : program_row j.weight j.drift p v ≡ row = same_Some (program_row j.weight j.drift p v) row found in
    let count : length (unit_rows j.weight j.drift p.units v) ≡ length p.units = unit_rows-count j.weight j.drift p.video j.coarser.items None p.units v are.0 in
    let enough = fits-behind (unit_rows j.weight j.drift p.units v) (all_units (program_rows js ps vs)) choice (length p.units) count fits in
    unit-has j.weight j.drift p.units v choice item piece unit enough.0 (subst (λ (r : ProgramRow). slice_get r.units item ≡ Some unit) (sym same) of) within
video-has (j ∷ js) (p ∷ ps) (v ∷ vs) choice (suc program) item piece row unit are fits found of within =
    let count : length (unit_rows j.weight j.drift p.units v) ≡ length p.units = unit_rows-count j.weight j.drift p.video j.coarser.items None p.units v are.0 in
    let rows = program_rows js ps vs in
    let later = drop (length p.units) choice in
    let enough = fits-behind (unit_rows j.weight j.drift p.units v) (all_units rows) choice (length p.units) count fits in
    let there : 184 * piece < (version_at unit (slice_index (choice_from rows program later) item)).bytes =
    subst (λ (c : List ℕ). 184 * piece < (version_at unit (slice_index c item)).bytes) (choice-behind j.weight j.drift p v rows program choice count) within in
    behind-block (video_items p.units v choice ∷ map audio_items p.audios) (stream_items ps vs later) (video_number rows program)
    (video_number (program_row j.weight j.drift p v ∷ rows) (suc program)) item piece
    (number-behind j.weight j.drift p v choice rows program) (video-has js ps vs later program item piece row unit are.1 enough.1 found of there)

-- and so is each audio packet
pub audio-packet-has : (jobs : List ProgramJob) (programs : List Program) (versions : List (List (List UnitVersion))) (choice : List ℕ) (program stream audio item : ℕ) (row : ProgramRow)
    (packets : List AudioPacket) (packet : AudioPacket) → slice_get (program_rows jobs programs versions) program ≡ Some row → slice_get row.audios audio ≡ Some packets
    → stream ≡ video_number (program_rows jobs programs versions) program + 1 + audio → slice_get packets item ≡ Some packet
    → 0 < length (pieces_at (stream_items programs versions choice) stream item)
audio-packet-has [] programs versions choice program stream audio item row packets packet found of is at = absurd (none-some row found)
audio-packet-has (j ∷ js) [] versions choice program stream audio item row packets packet found of is at = absurd (none-some row found)
audio-packet-has (j ∷ js) (p ∷ ps) [] choice program stream audio item row packets packet found of is at = absurd (none-some row found)
audio-packet-has (j ∷ js) (p ∷ ps) (v ∷ vs) choice zero stream audio item row packets packet found of is at =
    let same : program_row j.weight j.drift p v ≡ row = same_Some (program_row j.weight j.drift p v) row found in
    let place : suc audio ≡ stream = omega (arith, is) in
    subst (λ (n : ℕ). 0 < length (pieces_at (stream_items (p ∷ ps) (v ∷ vs) choice) n item)) place
    (audio-has p.audios (stream_items ps vs (drop (length p.units) choice)) audio item packets packet
    (subst (λ (r : ProgramRow). slice_get r.audios audio ≡ Some packets) (sym same) of) at)
audio-packet-has (j ∷ js) (p ∷ ps) (v ∷ vs) choice (suc program) stream audio item row packets packet found of is at =
    let rows = program_rows js ps vs in
    let later = drop (length p.units) choice in
    let number = number-behind j.weight j.drift p v choice rows program in
    behind-block (video_items p.units v choice ∷ map audio_items p.audios) (stream_items ps vs later) (video_number rows program + 1 + audio) stream item 0
    (omega (arith, is, number)) (audio-packet-has js ps vs later program (video_number rows program + 1 + audio) audio item row packets packet found of refl at)
