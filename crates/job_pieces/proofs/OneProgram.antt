-- The lanes of one program of a job: that they can be sent, and what they send.
use Rattle.std.proofs.Common.{◌≡◌, ℕ, zero, suc, ◌+◌, ◌-◌, ◌<◌, ◌≤◌, List, [], ◌∷◌, All, length, map, take, drop, slice_get, slice_index}
use Rattle.std.proofs.Common.{slice_index_or, Option, Some, None, IfSome, refl, ap, ap₂, subst, sym, ◌∙◌, arith, length-append}
use Rattle.std.specs.List.{AllZip, range_with_len}
use Rattle.std.proofs.lemmas.List.{length-map}
use Rattle.std.proofs.lemmas.List.Elements.{All-head, All-tail, All-weaker}
use Rattle.std.proofs.lemmas.List.FromFn.{length-range_with_len}
use Rattle.std.proofs.lemmas.Option.{none-some, same_Some}
use Rattle.shelf_io.specs.Files.{Files, content_of}
use Rattle.bit_lists.specs.Payload.{Payload as Carried}
use Rattle.pes_units.specs.PesPieces.{packets_for, pes_pieces, piece_of}
use Rattle.pes_units.specs.VideoHeader.{written_pes_header}
use Rattle.job_report.specs.declared.job.Form.TheVariants.{Ts}
use Rattle.job_report.specs.declared.job.ProgramJob.{ProgramJob}
use Rattle.version_table.specs.declared.table.Unit.{Unit as CodedUnit}
use Rattle.version_table.specs.Choice.{HasVersion, version_at}
use Rattle.program_reader.specs.Carry.{unit_weight}
use Rattle.program_reader.specs.declared.limits.TheConstants.{FILE_BYTES_MOST}
use Rattle.program_reader.specs.declared.program.AudioPiece.{AudioPiece}
use Rattle.program_reader.specs.declared.program.AudioSource.{AudioSource}
use Rattle.program_reader.specs.declared.program.Program.{Program}
use Rattle.program_reader.specs.declared.program.UnitSource.{UnitSource}
use Rattle.program_reader.specs.declared.timed_picture.Role.TheVariants.{Frame}
use Rattle.program_reader.specs.Programs.{IsProgramOfFile}
use Rattle.version_maker.specs.declared.version.UnitVersion.{UnitVersion}
use Rattle.version_source.specs.Pieces.{audio_items, audio_payload, pes_packet, video_items}
use Rattle.version_source.specs.Sendable.{IsPieceOf, IsSendable, IsUnitOf}
use Rattle.version_source.specs.Versions.{AreVideoVersions, chosen_bytes}
use Rattle.es_window.specs.declared.held_part.HeldPart.TheVariants.{Packet, Payload}
use Rattle.file_pieces.specs.declared.lane.AudioLane.{AudioLane}
use Rattle.file_pieces.specs.declared.lane.Lane.{Lane}
use Rattle.file_pieces.specs.declared.lane.Lane.TheVariants.{Audio, Video}
use Rattle.file_pieces.specs.declared.lane.VideoLane.{VideoLane}
use Rattle.file_pieces.specs.declared.limits.TheConstants.{READ_MOST}
use Rattle.file_pieces.specs.declared.program_lanes.SentProgram.{SentProgram}
use Rattle.file_pieces.specs.declared.stream_place.StreamPlace.{StreamPlace}
use Rattle.file_pieces.specs.FilePieces.{AreHeld, AreLanesVersions, IsHeld, LaneHas, file_in, lane_items, lanes_items}
use Rattle.file_pieces.specs.FileStream.{IsStreamPlace, bytes_of, file_of}
use Rattle.file_pieces.specs.Lane.{HoldsAudio, HoldsVideo, IsAudioLane, IsPiecePlace, IsUnitPlace, IsVideoLane, planned_size, unit_at}
use Rattle.file_pieces.specs.LaneState.{AreVersionsIn}
use Rattle.file_pieces.specs.OfFile.{IsPlannedVideo, IsStreamOf}
use Rattle.file_pieces.specs.ProgramLanes.{AreLanesFrom, IsLaneOf, IsPlaceIn}
use Rattle.file_pieces.specs.UnitAgain.{packet_in}
use Rattle.program_table.specs.Table.{row_version, unit_rows}
use Rattle.job_pieces.specs.JobLanes.{HasPidsApart}

-- ---- what is known of it

pub record IsReady (told : Option Files) (start : ℕ) (job : ProgramJob) (program : Program) (versions : List (List UnitVersion)) (own : List ℕ) : Type 0 where
  pub sendable : IsSendable program
  pub distinct : HasPidsApart program
  pub count : length program.map.streams.items ≡ suc (length program.audios)
  pub small : All (λ (audio : AudioSource). length audio.bytes ≤ FILE_BYTES_MOST) program.audios
  pub are : AreVideoVersions program.video job.coarser.items None program.units versions
  pub enough : length own ≡ length program.units
  pub fits : AllZip HasVersion (unit_rows job.weight job.drift program.units versions) own
  pub named : All (λ index. index ≤ length job.coarser.items) own
  pub held : IfSome told (λ files. IsProgramOfFile Ts (content_of files job.file) job.program job.drop.items start program)

-- what is sent of it
pub record IsSentOf (job : ProgramJob) (program : Program) (versions : List (List UnitVersion)) (own : List ℕ) (sent : SentProgram) : Type 0 where
  pub name_is : sent.name.now ≡ job.file
  pub streams_are : sent.streams.now ≡ program.map.streams.items
  pub units_are : sent.units.now ≡ program.units
  pub rows_are : sent.rows.now ≡ unit_rows job.weight job.drift program.units versions
  pub coarser_are : sent.coarser.now ≡ job.coarser.items
  pub choice_is : sent.choice.now ≡ own
  pub audios_are : sent.audios.now ≡ map (λ audio. audio.pieces) program.audios

-- ---- laws of files

abbrev pub HoldVideos : Type 0
HoldVideos = (file : List ℕ) (number : ℕ) (drop : List ℕ) (start : ℕ) (program : Program) (lane : VideoLane) → IsProgramOfFile Ts file number drop start program
    → IsStreamOf program 0 Payload lane.stream → IsPlannedVideo program lane → HoldsVideo lane file

abbrev pub HoldAudios : Type 0
HoldAudios = (file : List ℕ) (number : ℕ) (drop : List ℕ) (start : ℕ) (program : Program) (k : ℕ) (source : AudioSource) (lane : AudioLane) → IsProgramOfFile Ts file number drop start program
    → slice_get program.audios k ≡ Some source → IsStreamOf program (k + 1) Packet lane.stream → lane.pieces.now ≡ source.pieces → HoldsAudio lane file

abbrev pub SendVideos : Type 0
SendVideos = (file : List ℕ) (number : ℕ) (drop : List ℕ) (start : ℕ) (program : Program) (lane : VideoLane) (versions : List (List UnitVersion))
    → IsProgramOfFile Ts file number drop start program → IsStreamOf program 0 Payload lane.stream → lane.units.now ≡ program.units
    → AreVideoVersions program.video lane.coarser.now None program.units versions → AreVersionsIn lane file versions

abbrev pub SendAudios : Type 0
SendAudios = (file : List ℕ) (number : ℕ) (drop : List ℕ) (start : ℕ) (program : Program) (k : ℕ) (source : AudioSource) (lane : AudioLane) → IsProgramOfFile Ts file number drop start program
    → slice_get program.audios k ≡ Some source → IsStreamOf program (k + 1) Packet lane.stream → lane.pieces.now ≡ source.pieces
    → map (audio_payload (bytes_of lane.stream file)) lane.pieces.now ≡ map (audio_payload source.bytes) source.pieces

-- ---- lists

all_got : {A : Type 0} (P : A → Type 0) (xs : List A) (k : ℕ) (x : A) → All P xs → slice_get xs k ≡ Some x → P x
all_got P [] k x all found = absurd (none-some x found)
all_got P (y ∷ ys) zero x all found = subst P (same_Some y x found) (All-head P y ys all)
all_got P (y ∷ ys) (suc k) x all found = all_got P ys k x (All-tail P y ys all) found

piece_place : (bytes : List ℕ) (piece : AudioPiece) → IsPieceOf bytes piece → length bytes ≤ FILE_BYTES_MOST → IsPiecePlace piece
piece_place bytes piece is small = record { size = is.size; within = let inside = is.inside in omega (arith, inside, small) }

-- the items from a place on
dropped : {A : Type 0} (xs : List A) (k : ℕ) (x : A) → slice_get xs k ≡ Some x → drop k xs ≡ x ∷ drop (suc k) xs
dropped [] k x found = absurd (none-some x found)
dropped (y ∷ ys) zero x found = ap (λ z. z ∷ ys) (same_Some y x found)
dropped (y ∷ ys) (suc k) x found = dropped ys k x found

dropped_all : {A : Type 0} (xs : List A) (k : ℕ) → length xs ≤ k → drop k xs ≡ []
dropped_all [] zero past = refl
dropped_all [] (suc k) past = refl
dropped_all (x ∷ xs) zero past = absurd (omega (arith, past))
dropped_all (x ∷ xs) (suc k) past = dropped_all xs k (omega (arith, past))

-- ---- the pieces of items

video_there : (units : List UnitSource) (versions : List (List UnitVersion)) (own : List ℕ) (item piece : ℕ) (d : UnitSource)
    → piece < length (slice_index_or (video_items units versions own) item [])
    → (item < length units) × (piece < packets_for (length (packet_in (slice_index_or units item d).times (slice_index_or versions item []) (slice_index own item))))
video_there [] versions own item piece d has = absurd (omega (arith, has))
video_there (u ∷ us) [] own item piece d has = absurd (omega (arith, has))
video_there (u ∷ us) (v ∷ vs) [] item piece d has = absurd (omega (arith, has))
video_there (u ∷ us) (v ∷ vs) (o ∷ os) zero piece d has =
    let packet = pes_packet u (chosen_bytes v o) in
    let count : length (pes_pieces packet) ≡ packets_for (length packet) =
    length-map (range_with_len 0 (packets_for (length packet))) (piece_of packet) ∙ length-range_with_len 0 (packets_for (length packet)) in
    (omega arith, subst (λ (n : ℕ). piece < n) count has)
video_there (u ∷ us) (v ∷ vs) (o ∷ os) (suc item) piece d has =
    let rest = video_there us vs os item piece d has in (let e = rest.0 in omega (arith, e), rest.1)

audio_there : (bytes : List ℕ) (pieces : List AudioPiece) (item piece : ℕ) → piece < length (slice_index_or (map (λ (p : AudioPiece). audio_payload bytes p ∷ []) pieces) item [])
    → (item < length pieces) × (piece ≡ 0)
audio_there bytes [] item piece has = absurd (omega (arith, has))
audio_there bytes (p ∷ ps) zero piece has = (omega arith, omega (arith, has))
audio_there bytes (p ∷ ps) (suc item) piece has = let rest = audio_there bytes ps item piece has in (let e = rest.0 in omega (arith, e), rest.1)

alone : (f : AudioPiece → Carried) (pieces : List AudioPiece) → map (λ (p : AudioPiece). f p ∷ []) pieces ≡ map (λ (x : Carried). x ∷ []) (map f pieces)
alone f [] = refl
alone f (p ∷ ps) = ap (λ (rest : List (List Carried)). (f p ∷ []) ∷ rest) (alone f ps)

-- the lanes have all pieces of these streams
abbrev pub HaveItems : List Lane → List (List (List Carried)) → Type 0
HaveItems [] [] = Unit {0}
HaveItems (lane ∷ lanes) (items ∷ more) = ((item piece : ℕ) → piece < length (slice_index_or items item []) → LaneHas lane item piece) × HaveItems lanes more
HaveItems lanes more = ⊥

-- the versions of what the lanes of a program send
abbrev pub versions_of : List (List UnitVersion) → List Lane → List (List (List UnitVersion))
versions_of versions [] = []
versions_of versions (Video lane ∷ lanes) = versions ∷ versions_of versions lanes
versions_of versions (Audio lane ∷ lanes) = [] ∷ versions_of versions lanes

-- ---- its rows

abbrev no_unit : UnitSource
no_unit = record { begin = 0; end = 0; times = record { pts = None; dts = None }; due = 0; kind = 0; role = Frame }

abbrev no_row : CodedUnit
no_row = record { due = 0; versions = record { items = [] } }

zip_at : {A : Type 0} (R : A → ℕ → Type 0) (xs : List A) (ys : List ℕ) (k : ℕ) (d : A) → AllZip R xs ys → k < length xs → R (slice_index_or xs k d) (slice_index ys k)
zip_at R [] ys k d all within = absurd (let e : k < 0 = within in omega (arith, e))
zip_at R (x ∷ xs) [] k d all within = absurd all
zip_at R (x ∷ xs) (y ∷ ys) zero d all within = all.0
zip_at R (x ∷ xs) (y ∷ ys) (suc k) d all within = zip_at R xs ys k d all.1 (omega (arith, within))

-- the bytes of a version's PES packet stand in the row
row_bytes : (weight : ℕ) (unit : UnitSource) (versions : List UnitVersion) (k : ℕ) → k < length (map (row_version weight unit) versions)
    → length (pes_packet unit (chosen_bytes versions k)) ≡ (slice_index_or (map (row_version weight unit) versions) k (record { bytes = 0; distortion = 0 })).bytes
row_bytes weight unit [] k within = absurd (let e : k < 0 = within in omega (arith, e))
row_bytes weight unit (v ∷ vs) zero within = length-append (written_pes_header unit.times) v.bytes
row_bytes weight unit (v ∷ vs) (suc k) within = row_bytes weight unit vs k (omega (arith, within))

sizes_at : (weight drift : ℕ) (units : List UnitSource) (versions : List (List UnitVersion)) (own : List ℕ) (k : ℕ) (d : UnitSource) (e : CodedUnit)
    → AllZip HasVersion (unit_rows weight drift units versions) own → k < length (unit_rows weight drift units versions)
    → length (packet_in (slice_index_or units k d).times (slice_index_or versions k []) (slice_index own k))
    ≡ (version_at (slice_index_or (unit_rows weight drift units versions) k e) (slice_index own k)).bytes
sizes_at weight drift [] versions own k d e fits within = absurd (let f : k < 0 = within in omega (arith, f))
sizes_at weight drift (u ∷ us) [] own k d e fits within = absurd (let f : k < 0 = within in omega (arith, f))
sizes_at weight drift (u ∷ us) (v ∷ vs) [] k d e fits within = absurd fits
sizes_at weight drift (u ∷ us) (v ∷ vs) (o ∷ os) zero d e fits within = row_bytes (unit_weight weight drift u us) u v o fits.0
sizes_at weight drift (u ∷ us) (v ∷ vs) (o ∷ os) (suc k) d e fits within = sizes_at weight drift us vs os k d e fits.1 (omega (arith, within))

rows_count : (weight drift : ℕ) (es coarser : List ℕ) (before : Option _) (units : List UnitSource) (versions : List (List UnitVersion)) → AreVideoVersions es coarser before units versions
    → length (unit_rows weight drift units versions) ≡ length units
rows_count weight drift es coarser before [] [] are = refl
rows_count weight drift es coarser before [] (v ∷ vs) are = absurd are
rows_count weight drift es coarser before (u ∷ us) [] are = absurd are
rows_count weight drift es coarser before (u ∷ us) (v ∷ vs) (after, leaves, here, rest) = ap suc (rows_count weight drift es coarser (Some after) us vs rest)

-- ---- its streams

-- a file that is no longer than it may be is read whole
whole : (content : List ℕ) → length content ≤ FILE_BYTES_MOST → take (READ_MOST - 0) (drop 0 content) ≡ content
whole content fits = take_most content READ_MOST fits
  where
    take_most : (xs : List ℕ) (n : ℕ) → length xs ≤ n → take n xs ≡ xs
    take_most [] zero few = refl
    take_most [] (suc n) few = refl
    take_most (x ∷ xs) zero few = absurd (omega (arith, few))
    take_most (x ∷ xs) (suc n) few = ap (λ (rest : List ℕ). x ∷ rest) (take_most xs n (omega (arith, few)))

module _ (told : Option Files) (start : ℕ) (job : ProgramJob) (program : Program) (versions : List (List UnitVersion)) (own : List ℕ) (sent : SentProgram)
    (ready : IsReady told start job program versions own) (is : IsSentOf job program versions own sent) where
  pids_apart : (index : ℕ) (part : _) (place : StreamPlace) → IsPlaceIn sent index part place → index < suc (length program.audios) → IsStreamPlace place
  pids_apart index part place in_file within = record {
    within = let e = ap length (in_file.streams_are ∙ is.streams_are) in let f = in_file.index_is in let n = ready.count in omega (arith, within, e, f, n);
    distinct = rw (in_file.streams_are, is.streams_are) ready.distinct;
  }

  stream_of : (index : ℕ) (part : _) (place : StreamPlace) → IsPlaceIn sent index part place → IsStreamOf program index part place
  stream_of index part place in_file = record { streams_are = in_file.streams_are ∙ is.streams_are; index_is = in_file.index_is; part_is = in_file.part_is }

  -- its file, as far as it is read, is the whole file
  file_is : (files : Files) (place : StreamPlace) (index : ℕ) (part : _) → IsPlaceIn sent index part place → IsProgramOfFile Ts (content_of files job.file) job.program job.drop.items start program
      → content_of files job.file ≡ file_in files place
  file_is files place index part in_file of =
      sym (ap (λ (name : List ℕ). take (READ_MOST - 0) (drop 0 (content_of files name))) (in_file.name_is ∙ is.name_is) ∙ whole (content_of files job.file) of.within)

  -- ---- its video

  video_lane : (lane : VideoLane) → IsLaneOf sent 0 (Video lane) → IsVideoLane lane
  video_lane lane (zeroth, place, units, rows, coarser, choice) =
      let all_rows : lane.rows.now ≡ unit_rows job.weight job.drift program.units versions = rows ∙ is.rows_are in
      let count = rows_count job.weight job.drift program.video job.coarser.items None program.units versions ready.are in
      let unit_count = ap length (units ∙ is.units_are) in
      record {
        place = pids_apart 0 Payload lane.stream place (omega arith);
        units_stand = subst (All IsUnitPlace) (sym (units ∙ is.units_are))
            (All-weaker (IsUnitOf program.video) IsUnitPlace (λ unit u. record { order = u.order; short = u.short; in_range = u.in_range; beside = u.beside }) program.units ready.sendable.units);
        enough = let e = ap length (choice ∙ is.choice_is) in let f = ready.enough in omega (arith, unit_count, e, f);
        chosen = rw (choice, is.choice_is, coarser, is.coarser_are) ready.named;
        rows_enough = let e = ap length all_rows in omega (arith, unit_count, e, count);
        rows_chosen = λ number within. rw (all_rows, choice, is.choice_is)
            (zip_at HasVersion (unit_rows job.weight job.drift program.units versions) own number _ ready.fits (omega (arith, within, unit_count, count)));
      }

  sizes_here : (lane : VideoLane) → IsLaneOf sent 0 (Video lane) → (number : ℕ) → number < length lane.units.now
      → length (packet_in (unit_at lane number).times (slice_index_or versions number []) (slice_index lane.choice.now number)) ≡ planned_size lane number
  sizes_here lane (zeroth, place, units, rows, coarser, choice) number within =
      let all_rows : lane.rows.now ≡ unit_rows job.weight job.drift program.units versions = rows ∙ is.rows_are in
      let all_units : lane.units.now ≡ program.units = units ∙ is.units_are in
      let count = rows_count job.weight job.drift program.video job.coarser.items None program.units versions ready.are in
      let unit_count = ap length all_units in
      rw (all_units, all_rows, choice, is.choice_is) (sizes_at job.weight job.drift program.units versions own number no_unit no_row ready.fits (omega (arith, within, unit_count, count)))

  planned_video : (lane : VideoLane) → IsLaneOf sent 0 (Video lane) → IsPlannedVideo program lane
  planned_video lane (zeroth, place, units, rows, coarser, choice) = record {
    units_are = units ∙ is.units_are;
    versions = versions;
    are_versions = rw (coarser, is.coarser_are) ready.are;
    sizes = sizes_here lane (zeroth, place, units, rows, coarser, choice);
  }

  -- ---- its audio streams

  pub record IsAudioAt (k : ℕ) (pieces : List AudioPiece) : Type 0 where
    pub source : AudioSource
    pub found : slice_get program.audios k ≡ Some source
    pub pieces_are : pieces ≡ source.pieces

  mapped : (audios : List AudioSource) (k : ℕ) → k < length (map (λ (a : AudioSource). a.pieces) audios)
      → (source : AudioSource) × (slice_get audios k ≡ Some source) × (slice_index_or (map (λ (a : AudioSource). a.pieces) audios) k [] ≡ source.pieces)
  mapped [] k within = absurd (let e : k < 0 = within in omega (arith, e))
  mapped (a ∷ rest) zero within = (a, refl, refl)
  mapped (a ∷ rest) (suc k) within = mapped rest k (omega (arith, within))

  audio_at : (k : ℕ) (pieces : List AudioPiece) → k < length sent.audios.now → pieces ≡ slice_index_or sent.audios.now k [] → IsAudioAt k pieces
  audio_at k pieces within same =
      let found = mapped program.audios k (let e = ap length is.audios_are in omega (arith, within, e)) in
      record { source = found.0; found = found.1; pieces_are = same ∙ ap (λ (xs : List (List AudioPiece)). slice_index_or xs k []) is.audios_are ∙ found.2 }

  audio_lane : (k : ℕ) (lane : AudioLane) → k < length sent.audios.now → IsPlaceIn sent (k + 1) Packet lane.stream → (at : IsAudioAt k lane.pieces.now) → IsAudioLane lane
  audio_lane k lane within place at = record {
    place = pids_apart (k + 1) Packet lane.stream place (let e = ap length is.audios_are in let f = length-map program.audios (λ (a : AudioSource). a.pieces) in omega (arith, within, e, f));
    pieces_stand = subst (All IsPiecePlace) (sym at.pieces_are)
        (All-weaker (IsPieceOf at.source.bytes) IsPiecePlace
        (λ piece p. piece_place at.source.bytes piece p (all_got (λ (a : AudioSource). length a.bytes ≤ FILE_BYTES_MOST) program.audios k at.source ready.small at.found))
        at.source.pieces (all_got (λ (a : AudioSource). All (IsPieceOf a.bytes) a.pieces) program.audios k at.source ready.sendable.audio at.found));
  }

  next_stream : (k : ℕ) (place : StreamPlace) → IsPlaceIn sent (k + 1) Packet place → IsStreamOf program (k + 1) Packet place
  next_stream k place in_file = stream_of (k + 1) Packet place in_file

  -- ---- that they can be sent

  lane_held : HoldVideos → HoldAudios → (lane : Lane) (index : ℕ) → IsLaneOf sent index lane → IsHeld told lane
  lane_held videos audios (Video lane) index (zeroth, place, units, rows, coarser, choice) =
      (video_lane lane (refl, place, units, rows, coarser, choice), held told ready.held)
    where
      held : (t : Option Files) → IfSome t (λ files. IsProgramOfFile Ts (content_of files job.file) job.program job.drop.items start program) → IfSome (file_of t lane.stream) (HoldsVideo lane)
      held None of = tt
      held (Some files) of =
          subst (HoldsVideo lane) (file_is files lane.stream 0 Payload place of)
          (videos (content_of files job.file) job.program job.drop.items start program lane of (stream_of 0 Payload lane.stream place)
          (planned_video lane (refl, place, units, rows, coarser, choice)))
  lane_held videos audios (Audio lane) index (k, next, within, place, pieces) =
      let at : IsAudioAt k lane.pieces.now = audio_at k lane.pieces.now within pieces in
      (audio_lane k lane within place at, held told at ready.held)
    where
      held : (t : Option Files) (at : IsAudioAt k lane.pieces.now) → IfSome t (λ files. IsProgramOfFile Ts (content_of files job.file) job.program job.drop.items start program)
          → IfSome (file_of t lane.stream) (HoldsAudio lane)
      held None at of = tt
      held (Some files) at of =
          subst (HoldsAudio lane) (file_is files lane.stream (k + 1) Packet place of)
          (audios (content_of files job.file) job.program job.drop.items start program k at.source lane of at.found (next_stream k lane.stream place) at.pieces_are)

  pub lanes_held : HoldVideos → HoldAudios → (lanes : List Lane) (index : ℕ) → AreLanesFrom sent index lanes → AreHeld told lanes
  lanes_held videos audios [] index are = tt
  lanes_held videos audios (lane ∷ lanes) index (own, more) = (lane_held videos audios lane index own, lanes_held videos audios lanes (index + 1) more)

  -- ---- that they have the pieces, and what these are

  -- the items of the streams of the program from the one of a number on
  abbrev pub block : ℕ → List (List (List Carried))
  block zero = video_items program.units versions own ∷ map audio_items program.audios
  block (suc k) = map audio_items (drop k program.audios)

  block_next : (k : ℕ) (pieces : List AudioPiece) (at : IsAudioAt k pieces) → block (k + 1) ≡ audio_items at.source ∷ block (k + 1 + 1)
  block_next k pieces at =
      let one : k + 1 ≡ suc k = omega arith in
      let two : k + 1 + 1 ≡ suc (suc k) = omega arith in
      ap block one ∙ ap (map audio_items) (dropped program.audios k at.source at.found) ∙ ap (λ (n : ℕ). audio_items at.source ∷ block n) (sym two)

  block_end : (index : ℕ) → index ≡ length sent.audios.now + 1 → block index ≡ []
  block_end index end =
      let count : length sent.audios.now ≡ length program.audios = ap length is.audios_are ∙ length-map program.audios (λ (a : AudioSource). a.pieces) in
      let past : index ≡ suc (length program.audios) = omega (arith, end, count) in
      ap block past ∙ ap (map audio_items) (dropped_all program.audios (length program.audios) (omega arith))

  video_has : (lane : VideoLane) → IsLaneOf sent 0 (Video lane) → (item piece : ℕ) → piece < length (slice_index_or (video_items program.units versions own) item [])
      → LaneHas (Video lane) item piece
  video_has lane (zeroth, place, units, rows, coarser, choice) item piece has =
      let all_units : lane.units.now ≡ program.units = units ∙ is.units_are in
      let there : (item < length lane.units.now)
      × (piece < packets_for (length (packet_in (slice_index_or lane.units.now item no_unit).times (slice_index_or versions item []) (slice_index lane.choice.now item)))) =
      video_there lane.units.now versions lane.choice.now item piece no_unit (rw (all_units, choice, is.choice_is) has) in
      (there.0, subst (λ (n : ℕ). piece < packets_for n) (sizes_here lane (zeroth, place, units, rows, coarser, choice) item there.0) there.1)

  audio_has : (k : ℕ) (lane : AudioLane) (at : IsAudioAt k lane.pieces.now) (item piece : ℕ) → piece < length (slice_index_or (audio_items at.source) item []) → LaneHas (Audio lane) item piece
  audio_has k lane at item piece has =
      let there = audio_there at.source.bytes at.source.pieces item piece has in
      (let e = there.0 in let f = ap length at.pieces_are in omega (arith, e, f), there.1)

  pub lanes_have : (lanes : List Lane) (index : ℕ) → AreLanesFrom sent index lanes → HaveItems lanes (block index)
  lanes_have [] index end = subst (HaveItems []) (sym (block_end index end)) tt
  lanes_have (Video lane ∷ lanes) index ((zeroth, place, units, rows, coarser, choice), more) =
      subst (λ (n : ℕ). HaveItems (Video lane ∷ lanes) (block n)) (sym zeroth)
      (video_has lane (refl, place, units, rows, coarser, choice), lanes_have lanes 1 (subst (λ (n : ℕ). AreLanesFrom sent (n + 1) lanes) zeroth more))
  lanes_have (Audio lane ∷ lanes) index ((k, next, within, place, pieces), more) =
      let at : IsAudioAt k lane.pieces.now = audio_at k lane.pieces.now within pieces in
      subst (λ (n : ℕ). HaveItems (Audio lane ∷ lanes) (block n)) (sym next)
      (subst (HaveItems (Audio lane ∷ lanes)) (sym (block_next k lane.pieces.now at))
      (audio_has k lane at, lanes_have lanes (k + 1 + 1) (subst (λ (n : ℕ). AreLanesFrom sent (n + 1) lanes) next more)))

  -- in a file that is told these lanes have the program's versions, and their items are those of its streams
  module _ (videos : SendVideos) (audios : SendAudios) (files : Files) (of : IsProgramOfFile Ts (content_of files job.file) job.program job.drop.items start program) where
    audio_items_are : (k : ℕ) (lane : AudioLane) → IsPlaceIn sent (k + 1) Packet lane.stream → (at : IsAudioAt k lane.pieces.now) → lane_items files (Audio lane) [] ≡ audio_items at.source
    audio_items_are k lane place at =
        ap (λ (file : List ℕ). map (λ (p : AudioPiece). audio_payload (bytes_of lane.stream file) p ∷ []) lane.pieces.now) (sym (file_is files lane.stream (k + 1) Packet place of))
        ∙ alone (audio_payload (bytes_of lane.stream (content_of files job.file))) lane.pieces.now
        ∙ ap (map (λ (x : Carried). x ∷ [])) (audios (content_of files job.file) job.program job.drop.items start program k at.source lane of at.found (next_stream k lane.stream place) at.pieces_are)
        ∙ sym (alone (audio_payload at.source.bytes) at.source.pieces)

    pub versions_are : (lanes : List Lane) (index : ℕ) → AreLanesFrom sent index lanes → AreLanesVersions files lanes (versions_of versions lanes)
    versions_are [] index are = tt
    versions_are (Video lane ∷ lanes) index ((zeroth, place, units, rows, coarser, choice), more) = (
      subst (λ (file : List ℕ). AreVersionsIn lane file versions) (file_is files lane.stream 0 Payload place of)
          (videos (content_of files job.file) job.program job.drop.items start program lane versions of (stream_of 0 Payload lane.stream place) (units ∙ is.units_are)
          (rw (coarser, is.coarser_are) ready.are)),
      versions_are lanes (index + 1) more,
    )
    versions_are (Audio lane ∷ lanes) index (own_is, more) = (refl, versions_are lanes (index + 1) more)

    pub items_are : (lanes : List Lane) (index : ℕ) → AreLanesFrom sent index lanes → lanes_items files lanes (versions_of versions lanes) ≡ block index
    items_are [] index end = sym (block_end index end)
    items_are (Video lane ∷ lanes) index ((zeroth, place, units, rows, coarser, choice), more) =
        ap₂ (λ (items : List (List Carried)) (rest : List (List (List Carried))). items ∷ rest)
        (ap₂ (λ (us : List UnitSource) (c : List ℕ). video_items us versions c) (units ∙ is.units_are) (choice ∙ is.choice_is))
        (items_are lanes 1 (subst (λ (n : ℕ). AreLanesFrom sent (n + 1) lanes) zeroth more))
        ∙ ap block (sym zeroth)
    items_are (Audio lane ∷ lanes) index ((k, next, within, place, pieces), more) =
        let at : IsAudioAt k lane.pieces.now = audio_at k lane.pieces.now within pieces in
        ap₂ (λ (items : List (List Carried)) (rest : List (List (List Carried))). items ∷ rest) (audio_items_are k lane place at)
        (items_are lanes (k + 1 + 1) (subst (λ (n : ℕ). AreLanesFrom sent (n + 1) lanes) next more))
        ∙ sym (block_next k lane.pieces.now at) ∙ ap block (sym next)
