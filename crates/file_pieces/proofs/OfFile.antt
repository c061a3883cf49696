-- The streams of a file's program, as far as they are kept, stand in front of those of the file.
use Rattle.std.proofs.Common.{◌≡◌, ℕ, zero, suc, ◌+◌, ◌-◌, ◌≤◌, Bool, true, false, List, [], ◌∷◌, ◌++◌, length, map, take, drop, slice_get, slice_index, slice_index_or, slice_range, All, Option, Some, None, if◌then◌else◌, refl, ap, ap₂, subst, sym, ◌∙◌, arith, append_assoc, length-append, length-drop}
use Rattle.std.specs.List.{flat_map}
use Rattle.std.proofs.lemmas.List.{append-nil, drop-append-le, take-append-le}
use Rattle.std.proofs.lemmas.List.Elements.{All-from_get_or, All-get_or, All-head, All-tail}
use Rattle.std.proofs.lemmas.Option.{same_Some}
use Rattle.bit_lists.specs.Payload.{Payload as Carried}
use Rattle.syntax_types.specs.declared.picture.SeqState.{SeqState}
use Rattle.psi_tables.specs.declared.stream.Stream.{Stream}
use Rattle.psi_tables.specs.Pmt.{pids_of}
use Rattle.pes_units.specs.PesPackets.{is_dropped}
use Rattle.ts_demux.specs.declared.demuxed.AudioStream.{AudioStream}
use Rattle.ts_demux.specs.declared.demuxed.Demuxed.{Demuxed}
use Rattle.ts_demux.specs.declared.demuxed.PesUnit.{PesUnit}
use Rattle.ts_demux.specs.Demux.{AreStreamsSound, IsDemuxed, pes_packets_on}
use Rattle.elementary_streams.specs.Audio.{taken_of}
use Rattle.elementary_streams.specs.Packets.{pes_payload_of, taken}
use Rattle.job_report.specs.declared.job.Form.{Form}
use Rattle.job_report.specs.declared.job.Form.TheVariants.{Ts, Ps}
use Rattle.es_window.specs.declared.held_part.HeldPart.{HeldPart}
use Rattle.es_window.specs.declared.held_part.HeldPart.TheVariants.{Packet, Payload}
use Rattle.es_window.specs.PassingBytes.{bytes_in, stream_of}
use Rattle.audio_frames.specs.declared.frame.Frame.{Frame}
use Rattle.program_reader.specs.declared.program.AudioPiece.{AudioPiece}
use Rattle.program_reader.specs.declared.program.AudioSource.{AudioSource}
use Rattle.program_reader.specs.declared.program.Program.{Program}
use Rattle.program_reader.specs.declared.program.UnitSource.{UnitSource}
use Rattle.program_reader.specs.Audio.{AreAudioSources}
use Rattle.program_reader.specs.Programs.{IsProgramOfFile, StandIn}
use Rattle.version_maker.specs.declared.version.UnitVersion.{UnitVersion}
use Rattle.version_maker.specs.Versions.{AreVersions}
use Rattle.version_maker.proofs.Lists.{one-list}
use Rattle.version_source.specs.Pieces.{audio_payload}
use Rattle.version_source.specs.Sendable.{IsPieceOf, IsSendable, IsUnitOf, LeavesState, SpellInOrder, bytes_of_unit}
use Rattle.version_source.specs.Versions.{AreVideoVersions}
use Rattle.version_source.specs.Private.Sending.{LeaveBehind}
use Rattle.program_reader.proofs.Missing.{no_unit}
use Rattle.version_source.proofs.StateLemmas.{versions-there}
use Rattle.file_pieces.specs.declared.lane.AudioLane.{AudioLane}
use Rattle.file_pieces.specs.declared.lane.VideoLane.{VideoLane}
use Rattle.file_pieces.specs.declared.stream_place.StreamPlace.{StreamPlace}
use Rattle.file_pieces.specs.declared.unit_again.UnitPlan.{UnitPlan}
use Rattle.file_pieces.specs.FileStream.{HasBytesTo, bytes_of, pids_in}
use Rattle.file_pieces.specs.LaneState.{AreVersionsIn}
use Rattle.file_pieces.specs.Lane.{HoldsAudio, HoldsVideo, IsPlanOf, unit_at}
use Rattle.file_pieces.specs.OfFile.{IsPlannedVideo, IsStreamOf}
use Rattle.file_pieces.specs.UnitAgain.{packet_in}
use Rattle.program_reader.proofs.Missing.{no_piece}

-- ---- a longer stream

part_longer : (es more : List ℕ) (a b : ℕ) → a ≤ b → b ≤ length es → slice_range (es ++ more) a b ≡ slice_range es a b
part_longer es more a b order within =
    ap (take (b - a)) (drop-append-le a es more (omega (arith, order, within)))
    ∙ take-append-le (b - a) (drop a es) more (omega (arith, order, within, length-drop a es))

unit_longer : (es more : List ℕ) (unit : UnitSource) → IsUnitOf es unit → bytes_of_unit (es ++ more) unit ≡ bytes_of_unit es unit
unit_longer es more unit is = part_longer es more unit.begin unit.end is.order is.inside

spell_longer : (es more : List ℕ) (before : Option SeqState) (units : List UnitSource) → All (IsUnitOf es) units → SpellInOrder es before units → SpellInOrder (es ++ more) before units
spell_longer es more before [] all spelled = tt
spell_longer es more before (u ∷ us) all (after, leaves, rest) = (
  after,
  subst (λ (b : List ℕ). LeavesState before b after) (sym (unit_longer es more u (All-head (IsUnitOf es) u us all))) leaves,
  spell_longer es more (Some after) us (All-tail (IsUnitOf es) u us all) rest,
)

leave_shorter : (es more : List ℕ) (before : Option SeqState) (units : List UnitSource) (k : ℕ) (state : Option SeqState) → All (IsUnitOf es) units
    → LeaveBehind (es ++ more) before units k state → LeaveBehind es before units k state
leave_shorter es more before units zero state all same = same
leave_shorter es more before [] (suc k) state all behind = absurd behind
leave_shorter es more before (u ∷ us) (suc k) state all (next, leaves, rest) = (
  next,
  subst (λ (b : List ℕ). LeavesState before b next) (unit_longer es more u (All-head (IsUnitOf es) u us all)) leaves,
  leave_shorter es more (Some next) us k state (All-tail (IsUnitOf es) u us all) rest,
)

pub versions_longer : (es more coarser : List ℕ) (before : Option SeqState) (units : List UnitSource) (versions : List (List UnitVersion)) → All (IsUnitOf es) units
    → AreVideoVersions es coarser before units versions → AreVideoVersions (es ++ more) coarser before units versions
versions_longer es more coarser before [] [] all are = tt
versions_longer es more coarser before [] (v ∷ vs) all are = absurd are
versions_longer es more coarser before (u ∷ us) [] all are = absurd are
versions_longer es more coarser before (u ∷ us) (v ∷ vs) all (after, leaves, own, rest) =
    let same : bytes_of_unit es u ≡ bytes_of_unit (es ++ more) u = sym (unit_longer es more u (All-head (IsUnitOf es) u us all)) in (
      after,
      subst (λ (b : List ℕ). LeavesState before b after) same leaves,
      subst (λ (b : List ℕ). AreVersions before b coarser v) same own,
      versions_longer es more coarser (Some after) us vs (All-tail (IsUnitOf es) u us all) rest,
    )

-- ---- what is kept of a stream

pub record IsFront (front whole : List ℕ) : Type 0 where
  pub more : List ℕ
  pub whole_is : whole ≡ front ++ more

one_front : (f : PesUnit → List ℕ) (packet : PesUnit) (dropped : Bool) → IsFront (flat_map f (if dropped then [] else packet ∷ [])) (flat_map f (packet ∷ []))
one_front f packet true = record { more = flat_map f (packet ∷ []); whole_is = refl }
one_front f packet false = record { more = []; whole_is = sym (append-nil (flat_map f (packet ∷ []))) }

taken_front : (video : Bool) (f : PesUnit → List ℕ) (packets : List PesUnit) → IsFront (flat_map f (taken video packets)) (flat_map f packets)
taken_front video f [] = record { more = []; whole_is = refl }
taken_front video f (packet ∷ []) = one_front f packet (is_dropped video packet.bytes)
taken_front video f (packet ∷ next ∷ rest) =
    let behind = taken_front video f (next ∷ rest) in
    record {
      more = behind.more;
      whole_is = ap (λ (xs : List ℕ). f packet ++ xs) behind.whole_is ∙ sym (append_assoc (f packet) (flat_map f (taken video (next ∷ rest))) behind.more);
    }

-- ---- a program of a file

ts_demuxed : (form : Form) (file : List ℕ) (number : ℕ) (drop : List ℕ) (found : Demuxed) (cut : ℕ) → form ≡ Ts → StandIn form file number drop found cut → IsDemuxed file number drop found
ts_demuxed form file number drop found cut is (StandIn.in_packets same demuxed none) = demuxed
ts_demuxed form file number drop found cut is (StandIn.in_elements other one split) = absurd (let bad : Ts ≡ Ps = sym is ∙ other in cc)

pub demuxed_of : (file : List ℕ) (number : ℕ) (drop : List ℕ) (start : ℕ) (program : Program) (is : IsProgramOfFile Ts file number drop start program) → IsDemuxed file number drop is.demuxed
demuxed_of file number drop start program is =
    subst (λ (d : Demuxed). IsDemuxed file number drop d) (sym is.demuxed_is.typed_is) (ts_demuxed Ts file number drop is.demuxed_is.found is.demuxed_is.cut refl is.demuxed_is.stand)

pids_same : (file : List ℕ) (number : ℕ) (drop : List ℕ) (start : ℕ) (program : Program) (index : ℕ) (part : HeldPart) (place : StreamPlace)
    (is : IsProgramOfFile Ts file number drop start program) → IsStreamOf program index part place → pids_in place ≡ pids_of is.demuxed.map
pids_same file number drop start program index part place is stream =
    ap (map (λ (s : Stream). s.pid)) (stream.streams_are ∙ ap (λ m. m.streams.items) is.program_is.map_is)

sound_there : (file : List ℕ) (number : ℕ) (drop : List ℕ) (start : ℕ) (program : Program) (index : ℕ) (part : HeldPart) (place : StreamPlace)
    → IsProgramOfFile Ts file number drop start program → IsStreamOf program index part place → AreStreamsSound file (pids_in place)
sound_there file number drop start program index part place is stream =
    subst (AreStreamsSound file) (sym (pids_same file number drop start program index part place is stream)) (demuxed_of file number drop start program is).sound

-- ---- its video

pub video_front : (file : List ℕ) (number : ℕ) (drop : List ℕ) (start : ℕ) (program : Program) (place : StreamPlace) → IsProgramOfFile Ts file number drop start program
    → IsStreamOf program 0 Payload place → IsFront program.video (bytes_of place file)
video_front file number drop start program place is stream =
    let demuxed = demuxed_of file number drop start program is in
    let pid : slice_index (pids_in place) place.index ≡ demuxed.video.pid =
    ap₂ slice_index (pids_same file number drop start program 0 Payload place is stream ∙ ap (map (λ (s : Stream). s.pid)) demuxed.streams) stream.index_is in
    let whole : bytes_of place file ≡ flat_map pes_payload_of is.demuxed.video =
    ap₂ (λ (p : HeldPart) (n : ℕ). stream_of p file n) stream.part_is pid ∙ ap (bytes_in Payload) (sym demuxed.video_packets) in
    let front = taken_front true pes_payload_of is.demuxed.video in
    record { more = front.more; whole_is = whole ∙ front.whole_is ∙ ap (λ (es : List ℕ). es ++ front.more) (sym is.program_is.video_is) }

versions_by : (before : Option SeqState) (unit other coarser own : List ℕ) (versions : List UnitVersion) → unit ≡ other → coarser ≡ own → AreVersions before unit coarser versions
    → AreVersions before other own versions
versions_by before unit other coarser own versions same ratios are =
    subst (λ (b : List ℕ). AreVersions before b own versions) same (subst (λ (c : List ℕ). AreVersions before unit c versions) ratios are)

-- a file holds the video of its program
pub holds_video : (file : List ℕ) (number : ℕ) (drop : List ℕ) (start : ℕ) (program : Program) (lane : VideoLane) → IsSendable program → IsProgramOfFile Ts file number drop start program
    → IsStreamOf program 0 Payload lane.stream → IsPlannedVideo program lane → HoldsVideo lane file
holds_video file number drop start program lane sendable is stream planned =
    let front = video_front file number drop start program lane.stream is stream in
    let units : All (IsUnitOf program.video) lane.units.now = subst (All (IsUnitOf program.video)) (sym planned.units_are) sendable.units in
    record {
      stands = λ k within. record {
        sound = sound_there file number drop start program 0 Payload lane.stream is stream;
        long = let end = (All-get_or (IsUnitOf program.video) lane.units.now k no_unit within units).inside in
            let size = ap length front.whole_is in
            omega (arith, end, size, length-append program.video front.more);
      };
      pictures = subst (λ (es : List ℕ). SpellInOrder es None lane.units.now) (sym front.whole_is)
          (spell_longer program.video front.more None lane.units.now units
          (subst (λ (us : List UnitSource). SpellInOrder program.video None us) (sym planned.units_are) sendable.pictures));
      planned = λ k before plan within left plan_is versions are.
          let unit_is : IsUnitOf program.video (unit_at lane k) = All-get_or (IsUnitOf program.video) lane.units.now k no_unit within units in
          let own : LeaveBehind program.video None lane.units.now k before =
          leave_shorter program.video front.more None lane.units.now k before units (subst (λ (es : List ℕ). LeaveBehind es None lane.units.now k before) front.whole_is left) in
          let all : AreVideoVersions program.video lane.coarser.now None lane.units.now planned.versions =
          subst (λ (us : List UnitSource). AreVideoVersions program.video lane.coarser.now None us planned.versions) (sym planned.units_are) planned.are_versions in
          let there = versions-there program.video lane.coarser.now None lane.units.now planned.versions k before no_unit all own within in
          let bytes : bytes_of_unit (bytes_of lane.stream file) (unit_at lane k) ≡ bytes_of_unit program.video (unit_at lane k) =
          ap (λ (es : List ℕ). bytes_of_unit es (unit_at lane k)) front.whole_is ∙ unit_longer program.video front.more (unit_at lane k) unit_is in
          let here : AreVersions before (bytes_of_unit program.video (unit_at lane k)) lane.coarser.now versions =
          versions_by before (bytes_of_unit (bytes_of lane.stream file) (unit_at lane k)) (bytes_of_unit program.video (unit_at lane k)) plan.coarser.now lane.coarser.now versions
          bytes plan_is.coarser_are are in
          let one : versions ≡ slice_index_or planned.versions k [] =
          one-list before (bytes_of_unit program.video (unit_at lane k)) lane.coarser.now versions (slice_index_or planned.versions k []) here there in
          made plan versions k plan_is one ∙ planned.sizes k within ∙ sym plan_is.size_is;
    }
  where
    made : (plan : UnitPlan) (versions : List UnitVersion) (k : ℕ) → IsPlanOf lane k plan → versions ≡ slice_index_or planned.versions k []
        → length (packet_in plan.times versions plan.index) ≡ length (packet_in (unit_at lane k).times (slice_index_or planned.versions k []) (slice_index lane.choice.now k))
    made plan versions k plan_is one = rw (plan_is.times_are, plan_is.index_is, one) refl

-- ---- its audio streams

pub stream_next : (program : Program) (k : ℕ) (place : StreamPlace) → IsStreamOf program (k + 1) Packet place → IsStreamOf program (suc k) Packet place
stream_next program k place is = record {
  streams_are = is.streams_are;
  index_is = is.index_is ∙ (let e : k + 1 ≡ suc k = omega arith in e);
  part_is = is.part_is;
}

pub record IsAudioOf (streams : List AudioStream) (k : ℕ) (source : AudioSource) : Type 0 where
  pub stream : AudioStream
  pub stream_is : slice_get streams k ≡ Some stream
  pub bytes_are : source.bytes ≡ flat_map (λ packet. packet.bytes) (taken_of stream)

audio_at : (start : ℕ) (earliest : _) (streams : List AudioStream) (frames : List (List Frame)) (sources : List AudioSource) (k : ℕ) (source : AudioSource)
    → AreAudioSources start earliest streams frames sources → slice_get sources k ≡ Some source → IsAudioOf streams k source
audio_at start earliest [] [] [] k source are found = absurd (let bad : None ≡ Some source = found in cc)
audio_at start earliest [] [] (s ∷ ss) k source are found = absurd are
audio_at start earliest [] (f ∷ fs) sources k source are found = absurd are
audio_at start earliest (x ∷ xs) [] sources k source are found = absurd are
audio_at start earliest (x ∷ xs) (f ∷ fs) [] k source are found = absurd are
audio_at start earliest (x ∷ xs) (f ∷ fs) (s ∷ ss) zero source are found =
    let same : s ≡ source = same_Some s source found in
    record { stream = x; stream_is = refl; bytes_are = ap (λ (a : AudioSource). a.bytes) (sym same) ∙ are.0.bytes }
audio_at start earliest (x ∷ xs) (f ∷ fs) (s ∷ ss) (suc k) source are found =
    let rest = audio_at start earliest xs fs ss k source are.1 found in
    record { stream = rest.stream; stream_is = rest.stream_is; bytes_are = rest.bytes_are }

pub record IsMapped (file : List ℕ) (streams : List Stream) (k : ℕ) (audio : AudioStream) : Type 0 where
  pub stream : Stream
  pub pid_is : slice_index (map (λ s. s.pid) streams) k ≡ stream.pid
  pub audio_is : audio ≡ pes_packets_on file stream

mapped_from : (file : List ℕ) (streams : List Stream) (k : ℕ) (audio : AudioStream) → slice_get (map (pes_packets_on file) streams) k ≡ Some audio → IsMapped file streams k audio
mapped_from file [] k audio found = absurd (let bad : None ≡ Some audio = found in cc)
mapped_from file (s ∷ ss) zero audio found = record { stream = s; pid_is = refl; audio_is = sym (same_Some (pes_packets_on file s) audio found) }
mapped_from file (s ∷ ss) (suc k) audio found =
    let rest = mapped_from file ss k audio found in record { stream = rest.stream; pid_is = rest.pid_is; audio_is = rest.audio_is }

pub audio_front : (file : List ℕ) (number : ℕ) (drop : List ℕ) (start : ℕ) (program : Program) (k : ℕ) (source : AudioSource) (place : StreamPlace)
    → IsProgramOfFile Ts file number drop start program → slice_get program.audios k ≡ Some source → IsStreamOf program (suc k) Packet place → IsFront source.bytes (bytes_of place file)
audio_front file number drop start program k source place is found stream =
    let demuxed = demuxed_of file number drop start program is in
    let own = audio_at start is.program_is.earliest is.demuxed.audios is.program_is.frames program.audios k source is.program_is.audios_are found in
    let at = mapped_from file demuxed.audios k own.stream (ap (λ (xs : List AudioStream). slice_get xs k) (sym demuxed.audio_packets) ∙ own.stream_is) in
    let pid : slice_index (pids_in place) place.index ≡ at.stream.pid =
    ap₂ slice_index (pids_same file number drop start program (suc k) Packet place is stream ∙ ap (map (λ (s : Stream). s.pid)) demuxed.streams) stream.index_is ∙ at.pid_is in
    let whole : bytes_of place file ≡ flat_map (λ packet. packet.bytes) own.stream.units =
    ap₂ (λ (p : HeldPart) (n : ℕ). stream_of p file n) stream.part_is pid ∙ ap (λ (a : AudioStream). bytes_in Packet a.units) (sym at.audio_is) in
    let front = taken_front false (λ packet. packet.bytes) own.stream.units in
    record { more = front.more; whole_is = whole ∙ front.whole_is ∙ ap (λ (es : List ℕ). es ++ front.more) (sym own.bytes_are) }

all_got : {A : Type 0} (P : A → Type 0) (xs : List A) (k : ℕ) (x : A) → All P xs → slice_get xs k ≡ Some x → P x
all_got P [] k x all found = absurd (let bad : None ≡ Some x = found in cc)
all_got P (y ∷ ys) zero x all found = subst P (same_Some y x found) (All-head P y ys all)
all_got P (y ∷ ys) (suc k) x all found = all_got P ys k x (All-tail P y ys all) found

pub pieces_stand : (program : Program) (k : ℕ) (source : AudioSource) → IsSendable program → slice_get program.audios k ≡ Some source → All (IsPieceOf source.bytes) source.pieces
pieces_stand program k source sendable found = all_got (λ (audio : AudioSource). All (IsPieceOf audio.bytes) audio.pieces) program.audios k source sendable.audio found

pub holds_audio : (file : List ℕ) (number : ℕ) (drop : List ℕ) (start : ℕ) (program : Program) (k : ℕ) (source : AudioSource) (lane : AudioLane) → All (IsPieceOf source.bytes) source.pieces
    → IsProgramOfFile Ts file number drop start program → slice_get program.audios k ≡ Some source → IsStreamOf program (suc k) Packet lane.stream → lane.pieces.now ≡ source.pieces
    → HoldsAudio lane file
holds_audio file number drop start program k source lane pieces is found stream same =
    let front = audio_front file number drop start program k source lane.stream is found stream in
    let size = ap length front.whole_is in
    let own : All (IsPieceOf source.bytes) lane.pieces.now = subst (All (IsPieceOf source.bytes)) (sym same) pieces in
    All-from_get_or (λ (piece : AudioPiece). HasBytesTo lane.stream (piece.at + piece.packet.bytes) file) lane.pieces.now no_piece (λ i within. record {
      sound = sound_there file number drop start program (suc k) Packet lane.stream is stream;
      long = let inside = (All-get_or (IsPieceOf source.bytes) lane.pieces.now i no_piece within own).inside in
          omega (arith, inside, size, length-append source.bytes front.more);
    })

-- ---- what is sent

pub versions_there : (file : List ℕ) (number : ℕ) (drop : List ℕ) (start : ℕ) (program : Program) (lane : VideoLane) (versions : List (List UnitVersion)) → IsSendable program
    → IsProgramOfFile Ts file number drop start program → IsStreamOf program 0 Payload lane.stream → lane.units.now ≡ program.units
    → AreVideoVersions program.video lane.coarser.now None program.units versions → AreVersionsIn lane file versions
versions_there file number drop start program lane versions sendable is stream same are =
    let front = video_front file number drop start program lane.stream is stream in
    subst (λ (es : List ℕ). AreVideoVersions es lane.coarser.now None lane.units.now versions) (sym front.whole_is)
    (subst (λ (us : List UnitSource). AreVideoVersions (program.video ++ front.more) lane.coarser.now None us versions) (sym same)
    (versions_longer program.video front.more lane.coarser.now None program.units versions sendable.units are))

abbrev carried : Bool → List ℕ → Carried
carried start bytes = record { start = start; bytes = bytes }

payloads_longer : (es more : List ℕ) (pieces : List AudioPiece) → All (IsPieceOf es) pieces → map (audio_payload (es ++ more)) pieces ≡ map (audio_payload es) pieces
payloads_longer es more [] all = refl
payloads_longer es more (p ∷ ps) all =
    let inside = (All-head (IsPieceOf es) p ps all).inside in
    ap₂ (λ (x : Carried) (xs : List Carried). x ∷ xs)
    (ap (λ (bytes : List ℕ). carried p.start bytes) (part_longer es more p.at (p.at + p.packet.bytes) (omega arith) inside))
    (payloads_longer es more ps (All-tail (IsPieceOf es) p ps all))

pub payloads_there : (file : List ℕ) (number : ℕ) (drop : List ℕ) (start : ℕ) (program : Program) (k : ℕ) (source : AudioSource) (lane : AudioLane) → All (IsPieceOf source.bytes) source.pieces
    → IsProgramOfFile Ts file number drop start program → slice_get program.audios k ≡ Some source → IsStreamOf program (suc k) Packet lane.stream → lane.pieces.now ≡ source.pieces
    → map (audio_payload (bytes_of lane.stream file)) lane.pieces.now ≡ map (audio_payload source.bytes) source.pieces
payloads_there file number drop start program k source lane pieces is found stream same =
    let front = audio_front file number drop start program k source lane.stream is found stream in
    ap₂ (λ (es : List ℕ) (ps : List AudioPiece). map (audio_payload es) ps) front.whole_is same ∙ payloads_longer source.bytes front.more source.pieces pieces
