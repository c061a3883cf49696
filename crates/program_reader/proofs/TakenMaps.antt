-- The map of what is taken out of a file of either form can be written.
use Rattle.std.proofs.Common.{◌≡◌, ℕ, ◌+◌, ◌*◌, ◌^◌, ◌<◌, ◌≤◌, zero, suc, ◌==◌, Bool, true, false, cond, List, [], ◌∷◌, ◌++◌, All, length, leb, map, not, slice_get, Some, refl, sym, ap, subst, ◌∙◌, arith}
use Rattle.std.specs.List.{filter, find, flat_map}
use Rattle.std.proofs.lemmas.Bool.{and_parts, leb-true}
use Rattle.std.proofs.lemmas.Bool.Decides.{nat_tests}
use Rattle.std.proofs.lemmas.List.{length-append}
use Rattle.std.proofs.lemmas.List.Elements.{All-cons, All-head, All-map, All-nil, All-tail, All-weaker, filter_passes}
use Rattle.std.proofs.lemmas.Option.{none-some, same_Some}
use Rattle.audio_frames.specs.Frames.{has_low_rate}
use Rattle.psi_tables.specs.declared.program_map.ProgramMap.{ProgramMap}
use Rattle.psi_tables.specs.declared.stream.Stream.{Stream}
use Rattle.psi_tables.specs.Descriptors.{is_kept}
use Rattle.psi_tables.specs.Pmt.{pids_of, pmt_length}
use Rattle.psi_tables.specs.Streams.{IsStreamWritable, written_stream}
use Rattle.pes_units.specs.PesHeader.{is_stream_id}
use Rattle.ts_demux.specs.declared.demuxed.AudioStream.{AudioStream}
use Rattle.ts_demux.specs.declared.demuxed.Demuxed.{Demuxed}
use Rattle.ts_demux.specs.CarriedPackets.{AreDistinct}
use Rattle.ts_demux.specs.Demux.{HasCarriedMap}
use Rattle.ts_demux.specs.Streams.{is_among}
use Rattle.ts_demux.proofs.DistinctPids.{carried_distinct, distinct_more, not_among}
use Rattle.program_stream.specs.Elements.{Element}
use Rattle.program_stream.specs.Split.{IsSplit}
use Rattle.program_stream.specs.Streams.{carried_audio_ids, first_coming, ids_of, is_carried_audio, map_stream, stream_with_id}
use Rattle.job_report.specs.declared.job.Form.{Form}
use Rattle.job_report.specs.declared.job.Form.TheVariants.{Ts, Ps}
use Rattle.elementary_streams.specs.Audio.{audio_type, taken_of}
use Rattle.program_reader.specs.AudioTypes.{typed}
use Rattle.elementary_streams.specs.Packets.{joined}
use Rattle.program_reader.specs.Programs.{IsTakenOut, StandIn, in_packets, in_elements}
use Rattle.program_reader.specs.ReadProgram.{CanBeWritten}
use Rattle.program_reader.proofs.AudioMaps.{by_type}
use Rattle.program_reader.proofs.TakenOut.{of-elements, typed-streams}
use Rattle.program_reader.proofs.Maps.{HasKind, carried-kinds, carried-writable}

-- ---- stream ids of a program stream

-- an id is a byte
abbrev IsSmall : ℕ → Type 0
IsSmall id = id < 256

video-small : (id : ℕ) → is_stream_id true id ≡ true → IsSmall id
video-small id is = omega (arith, leb-true id 0xEF (and_parts (leb 0xE0 id) (leb id 0xEF) is).1)

audio-small : (drop : List ℕ) (id : ℕ) → is_carried_audio drop id ≡ true → IsSmall id
audio-small drop id is =
    let audio : is_stream_id false id ≡ true = (and_parts (is_stream_id false id) (not (is_among drop id)) is).0 in
    omega (arith, leb-true id 0xDF (and_parts (leb 0xC0 id) (leb id 0xDF) audio).1)

first-all : (P : ℕ → Type 0) (before ids : List ℕ) → All P ids → All P (first_coming before ids)
first-all P before [] all = All-nil P
first-all P before (x ∷ ids) all =
    by_test (is_among before x) (first-all P before ids (All-tail P x ids all)) (first-all P (before ++ x ∷ []) ids (All-tail P x ids all))
  where
    by_test : (is : Bool) → All P (first_coming before ids) → All P (first_coming (before ++ x ∷ []) ids)
        → All P (cond is (first_coming before ids) (x ∷ first_coming (before ++ x ∷ []) ids))
    by_test true same more = same
    by_test false same more = All-cons P x (first_coming (before ++ x ∷ []) ids) (All-head P x ids all) more

found-passes : (p : ℕ → Bool) (ids : List ℕ) (id : ℕ) → find p ids ≡ Some id → p id ≡ true
found-passes p [] id found = absurd (none-some id found)
found-passes p (x ∷ ids) id found = by_test (p x) refl found (found-passes p ids id)
  where
    by_test : (is : Bool) → p x ≡ is → cond is (Some x) (find p ids) ≡ Some id → (find p ids ≡ Some id → p id ≡ true) → p id ≡ true
    by_test true is same later = subst (λ (one : ℕ). p one ≡ true) (same_Some x id same) is
    by_test false is same later = later same

pids-small : (file drop : List ℕ) (found : Demuxed) (cut : ℕ) → IsSplit file drop found cut → All (λ (audio : AudioStream). IsSmall audio.pid) found.audios
pids-small file drop found cut is =
    let ids : All IsSmall (carried_audio_ids drop is.elements) =
    first-all IsSmall [] (filter (is_carried_audio drop) (ids_of is.elements))
    (All-weaker (λ (id : ℕ). is_carried_audio drop id ≡ true) IsSmall (audio-small drop) (filter (is_carried_audio drop) (ids_of is.elements))
    (filter_passes (is_carried_audio drop) (ids_of is.elements))) in
    subst (All (λ (audio : AudioStream). IsSmall audio.pid)) (sym is.audio_packets)
    (All-map (λ (audio : AudioStream). IsSmall audio.pid) (stream_with_id is.elements) (carried_audio_ids drop is.elements) ids)

-- ---- ids that differ

-- an id that comes first behind some isn't among them
first-apart : (before ids : List ℕ) (k id : ℕ) → slice_get (first_coming before ids) k ≡ Some id → is_among before id ≡ false
first-apart before [] k id there = absurd cc
first-apart before (x ∷ ids) k id there =
    by_test (λ j is. first-apart (before ++ x ∷ []) ids j id is) (λ j is. first-apart before ids j id is) (is_among before x) refl k there
  where
    by_test : ((j : ℕ) → slice_get (first_coming (before ++ x ∷ []) ids) j ≡ Some id → is_among (before ++ x ∷ []) id ≡ false) →
        ((j : ℕ) → slice_get (first_coming before ids) j ≡ Some id → is_among before id ≡ false) → (is : Bool) → is_among before x ≡ is → (k : ℕ) →
        slice_get (cond is (first_coming before ids) (x ∷ first_coming (before ++ x ∷ []) ids)) k ≡ Some id → is_among before id ≡ false
    by_test behind same true is k there = same k there
    by_test behind same false is zero there = subst (λ (one : ℕ). is_among before one ≡ false) (same_Some x id there) is
    by_test behind same false is (suc k) there = (not_among before x id (behind k there)).0

first-distinct : (before ids : List ℕ) → AreDistinct (first_coming before ids)
first-distinct before [] = λ j k id one other. absurd cc
first-distinct before (x ∷ ids) = by_test (first-distinct before ids) (first-distinct (before ++ x ∷ []) ids) (is_among before x)
  where
    by_test : AreDistinct (first_coming before ids) → AreDistinct (first_coming (before ++ x ∷ []) ids) → (is : Bool)
        → AreDistinct (cond is (first_coming before ids) (x ∷ first_coming (before ++ x ∷ []) ids))
    by_test same behind true = same
    by_test same behind false =
        distinct_more x (first_coming (before ++ x ∷ []) ids) (λ k id there. (not_among before x id (first-apart (before ++ x ∷ []) ids k id there)).1) behind

-- no audio stream has the video's
video-apart : (video : ℕ) (ids : List ℕ) → is_stream_id true video ≡ true → All (λ (id : ℕ). is_stream_id false id ≡ true) ids → (k id : ℕ) → slice_get ids k ≡ Some id
    → (video == id) ≡ false
video-apart video [] is all k id there = absurd cc
video-apart video (x ∷ ids) is all zero id there =
    let audio : is_stream_id false x ≡ true = All-head (λ (one : ℕ). is_stream_id false one ≡ true) x ids all in
    let low = leb-true x 0xDF (and_parts (leb 0xC0 x) (leb x 0xDF) audio).1 in
    let high = leb-true 0xE0 video (and_parts (leb 0xE0 video) (leb video 0xEF) is).0 in
    subst (λ (one : ℕ). (video == one) ≡ false) (same_Some x id there) (grind (arith, nat_tests))
video-apart video (x ∷ ids) is all (suc k) id there = video-apart video ids is (All-tail (λ (one : ℕ). is_stream_id false one ≡ true) x ids all) k id there

audio-ids : (drop ids : List ℕ) → All (λ (id : ℕ). is_stream_id false id ≡ true) (first_coming [] (filter (is_carried_audio drop) ids))
audio-ids drop ids =
    first-all (λ (id : ℕ). is_stream_id false id ≡ true) [] (filter (is_carried_audio drop) ids)
    (All-weaker (λ (id : ℕ). is_carried_audio drop id ≡ true) (λ (id : ℕ). is_stream_id false id ≡ true)
    (λ id is. (and_parts (is_stream_id false id) (not (is_among drop id)) is).0) (filter (is_carried_audio drop) ids) (filter_passes (is_carried_audio drop) ids))

-- the PIDs of audio streams that are named by some ids are these
typed-pids : (elements : List Element) (ids : List ℕ) → map (λ (stream : Stream). stream.pid) (map by_type (map (stream_with_id elements) ids)) ≡ ids
typed-pids elements [] = refl
typed-pids elements (id ∷ ids) = ap (λ (rest : List ℕ). id ∷ rest) (typed-pids elements ids)

-- ---- streams without descriptors

plain-writable : (kind id : ℕ) → IsSmall id → IsStreamWritable (map_stream kind id)
plain-writable kind id small = record { pid = omega (arith, small); descriptors = []; descriptors_are = refl; kept = filter_passes is_kept [] }

plain-length : (kind id : ℕ) → length (written_stream (map_stream kind id)) ≡ 5
plain-length kind id = refl

typed-length : (audios : List AudioStream) → length (flat_map written_stream (map by_type audios)) ≡ 5 * length audios
typed-length [] = refl
typed-length (audio ∷ audios) =
    let here : length (written_stream (by_type audio)) ≡ 5 = plain-length (audio_type audio) audio.pid in
    let both = length-append (written_stream (by_type audio)) (flat_map written_stream (map by_type audios)) in
    omega (arith, here, both, typed-length audios)

type-small : (low : Bool) → cond low 4 3 < 256
type-small true = omega arith
type-small false = omega arith

-- ---- streams of a transport stream

pub carried-written : (file : List ℕ) (number : ℕ) (drop : List ℕ) (carried : ProgramMap) (others : List ℕ) → HasCarriedMap file number drop carried others → pmt_length carried ≤ 183
    → CanBeWritten carried
carried-written file number drop carried others tables short = record {
  writable = carried-writable file number drop carried others tables;
  fits = short;
  kinds = carried-kinds file number drop carried others tables;
  apart = carried_distinct drop tables.whole carried others tables.carried_is;
}

-- ---- both forms

ids-of : (file drop : List ℕ) (found : Demuxed) (cut : ℕ) (is : IsSplit file drop found cut)
    → map (λ (stream : Stream). stream.pid) (map by_type found.audios) ≡ carried_audio_ids drop is.elements
ids-of file drop found cut is =
    ap (λ (xs : List AudioStream). map (λ (stream : Stream). stream.pid) (map by_type xs)) is.audio_packets ∙ typed-pids is.elements (carried_audio_ids drop is.elements)

map-of-elements : (file drop : List ℕ) (found : Demuxed) (cut : ℕ) → IsSplit file drop found cut → CanBeWritten (typed Ps found).map
map-of-elements file drop found cut is =
    let streams = typed-streams file drop found cut is in
    let video : IsSmall is.video = video-small is.video (found-passes (is_stream_id true) (ids_of is.elements) is.video is.video_is) in
    let pids = pids-small file drop found cut is in
    let audios : List Stream = map by_type found.audios in
    let few : length found.audios ≤ 8 = (of-elements file drop found cut is).few in
    let own : length (written_stream (map_stream 2 is.video)) ≡ 5 = plain-length 2 is.video in
    let both = length-append (written_stream (map_stream 2 is.video)) (flat_map written_stream audios) in
    let size : 16 + length (flat_map written_stream (map_stream 2 is.video ∷ audios)) ≤ 183 = omega (arith, own, both, typed-length found.audios, few) in
    record {
      writable = record {
        pcr = subst (λ (m : ProgramMap). m.pcr_pid < 2 ^ 13) (sym is.map_is) (omega arith);
        streams = subst (All IsStreamWritable) (sym streams) (All-cons IsStreamWritable (map_stream 2 is.video) audios (plain-writable 2 is.video video)
            (All-map IsStreamWritable by_type found.audios
            (All-weaker (λ (audio : AudioStream). IsSmall audio.pid) (λ (audio : AudioStream). IsStreamWritable (by_type audio)) (λ audio small. plain-writable (audio_type audio) audio.pid small)
            found.audios pids)));
      };
      fits = subst (λ (xs : List Stream). 16 + length (flat_map written_stream xs) ≤ 183) (sym streams) size;
      kinds = subst (All HasKind) (sym streams) (All-cons HasKind (map_stream 2 is.video) audios (omega arith)
          (All-map HasKind by_type found.audios (All-weaker (λ (audio : AudioStream). IsSmall audio.pid) (λ (audio : AudioStream). HasKind (by_type audio))
          (λ audio small. type-small (has_low_rate (joined (taken_of audio)))) found.audios pids)));
      apart = subst (λ (xs : List Stream). AreDistinct (map (λ (stream : Stream). stream.pid) xs)) (sym streams)
          (subst (λ (xs : List ℕ). AreDistinct (is.video ∷ xs)) (sym (ids-of file drop found cut is))
          (distinct_more is.video (carried_audio_ids drop is.elements)
          (video-apart is.video (carried_audio_ids drop is.elements) (found-passes (is_stream_id true) (ids_of is.elements) is.video is.video_is) (audio-ids drop (ids_of is.elements)))
          (first-distinct [] (filter (is_carried_audio drop) (ids_of is.elements)))));
    }

by-form : (form : Form) (file : List ℕ) (number : ℕ) (drop : List ℕ) (found : Demuxed) (cut : ℕ) → StandIn form file number drop found cut → CanBeWritten (typed form found).map
by-form form file number drop found cut (in_packets is_form is none) =
    subst (λ (f : Form). CanBeWritten (typed f found).map) (sym is_form) (carried-written file number drop found.map found.not_carried is.tables is.short)
by-form form file number drop found cut (in_elements is_form one is) = subst (λ (f : Form). CanBeWritten (typed f found).map) (sym is_form) (map-of-elements file drop found cut is)

pub taken-written : (form : Form) (file : List ℕ) (number : ℕ) (drop : List ℕ) (demuxed : Demuxed) → IsTakenOut form file number drop demuxed → CanBeWritten demuxed.map
taken-written form file number drop demuxed is =
    subst (λ (d : Demuxed). CanBeWritten d.map) (sym is.typed_is) (by-form form file number drop is.found is.cut is.stand)
