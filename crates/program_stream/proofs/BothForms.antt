-- What is taken out of a file of either form.
use Rattle.std.proofs.Common.{◌≡◌, ◌≢◌, ℕ, ◌⊎◌, ◌==◌, inl, inr, Bool, true, false, not, cond, ◌&&◌, ◌||◌, List, [], ◌∷◌, ◌++◌, length, map, Some, refl, sym, ap, ◌∙◌, subst, arith}
use Rattle.std.specs.List.{AllByRecursion, filter, find, flat_map}
use Rattle.bit_lists.specs.Payload.{CarriedPayload}
use Rattle.ts_packets.specs.TransportStream.{piece_count, pid_pieces, rest_of}
use Rattle.ts_packets.specs.Carried.{carried}
use Rattle.psi_tables.specs.declared.stream.Stream.{Stream}
use Rattle.pes_units.specs.PesHeader.{is_stream_id}
use Rattle.pes_units.specs.PesPackets.{Gathered, gathered, AreCuts}
use Rattle.ts_demux.specs.declared.demuxed.Demuxed.{Demuxed}
use Rattle.ts_demux.specs.Streams.{is_among}
use Rattle.ts_demux.specs.Demux.{IsDemuxed, pes_packets_on}
use Rattle.program_stream.specs.Elements.{Element, is_video_or_audio}
use Rattle.program_stream.specs.Streams.{packets_of, stream_with_id, ids_of, first_coming, first_video_id, is_carried_audio, carried_audio_ids, other_stream_ids, map_of}
use Rattle.program_stream.specs.Split.{IsSplit}
use Rattle.program_stream.specs.Forms.{packet_bytes, CarriesBytes, IsInProgramStream, IsCarriedOn, IsInTransportStream}
use Rattle.program_stream.proofs.Packets.{same_number, equal_test, packets_of-none}
use Rattle.program_stream.proofs.WalkSteps.{audio_no_video}

-- ---- in a program stream

-- those of one kind have one id
abbrev AreOnly : (ℕ → Bool) → ℕ → List Element → Type 0
AreOnly p id elements = AllByRecursion (λ element. p element.id ≡ true → element.id ≡ id) elements

found_first : (p : ℕ → Bool) (id : ℕ) (elements : List Element) → p id ≡ true → AreOnly p id elements → is_among (ids_of elements) id ≡ true → find p (ids_of elements) ≡ Some id
found_first p id [] passes only there = absurd cc
found_first p id (x ∷ elements) passes only there = by_test (λ among. found_first p id elements passes only.1 among) (p x.id) refl
  where
    by_test : (is_among (ids_of elements) id ≡ true → find p (ids_of elements) ≡ Some id) → (is : Bool) → p x.id ≡ is → cond is (Some x.id) (find p (ids_of elements)) ≡ Some id
    by_test others true is = ap Some (only.0 is)
    by_test others false is = others (behind (x.id == id) refl there)
      where
        behind : (same : Bool) → (x.id == id) ≡ same → (same || is_among (ids_of elements) id) ≡ true → is_among (ids_of elements) id ≡ true
        behind true same among = (let one : x.id ≡ id = same_number x.id id same in let both : p id ≡ false = subst (λ (n : ℕ). p n ≡ false) one is in absurd cc)
        behind false same among = among

none_new : (p : ℕ → Bool) (id : ℕ) (elements : List Element) (before : List ℕ) → is_among before id ≡ true → AreOnly p id elements → first_coming before (filter p (ids_of elements)) ≡ []
none_new p id [] before there only = refl
none_new p id (x ∷ elements) before there only = by_test (none_new p id elements before there only.1) (p x.id) refl
  where
    by_test : first_coming before (filter p (ids_of elements)) ≡ [] → (is : Bool) → p x.id ≡ is → first_coming before (cond is (x.id ∷ filter p (ids_of elements)) (filter p (ids_of elements))) ≡ []
    by_test others true is =
        let among : is_among before x.id ≡ true = ap (is_among before) (only.0 is) ∙ there in
        ap (λ (b : Bool). cond b (first_coming before (filter p (ids_of elements))) (x.id ∷ first_coming (before ++ x.id ∷ []) (filter p (ids_of elements)))) among ∙ others
    by_test others false is = others

one_new : (p : ℕ → Bool) (id : ℕ) (elements : List Element) → p id ≡ true → AreOnly p id elements → is_among (ids_of elements) id ≡ true → first_coming [] (filter p (ids_of elements)) ≡ id ∷ []
one_new p id [] passes only there = absurd cc
one_new p id (x ∷ elements) passes only there = by_test (λ among. one_new p id elements passes only.1 among) (p x.id) refl
  where
    by_test : (is_among (ids_of elements) id ≡ true → first_coming [] (filter p (ids_of elements)) ≡ id ∷ []) → (is : Bool) → p x.id ≡ is →
        first_coming [] (cond is (x.id ∷ filter p (ids_of elements)) (filter p (ids_of elements))) ≡ id ∷ []
    by_test others true is =
        let same : x.id ≡ id = only.0 is in
        ap (λ (xs : List ℕ). x.id ∷ xs) (none_new p id elements (x.id ∷ []) (ap (λ (b : Bool). b || false) (subst (λ (n : ℕ). (x.id == n) ≡ true) same (equal_test x.id))) only.1) ∙ ap (λ (n : ℕ). n ∷ []) same
    by_test others false is = others (behind (x.id == id) refl there)
      where
        behind : (same : Bool) → (x.id == id) ≡ same → (same || is_among (ids_of elements) id) ≡ true → is_among (ids_of elements) id ≡ true
        behind true same among = (let one : x.id ≡ id = same_number x.id id same in let both : p id ≡ false = subst (λ (n : ℕ). p n ≡ false) one is in absurd cc)
        behind false same among = among

-- an id that has packets comes
comes : (elements : List Element) (id : ℕ) (packets : List (List ℕ)) → packet_bytes (packets_of elements id) ≡ packets → packets ≢ [] → is_among (ids_of elements) id ≡ true
comes elements id packets are some = by_test (is_among (ids_of elements) id) refl
  where
    by_test : (there : Bool) → is_among (ids_of elements) id ≡ there → there ≡ true
    by_test true there = refl
    by_test false there = absurd (some (sym are ∙ ap packet_bytes (packets_of-none elements id there)))

abbrev IsOneOf : ℕ → ℕ → Element → Type 0
IsOneOf video audio element = is_video_or_audio element.id ≡ true → (element.id ≡ video) ⊎ (element.id ≡ audio)

only_video : (ids : List ℕ) (video audio : ℕ) (elements : List Element) → is_carried_audio ids audio ≡ true → AllByRecursion (IsOneOf video audio) elements → AreOnly (is_stream_id true) video elements
only_video ids video audio [] kind all = tt
only_video ids video audio (x ∷ elements) kind all = (here, only_video ids video audio elements kind all.1)
  where
    here : is_stream_id true x.id ≡ true → x.id ≡ video
    here passes = elim (all.0 (ap (λ (b : Bool). b || is_stream_id false x.id) passes)) [
      | inl is ↦ is
      | inr is ↦ (let no_video : is_stream_id true x.id ≡ false = audio_no_video ids x.id (ap (is_carried_audio ids) is ∙ kind) in absurd cc)
    ]

only_audio : (ids : List ℕ) (video audio : ℕ) (elements : List Element) → is_stream_id true video ≡ true → AllByRecursion (IsOneOf video audio) elements → AreOnly (is_carried_audio ids) audio elements
only_audio ids video audio [] kind all = tt
only_audio ids video audio (x ∷ elements) kind all = (here, only_audio ids video audio elements kind all.1)
  where
    or_right : (a : Bool) {b : Bool} → b ≡ true → (a || b) ≡ true
    or_right true is = refl
    or_right false is = is

    and_left : (a b : Bool) → (a && b) ≡ true → a ≡ true
    and_left true b is = refl
    and_left false b is = absurd cc

    here : is_carried_audio ids x.id ≡ true → x.id ≡ audio
    here passes = elim (all.0 (or_right (is_stream_id true x.id) (and_left (is_stream_id false x.id) (not (is_among ids x.id)) passes))) [
      | inl is ↦ (let no_video : is_stream_id true x.id ≡ false = audio_no_video ids x.id passes in let video_kind : is_stream_id true x.id ≡ true = ap (is_stream_id true) is ∙ kind in absurd cc)
      | inr is ↦ is
    ]

pub of_program_stream : (file ids : List ℕ) (video audio : List (List ℕ)) → IsInProgramStream file ids video audio → (demuxed : Demuxed) × (cut : ℕ) × IsSplit file ids demuxed cut × CarriesBytes demuxed video audio
of_program_stream file ids video audio is =
    let es = is.elements in
    let found : first_video_id es ≡ Some is.video_id =
    found_first (is_stream_id true) is.video_id es is.video_kind (only_video ids is.video_id is.audio_id es is.audio_kind is.no_others) (comes es is.video_id video is.video_are is.some_video) in
    let one : carried_audio_ids ids es ≡ is.audio_id ∷ [] =
    one_new (is_carried_audio ids) is.audio_id es is.audio_kind (only_audio ids is.video_id is.audio_id es is.video_kind is.no_others) (comes es is.audio_id audio is.audio_are is.some_audio) in
    let demuxed : Demuxed = record {
      map = map_of is.video_id (carried_audio_ids ids es);
      video = packets_of es is.video_id;
      audios = map (stream_with_id es) (carried_audio_ids ids es);
      rest = 0;
      not_carried = other_stream_ids ids is.video_id es;
    } in (
      demuxed,
      is.cut,
      record {
        elements = es;
        elements_are = is.elements_are;
        video = is.video_id;
        video_is = found;
        few = omega (arith, ap length one);
        map_is = refl;
        video_packets = refl;
        audio_packets = refl;
        others_are = refl;
        no_rest = refl;
      },
      record { video_are = is.video_are; stream = stream_with_id es is.audio_id; one_audio = ap (map (stream_with_id es)) one; audio_are = is.audio_are },
    )

-- ---- in a transport stream

gathered_bytes : (packets : List Gathered) → packet_bytes (map (λ (packet : Gathered). record { at = packet.at; bytes = packet.bytes }) packets) ≡ map (λ (packet : Gathered). packet.bytes) packets
gathered_bytes [] = refl
gathered_bytes (packet ∷ packets) = ap (λ (xs : List (List ℕ)). packet.bytes ∷ xs) (gathered_bytes packets)

-- the law that packets cut in any way are gathered again
abbrev pub GatheredAgain : Type 0
GatheredAgain = (packets : List Gathered) (cuts : List (List CarriedPayload)) → AreCuts packets cuts → gathered (flat_map (λ pieces. pieces) cuts) ≡ packets

carried_bytes : GatheredAgain → (file : List ℕ) (stream : Stream) (packets : List (List ℕ)) → IsCarriedOn file stream.pid packets → packet_bytes (pes_packets_on file stream).units ≡ packets
carried_bytes again file stream packets is =
    let all : gathered (carried (pid_pieces file stream.pid 0 (piece_count file))) ≡ is.gathered = ap gathered is.carried_are ∙ again is.gathered is.cuts is.are_cuts in
    ap (λ (xs : List Gathered). packet_bytes (map (λ (packet : Gathered). record { at = packet.at; bytes = packet.bytes }) xs)) all ∙ gathered_bytes is.gathered ∙ is.bytes_are

pub of_transport_stream : GatheredAgain → (file : List ℕ) (program : ℕ) (ids : List ℕ) (video audio : List (List ℕ)) → IsInTransportStream file program ids video audio →
    (demuxed : Demuxed) × IsDemuxed file program ids demuxed × CarriesBytes demuxed video audio
of_transport_stream again file program ids video audio is =
    let demuxed : Demuxed = record {
      map = is.carried_map;
      video = (pes_packets_on file is.video_stream).units;
      audios = pes_packets_on file is.audio_stream ∷ [];
      rest = length (rest_of file);
      not_carried = is.others;
    } in (
      demuxed,
      record {
        tables = is.tables;
        few = omega (arith, ap length is.streams);
        short = is.short;
        sound = is.sound;
        video = is.video_stream;
        audios = is.audio_stream ∷ [];
        streams = is.streams;
        video_packets = refl;
        audio_packets = refl;
        rest_is = refl;
      },
      record {
        video_are = carried_bytes again file is.video_stream video is.video_carried;
        stream = pes_packets_on file is.audio_stream;
        one_audio = refl;
        audio_are = carried_bytes again file is.audio_stream audio is.audio_carried;
      },
    )
