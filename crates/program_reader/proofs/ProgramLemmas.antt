-- A program of what is read of its streams.
use Rattle.std.proofs.Common.{
  ◌≡◌,
  ◌⊎◌,
  ℕ,
  suc,
  ◌+◌,
  ◌-◌,
  ◌^◌,
  ◌<◌,
  ◌≤◌,
  min,
  Bool,
  true,
  false,
  List,
  [],
  ◌∷◌,
  ◌++◌,
  length,
  take,
  map,
  get_or,
  All,
  Contains,
  Option,
  None,
  Some,
  Result,
  Ok,
  Err,
  MatchResult,
  IfSome,
  if◌then◌else◌,
  refl,
  sym,
  ap,
  ap₂,
  ◌∙◌,
  subst,
  inl,
  inr,
  arith,
  ℤ,
  ◌≤ℤ◌,
}
use Rattle.std.specs.List.{sum_by}
use Rattle.std.specs.Option.{option_map}
use Rattle.std.proofs.lemmas.List.{take_more, append-nil, length-map}
use Rattle.std.proofs.lemmas.List.Elements.{All-cons, All-nil, All-append, All-map, All-contains, Contains-get_or, Contains-append_left, Contains-append_right}
use Rattle.std.proofs.lemmas.List.Folds.{flat_map-map}
use Rattle.std.proofs.lemmas.List.Sums.{sum_by-cons}
use Rattle.std.proofs.lemmas.Grind.{flat_map-append}
use Rattle.std.proofs.Math.ListN as lists
use Rattle.audio_frames.specs.declared.frame.Frame.{Frame}
use Rattle.es_units.specs.declared.units.Units.{Units}
use Rattle.es_units.specs.Units.{first_sequence, cuts_up_to, cuts_behind, cut_units}
use Rattle.list_types.specs.Spans.{spans}
use Rattle.pes_units.specs.PesPackets.{is_dropped}
use Rattle.ts_demux.specs.declared.demuxed.AudioStream.{AudioStream}
use Rattle.ts_demux.specs.declared.demuxed.Demuxed.{Demuxed}
use Rattle.ts_demux.specs.declared.demuxed.PesUnit.{PesUnit}
use Rattle.job_report.specs.declared.job.Form.{Form}
use Rattle.elementary_streams.specs.declared.audio_stream.ReadStream.{ReadStream}
use Rattle.program_reader.specs.declared.due.DueClock.{DueClock}
use Rattle.program_reader.specs.declared.kept_units.KeptUnit.{KeptUnit}
use Rattle.program_reader.specs.declared.kept_units.KeptUnits.{KeptUnits}
use Rattle.program_reader.specs.declared.limits.TheConstants.{FILE_BYTES_MOST}
use Rattle.elementary_streams.specs.declared.pes_packets.PlacedPacket.{PlacedPacket}
use Rattle.elementary_streams.specs.declared.pes_packets.TakenPackets.{TakenPackets}
use Rattle.program_reader.specs.declared.program.AudioSource.{AudioSource}
use Rattle.program_reader.specs.declared.program.UnitSource.{UnitSource}
use Rattle.elementary_streams.specs.declared.stream_fault.StreamFault.{StreamFault}
use Rattle.elementary_streams.specs.declared.stream_fault.StreamFault.TheVariants as stream_faults
use Rattle.program_reader.specs.declared.program_fault.ProgramFault.{ProgramFault}
use Rattle.program_reader.specs.declared.program_fault.ProgramFault.TheVariants.{Refused, OutOfMemory}
use Rattle.program_reader.specs.declared.program_fault.SourceKind.TheVariants as kinds
use Rattle.program_reader.specs.declared.timed_picture.TimedPicture.{TimedPicture}
use Rattle.program_reader.specs.declared.video_stream.ReadVideo.{ReadVideo}
use Rattle.program_reader.specs.Faults.{of_stream}
use Rattle.program_reader.specs.KeptUnits.{AreRows, first_of}
use Rattle.program_reader.specs.Audio.{IsAudioFault, IsDue, AreAudioSources}
use Rattle.elementary_streams.specs.Packets.{IsPacketFault, taken, packets_dropped, joined, placed_from}
use Rattle.program_reader.specs.Programs.{HasFewPackets, video_bytes, video_packets, HasUnits, HasNoSequence, all_times, IsEarliest, IsBase, AreUnitSources, IsProgram, all_packets_dropped, IsTakenOut, IsDemuxedRefused, IsProgramRefused}
use Rattle.program_reader.specs.Units.{AreInOrder, AreKept, all, but_last, last_of, IsBroken, IsUnitsFault}
use Rattle.elementary_streams.specs.NearTimes.{IsNear, IsTime}
use Rattle.program_reader.specs.Private.AudioStreams.{AreStreamsRead}
use Rattle.program_reader.specs.Dues.{AreDueUnits, frame_times, IsTimeFrom, Lowers}
use Rattle.program_reader.specs.Private.KeptUnits.{IsVideo, AreUnitsKept}
use Rattle.program_reader.specs.Private.Sources.{IsVideoRead, AreStreamsFrom, read_times}
use Rattle.elementary_streams.specs.Taken.{AreTaken}
use Rattle.program_reader.proofs.DueLemmas.{lowers_both}
use Rattle.elementary_streams.proofs.StreamLemmas.{bytes_in, taken_bytes, taken_count, placed_count}
use Rattle.program_reader.proofs.StreamsLemmas.{have_frames}

-- ---- the earliest time of streams

pub streams_lower : (streams : List ReadStream) (i : ℕ) (stream : ReadStream) (frames : List Frame) (first before after : ℤ) → i < length streams → stream ≡ get_or streams i stream →
    frames ≡ stream.frames → Lowers (frame_times (take i streams)) first before → Lowers (map (λ frame. frame.time) frames) before after →
    Lowers (frame_times (take (i + 1) streams)) first after
streams_lower streams i stream frames first before after lt is frames_are so_far step =
    let more : take (i + 1) streams ≡ take i streams ++ stream ∷ [] = take_more streams i stream lt ∙ ap (λ (s : ReadStream). take i streams ++ s ∷ []) (sym is) in
    let own : map (λ (frame : Frame). frame.time) frames ≡ frame_times (stream ∷ []) =
    ap (map (λ (frame : Frame). frame.time)) frames_are ∙ sym (append-nil (map (λ (frame : Frame). frame.time) stream.frames)) in
    let all : frame_times (take (i + 1) streams) ≡ frame_times (take i streams) ++ map (λ (frame : Frame). frame.time) frames =
    ap frame_times more ∙ flat_map-append (λ (one : ReadStream). map (λ (frame : Frame). frame.time) one.frames) (take i streams) (stream ∷ [])
    ∙ ap (λ (ts : List ℤ). frame_times (take i streams) ++ ts) (sym own) in
    subst (λ (times : List ℤ). Lowers times first after) (sym all) (lowers_both (frame_times (take i streams)) (map (λ (frame : Frame). frame.time) frames) first before after so_far step)

-- ---- what is known of the times that are read

-- a time of an item is among those of all
map_contains : {A : Type 0} (time : A → ℤ) (items : List A) (k : ℕ) (d : A) → k < length items → Contains (map time items) (time (get_or items k d))
map_contains time items k d lt =
    let count : length (map time items) ≡ length items = length-map items time in
    subst (Contains (map time items)) (lists.get_or-map time items k d) (Contains-get_or (map time items) k (time d) (omega (arith, count, lt)))

stream_times : (first : ℤ) (audios : List AudioStream) (streams : List ReadStream) → AreStreamsRead first audios streams → All IsTime (frame_times streams)
stream_times first [] [] are = All-nil IsTime
stream_times first [] (r ∷ rs) are = absurd are
stream_times first (a ∷ xs) [] are = absurd are
stream_times first (a ∷ xs) (r ∷ rs) are =
    All-append IsTime (map (λ frame. frame.time) r.frames) (frame_times rs) (All-map IsTime (λ (frame : Frame). frame.time) r.frames are.0.ticks) (stream_times first xs rs are.1)

streams_from : (first earliest : ℤ) (audios : List AudioStream) (streams : List ReadStream) → AreStreamsRead first audios streams →
    ((time : ℤ) → Contains (frame_times streams) time → earliest ≤ℤ time) → AreStreamsFrom earliest audios streams
streams_from first earliest [] [] are least = tt
streams_from first earliest [] (r ∷ rs) are least = absurd are
streams_from first earliest (a ∷ xs) [] are least = absurd are
streams_from first earliest (a ∷ xs) (r ∷ rs) are least =
    let times = map (λ (frame : Frame). frame.time) r.frames in (
      record {
        first = first;
        read_is = are.0;
        late = λ k d lt. record {
          is_time = are.0.ticks k d lt;
          order = least (get_or r.frames k d).time (Contains-append_left times (frame_times rs) (get_or r.frames k d).time (map_contains (λ (frame : Frame). frame.time) r.frames k d lt));
        };
      },
      streams_from first earliest xs rs are.1 (λ time there. least time (Contains-append_right times (frame_times rs) time there)),
    )

row_times : (kept : List (ℕ × ℕ)) (pictures : List TimedPicture) (rows : List KeptUnit) → AreRows kept pictures rows →
    map (λ (row : KeptUnit). row.ticks) rows ≡ map (λ (picture : TimedPicture). picture.ticks) pictures
row_times [] [] [] are = refl
row_times [] [] (r ∷ rs) are = absurd are
row_times [] (p ∷ ps) rows are = absurd are
row_times (u ∷ us) [] rows are = absurd are
row_times (u ∷ us) (p ∷ ps) [] are = absurd are
row_times (u ∷ us) (p ∷ ps) (r ∷ rs) are = ap₂ (λ (t : ℤ) (ts : List ℤ). t ∷ ts) (ap (λ (row : KeptUnit). row.ticks) are.0) (row_times us ps rs are.1)

-- the times of pictures and frames are those that are read
times_same : (kept : List (ℕ × ℕ)) (pictures : List TimedPicture) (rows : List KeptUnit) (streams : List ReadStream) → AreRows kept pictures rows →
    read_times rows streams ≡ all_times pictures (map (λ one. one.frames) streams)
times_same kept pictures rows streams are =
    ap₂ (λ (ts us : List ℤ). ts ++ us) (row_times kept pictures rows are)
    (sym (flat_map-map (map (λ (frame : Frame). frame.time)) (λ (one : ReadStream). one.frames) streams))

-- the earliest time is one of those that are read
pub record IsClockOf (demuxed : Demuxed) (video : ReadVideo) (streams : List ReadStream) (earliest : ℤ) : Type 0 where
  pub is_time : IsTime earliest
  pub units_from : All (λ unit. IsTimeFrom earliest unit.ticks) video.units.items
  pub streams_from : AreStreamsFrom earliest demuxed.audios streams
  pub least : All (λ time. earliest ≤ℤ time) (read_times video.units.items streams)
  pub stands : Contains (read_times video.units.items streams) earliest

first_contained : (kept : List (ℕ × ℕ)) (pictures later : List TimedPicture) (first : TimedPicture) (rows : List KeptUnit) (streams : List ReadStream) → pictures ≡ first ∷ later →
    AreRows kept pictures rows → Contains (read_times rows streams) first.ticks
first_contained kept pictures later first rows streams first_is are =
    let times : map (λ (row : KeptUnit). row.ticks) rows ≡ first.ticks ∷ map (λ (picture : TimedPicture). picture.ticks) later =
    row_times kept pictures rows are ∙ ap (map (λ (picture : TimedPicture). picture.ticks)) first_is in
    let there : Contains (first.ticks ∷ map (λ (picture : TimedPicture). picture.ticks) later) first.ticks = (0, omega arith, refl) in
    Contains-append_left (map (λ (row : KeptUnit). row.ticks) rows) (frame_times streams) first.ticks (subst (λ (ts : List ℤ). Contains ts first.ticks) (sym times) there)

pub clock_of : (demuxed : Demuxed) (video : ReadVideo) (streams : List ReadStream) (units : List KeptUnit) (begun middle earliest : ℤ) → units ≡ video.units.items → begun ≡ video.first.ticks →
    IsVideoRead demuxed video → AreStreamsRead video.first.stated demuxed.audios streams → Lowers (map (λ unit. unit.ticks) units) begun middle → Lowers (frame_times streams) middle earliest →
    IsClockOf demuxed video streams earliest
clock_of demuxed video streams units begun middle earliest units_are begun_is is are one two =
    let rows = video.units.items in
    let ticks = map (λ (unit : KeptUnit). unit.ticks) rows in
    let own : Lowers ticks video.first.ticks middle =
    subst (λ (t : ℤ). Lowers ticks t middle) begun_is (subst (λ (us : List KeptUnit). Lowers (map (λ unit. unit.ticks) us) begun middle) units_are one) in
    let all : Lowers (read_times rows streams) video.first.ticks earliest = lowers_both ticks (frame_times streams) video.first.ticks middle earliest own two in
    let first : Contains (read_times rows streams) video.first.ticks =
    first_contained is.kept is.pictures is.has_pictures.later video.first rows streams is.has_pictures.first_is is.rows in
    let stands : Contains (read_times rows streams) earliest = elim all.stands [
      | inl same ↦ subst (Contains (read_times rows streams)) (sym same) first
      | inr there ↦ there
    ] in
    let times : All IsTime (read_times rows streams) =
    All-append IsTime ticks (frame_times streams) (All-map IsTime (λ (unit : KeptUnit). unit.ticks) rows is.ticks) (stream_times video.first.stated demuxed.audios streams are) in
    let order : (time : ℤ) → Contains (read_times rows streams) time → earliest ≤ℤ time =
    λ time there. All-contains (λ (t : ℤ). earliest ≤ℤ t) (read_times rows streams) time all.least there in record {
      is_time = All-contains IsTime (read_times rows streams) earliest times stands;
      units_from = λ k d lt. record {
        is_time = is.ticks k d lt;
        order = order (get_or rows k d).ticks (Contains-append_left ticks (frame_times streams) (get_or rows k d).ticks (map_contains (λ (unit : KeptUnit). unit.ticks) rows k d lt));
      };
      streams_from = streams_from video.first.stated earliest demuxed.audios streams are (λ time there. order time (Contains-append_right ticks (frame_times streams) time there));
      least = all.least;
      stands = stands;
    }

pub earliest_of : (demuxed : Demuxed) (video : ReadVideo) (streams : List ReadStream) (earliest : ℤ) (is : IsVideoRead demuxed video) → IsClockOf demuxed video streams earliest →
    IsEarliest (all_times is.pictures (map (λ one. one.frames) streams)) earliest
earliest_of demuxed video streams earliest is clock =
    let same = times_same is.kept is.pictures video.units.items streams is.rows in record {
      stands = subst (λ (ts : List ℤ). Contains ts earliest) same clock.stands;
      least = subst (λ (ts : List ℤ). All (λ time. earliest ≤ℤ time) ts) same clock.least;
    }

pub unit_sources : (start : ℕ) (earliest : ℤ) (kept : List (ℕ × ℕ)) (pictures : List TimedPicture) (rows : List KeptUnit) (sources : List UnitSource) → AreRows kept pictures rows →
    AreDueUnits start earliest rows sources → AreUnitSources start earliest kept pictures sources
unit_sources start earliest [] [] [] [] are due = tt
unit_sources start earliest [] [] [] (s ∷ ss) are due = absurd due
unit_sources start earliest [] [] (r ∷ rs) sources are due = absurd are
unit_sources start earliest [] (p ∷ ps) rows sources are due = absurd are
unit_sources start earliest (u ∷ us) [] rows sources are due = absurd are
unit_sources start earliest (u ∷ us) (p ∷ ps) [] sources are due = absurd are
unit_sources start earliest (u ∷ us) (p ∷ ps) (r ∷ rs) [] are due = absurd due
unit_sources start earliest (u ∷ us) (p ∷ ps) (r ∷ rs) (s ∷ ss) are due = (
  due.0.begin ∙ ap (λ (row : KeptUnit). row.begin) are.0,
  due.0.end ∙ ap (λ (row : KeptUnit). row.end) are.0,
  due.0.times ∙ ap (λ (row : KeptUnit). row.times) are.0,
  subst (λ (row : KeptUnit). IsDue start earliest row.ticks s.due) are.0 due.0.due,
  due.0.kind ∙ ap (λ (row : KeptUnit). row.kind) are.0,
  due.0.role ∙ ap (λ (row : KeptUnit). row.role) are.0,
  unit_sources start earliest us ps rs ss are.1 due.1,
)

pub rows_count : (kept : List (ℕ × ℕ)) (pictures : List TimedPicture) (rows : List KeptUnit) → AreRows kept pictures rows → length rows ≡ length kept
rows_count [] [] [] are = refl
rows_count [] [] (r ∷ rs) are = absurd are
rows_count [] (p ∷ ps) rows are = absurd are
rows_count (u ∷ us) [] rows are = absurd are
rows_count (u ∷ us) (p ∷ ps) [] are = absurd are
rows_count (u ∷ us) (p ∷ ps) (r ∷ rs) are = ap suc (rows_count us ps rs are.1)

-- ---- how many PES packets are dropped

dropped_most : (video : Bool) (packets : List PesUnit) → packets_dropped video packets ≤ 1
dropped_most video [] = omega arith
dropped_most video (p ∷ []) = by_test (is_dropped video p.bytes)
  where
    by_test : (dropped : Bool) → let n : ℕ = if dropped then 1 else 0 in n ≤ 1
    by_test true = omega arith
    by_test false = omega arith
dropped_most video (p ∷ q ∷ ps) = dropped_most video (q ∷ ps)

pub video_dropped : (packets : List PesUnit) (held : TakenPackets) → AreTaken true packets held → held.dropped ≤ 1
video_dropped packets held are = omega (arith, are.dropped, dropped_most true packets)

pub streams_dropped : (first : ℤ) (audios : List AudioStream) (streams : List ReadStream) → AreStreamsRead first audios streams →
    (length streams ≡ length audios) × All (λ one. one.dropped ≤ 1) streams
    × (sum_by (λ one. one.dropped) streams ≡ sum_by (λ stream. packets_dropped false stream.units) audios)
streams_dropped first [] [] are = (refl, All-nil (λ (one : ReadStream). one.dropped ≤ 1), refl)
streams_dropped first [] (r ∷ rs) are = absurd are
streams_dropped first (a ∷ xs) [] are = absurd are
streams_dropped first (a ∷ xs) (r ∷ rs) are =
    let rest = streams_dropped first xs rs are.1 in
    let own : r.dropped ≤ 1 = omega (arith, are.0.dropped, dropped_most false a.units) in (
      ap suc rest.0,
      All-cons (λ (one : ReadStream). one.dropped ≤ 1) r rs own rest.1,
      sum_by-cons (λ (one : ReadStream). one.dropped) r rs ∙ ap₂ (λ (m n : ℕ). m + n) are.0.dropped rest.2
          ∙ sym (sum_by-cons (λ (stream : AudioStream). packets_dropped false stream.units) a xs),
    )

pub all_dropped : (demuxed : Demuxed) (video : ReadVideo) (streams : List ReadStream) (audios : ℕ) → IsVideoRead demuxed video →
    AreStreamsRead video.first.stated demuxed.audios streams → audios ≡ sum_by (λ one. one.dropped) streams → video.taken.dropped + audios ≡ all_packets_dropped demuxed
all_dropped demuxed video streams audios is are sum =
    ap₂ (λ (m n : ℕ). m + n) is.taken_are.dropped (sum ∙ (streams_dropped video.first.stated demuxed.audios streams are).2)

-- ---- the video

pub video_is : (held : TakenPackets) (units : List PesUnit) → AreTaken true units held → length units ≤ 4000000 → bytes_in units ≤ 1099511627776 → IsVideo held
video_is held units are few small = record {
  packets = taken true units;
  holds = are.holds;
  few = (let count : length held.packets.items ≡ length (placed_from 0 (taken true units)) = ap (λ (ps : List PlacedPacket). length ps) are.holds.placed in
      omega (arith, count, placed_count 0 (taken true units), taken_count true units, few));
  small = (let size : length held.payload.items ≡ length (joined (taken true units)) = ap (λ (xs : List ℕ). length xs) are.holds.payload in
      omega (arith, size, taken_bytes true units, small));
}

no_spans : (from : ℕ) (cuts : List ℕ) (end : ℕ) → spans from cuts end ≡ [] → ⊥
no_spans from [] end is = cc
no_spans from (c ∷ cs) end is = cc

-- a video with a sequence header has a unit
some_cut : (es : List ℕ) (units : Units) → cut_units es ≡ Some units → units.cuts ≡ [] → ⊥
some_cut es units is none = by_first (first_sequence es) is
  where
    by_first : (first : Option ℕ) →
        option_map (λ first. let u : Units = record { dropped = min (cuts_up_to es first) (2 ^ 32 - 1); cuts = spans first (cuts_behind es first) (length es) } in u) first ≡ Some units → ⊥
    by_first None found = cc
    by_first (Some first) found =
        let same : (let u : Units = record { dropped = min (cuts_up_to es first) (2 ^ 32 - 1); cuts = spans first (cuts_behind es first) (length es) } in u) ≡ units = cc in
        no_spans first (cuts_behind es first) (length es) (ap (λ (u : Units). u.cuts) same ∙ none)

pub first_some : (pictures : List TimedPicture) (first : TimedPicture) → first_of pictures ≡ Some first → (later : List TimedPicture) × (pictures ≡ first ∷ later)
first_some [] first is = absurd cc
first_some (p ∷ ps) first is = (ps, (let same : p ≡ first = cc in ap (λ (q : TimedPicture). q ∷ ps) same))

pub first_none : (pictures : List TimedPicture) → first_of pictures ≡ None → pictures ≡ []
first_none [] is = refl
first_none (p ∷ ps) is = absurd cc

pub none_kept : (es : List ℕ) (packets : List PlacedPacket) (earlier : List TimedPicture) (units : List (ℕ × ℕ)) (pictures : List TimedPicture) → AreInOrder es packets earlier units pictures →
    pictures ≡ [] → units ≡ []
none_kept es packets earlier [] pictures are none = refl
none_kept es packets earlier (u ∷ us) [] are none = absurd are
none_kept es packets earlier (u ∷ us) (p ∷ ps) are none = absurd cc

kept_here : (demuxed : Demuxed) (held : TakenPackets) (cuts kept : List (ℕ × ℕ)) (pictures : List TimedPicture) (dropped : ℕ) → AreTaken true demuxed.video held →
    AreKept held.payload.items held.packets.items cuts kept pictures dropped → AreKept (video_bytes demuxed) (video_packets demuxed) cuts kept pictures dropped
kept_here demuxed held cuts kept pictures dropped are is =
    subst (λ (ps : List PlacedPacket). AreKept (video_bytes demuxed) ps cuts kept pictures dropped) are.holds.placed
    (subst (λ (xs : List ℕ). AreKept xs held.packets.items cuts kept pictures dropped) are.holds.payload is)

units_here : (demuxed : Demuxed) (held : TakenPackets) (units : Units) → AreTaken true demuxed.video held → cut_units held.payload.items ≡ Some units → HasUnits demuxed units
units_here demuxed held units are is = record { sound = are.sound; units_are = sym (ap cut_units are.holds.payload) ∙ is }

pub video_read : (demuxed : Demuxed) (held : TakenPackets) (units : Units) (kept : KeptUnits) (first : TimedPicture) (dropped : ℕ) → AreTaken true demuxed.video held →
    cut_units held.payload.items ≡ Some units → AreUnitsKept held.payload.items held.packets.items units.cuts kept → kept.first ≡ Some first →
    dropped ≡ min (units.dropped + kept.dropped) (2 ^ 32 - 1) → IsVideoRead demuxed (record { taken = held; units = kept.units; first = first; units_dropped = dropped })
video_read demuxed held units kept first dropped are units_are is first_is dropped_is =
    let keep = is.keep in
    let begins = first_some is.pictures first (sym keep.first_is ∙ first_is) in record {
      taken_are = are;
      kept = is.units;
      pictures = is.pictures;
      has_pictures = record {
        units = units;
        has_units = units_here demuxed held units are units_are;
        at_end = kept.dropped;
        kept_are = kept_here demuxed held units.cuts is.units is.pictures kept.dropped are is.kept_are;
        later = begins.0;
        first_is = begins.1;
        dropped_is = dropped_is;
      };
      rows = keep.rows;
      near = subst (λ (f : Option TimedPicture). IfSome f (λ picture. IsNear 0 picture.stated)) first_is keep.first_near;
      ticks = keep.ticks;
    }

pub nothing_kept : (demuxed : Demuxed) (units : Units) (kept : List (ℕ × ℕ)) (pictures : List TimedPicture) (dropped : ℕ) → HasUnits demuxed units → kept ≡ [] → pictures ≡ [] →
    AreKept (video_bytes demuxed) (video_packets demuxed) units.cuts kept pictures dropped → HasNoSequence demuxed
nothing_kept demuxed units kept pictures dropped has none no_pictures (all same in_order none_dropped) = absurd (some_cut (video_bytes demuxed) units has.units_are (same ∙ none))
nothing_kept demuxed units kept pictures dropped has none no_pictures (but_last last refusal at split in_order broken one) =
    let first : IsBroken (video_bytes demuxed) None last refusal at = subst (λ (ps : List TimedPicture). IsBroken (video_bytes demuxed) (last_of ps) last refusal at) no_pictures broken in
    (has.sound, inr (units, last, refusal, at, has.units_are, split ∙ ap (λ (us : List (ℕ × ℕ)). us ++ last ∷ []) none, first))

pub video_empty : (demuxed : Demuxed) (held : TakenPackets) (units : Units) (kept : KeptUnits) → AreTaken true demuxed.video held → cut_units held.payload.items ≡ Some units →
    AreUnitsKept held.payload.items held.packets.items units.cuts kept → kept.first ≡ None → IsDemuxedRefused demuxed (Refused kinds.NoSequence 0)
video_empty demuxed held units kept are units_are is none =
    let no_pictures : is.pictures ≡ [] = first_none is.pictures (sym is.keep.first_is ∙ none) in
    let no_units : is.units ≡ [] = none_kept held.payload.items held.packets.items [] is.units is.pictures is.keep.in_order no_pictures in
    IsDemuxedRefused.no_sequence
    (nothing_kept demuxed units is.units is.pictures kept.dropped (units_here demuxed held units are units_are) no_units no_pictures
    (kept_here demuxed held units.cuts is.units is.pictures kept.dropped are is.kept_are)) refl

pub no_header : (demuxed : Demuxed) (held : TakenPackets) (payload : List ℕ) → AreTaken true demuxed.video held → payload ≡ held.payload.items → first_sequence payload ≡ None →
    IsDemuxedRefused demuxed (Refused kinds.NoSequence 0)
no_header demuxed held payload are payload_is none =
    let nowhere : first_sequence (video_bytes demuxed) ≡ None = ap first_sequence (sym are.holds.payload) ∙ ap first_sequence (sym payload_is) ∙ none in
    IsDemuxedRefused.no_sequence (are.sound, inl (by_first (video_bytes demuxed) (first_sequence (video_bytes demuxed)) nowhere)) refl
  where
    by_first : (es : List ℕ) (first : Option ℕ) → first ≡ None →
        option_map (λ first. let u : Units = record { dropped = min (cuts_up_to es first) (2 ^ 32 - 1); cuts = spans first (cuts_behind es first) (length es) } in u) first ≡ None
    by_first es None is = refl
    by_first es (Some first) is = absurd cc

pub bad_units : (demuxed : Demuxed) (held : TakenPackets) (units : Units) (packets : List PesUnit) (payload : List ℕ) (cuts : List (ℕ × ℕ)) (fault : ProgramFault) →
    packets ≡ demuxed.video → AreTaken true packets held → payload ≡ held.payload.items → cut_units payload ≡ Some units → cuts ≡ units.cuts →
    (fault ≡ OutOfMemory) ⊎ IsUnitsFault held.payload.items held.packets.items cuts fault → (fault ≡ OutOfMemory) ⊎ IsDemuxedRefused demuxed fault
bad_units demuxed held units packets payload cuts fault packets_are taken payload_is units_are cuts_are (inl memory) = inl memory
bad_units demuxed held units packets payload cuts fault packets_are taken payload_is units_are cuts_are (inr refused) =
    let are : AreTaken true demuxed.video held = subst (λ (ps : List PesUnit). AreTaken true ps held) packets_are taken in
    inr (IsDemuxedRefused.bad_unit units (units_here demuxed held units are (sym (ap cut_units payload_is) ∙ units_are))
    (subst (λ (ps : List PlacedPacket). IsUnitsFault (video_bytes demuxed) ps units.cuts fault) are.holds.placed
    (subst (λ (xs : List ℕ). IsUnitsFault xs held.packets.items units.cuts fault) are.holds.payload
    (subst (λ (cs : List (ℕ × ℕ)). IsUnitsFault held.payload.items held.packets.items cs fault) cuts_are refused))))

-- want of memory may be said beside
pub or_memory : (demuxed : Demuxed) (result : Result ReadVideo ProgramFault) → MatchResult result (IsVideoRead demuxed) (IsDemuxedRefused demuxed) →
    MatchResult result (IsVideoRead demuxed) (λ fault. (fault ≡ OutOfMemory) ⊎ IsDemuxedRefused demuxed fault)
or_memory demuxed (Ok video) is = is
or_memory demuxed (Err fault) is = inr is

-- ---- the program

pub program_is : (start : ℕ) (demuxed : Demuxed) (video : ReadVideo) (streams : List ReadStream) (clock : DueClock) (rows : List KeptUnit) (given : List AudioStream) (base : ℕ) (bytes : List ℕ)
    (units : List UnitSource) (audios : List AudioSource) (pes_dropped : ℕ) → IsVideoRead demuxed video → AreStreamsRead video.first.stated demuxed.audios streams →
    IsClockOf demuxed video streams clock.earliest → clock.start ≡ start → length video.units.items ≤ 4194304 → IsBase clock.start clock.earliest base → bytes ≡ video.taken.payload.items →
    rows ≡ video.units.items → AreDueUnits clock.start clock.earliest rows units → given ≡ demuxed.audios →
    AreAudioSources clock.start clock.earliest given (map (λ one. one.frames) streams) audios → IsProgram start demuxed (record {
      map = demuxed.map;
      base = base;
      vbv = video.first.seq.vbv;
      video = bytes;
      units = units;
      audios = audios;
      units_dropped = video.units_dropped;
      pes_dropped = pes_dropped;
      rest = demuxed.rest;
      not_carried = demuxed.not_carried;
    })
program_is start demuxed video streams clock rows given base bytes units audios pes_dropped is are times start_is few base_is bytes_are rows_are due given_is sources =
    let frames = map (λ (one : ReadStream). one.frames) streams in record {
      kept = is.kept;
      first = video.first;
      pictures = is.pictures;
      has_pictures = is.has_pictures;
      frames = frames;
      have_frames = have_frames video.first.stated demuxed.audios streams are;
      few = omega (arith, few, rows_count is.kept is.pictures video.units.items is.rows);
      earliest = clock.earliest;
      earliest_is = earliest_of demuxed video streams clock.earliest is times;
      map_is = refl;
      base_is = subst (λ (n : ℕ). IsBase n clock.earliest base) start_is base_is;
      vbv_is = refl;
      video_is = bytes_are ∙ is.taken_are.holds.payload;
      units_are = subst (λ (n : ℕ). AreUnitSources n clock.earliest is.kept is.pictures units) start_is
          (unit_sources clock.start clock.earliest is.kept is.pictures video.units.items units is.rows
          (subst (λ (us : List KeptUnit). AreDueUnits clock.start clock.earliest us units) rows_are due));
      audios_are = subst (λ (n : ℕ). AreAudioSources n clock.earliest demuxed.audios frames audios) start_is
          (subst (λ (ss : List AudioStream). AreAudioSources clock.start clock.earliest ss frames audios) given_is sources);
      rest_is = refl;
      not_carried_are = refl;
    }

-- ---- what is refused

pub bad_packets : (demuxed : Demuxed) (packets : List PesUnit) (found : StreamFault) (fault : ProgramFault) → packets ≡ demuxed.video →
    (found ≡ stream_faults.OutOfMemory) ⊎ IsPacketFault true packets found → fault ≡ of_stream found → (fault ≡ OutOfMemory) ⊎ IsDemuxedRefused demuxed fault
bad_packets demuxed packets found fault is (inl memory) said = inl (said ∙ ap of_stream memory)
bad_packets demuxed packets found fault is (inr refused) said =
    inr (IsDemuxedRefused.bad_packet found (subst (λ (ps : List PesUnit). IsPacketFault true ps found) is refused) said)

pub bad_streams : (demuxed : Demuxed) (video : ReadVideo) (streams : List AudioStream) (first : ℤ) (fault : ProgramFault) → IsVideoRead demuxed video → streams ≡ demuxed.audios →
    first ≡ video.first.stated → (fault ≡ OutOfMemory) ⊎ IsAudioFault first streams fault → (fault ≡ OutOfMemory) ⊎ IsDemuxedRefused demuxed fault
bad_streams demuxed video streams first fault is streams_are first_is (inl memory) = inl memory
bad_streams demuxed video streams first fault is streams_are first_is (inr refused) =
    inr (IsDemuxedRefused.bad_audio is.kept video.first is.pictures video.units_dropped is.has_pictures
    (subst (λ (t : ℤ). IsAudioFault t demuxed.audios fault) first_is (subst (λ (ss : List AudioStream). IsAudioFault first ss fault) streams_are refused)))

-- streams that are read are those of the file
pub streams_here : (demuxed : Demuxed) (video : ReadVideo) (streams : List AudioStream) (first : ℤ) (read given : List ReadStream) → streams ≡ demuxed.audios → first ≡ video.first.stated →
    given ≡ read → AreStreamsRead first streams read → AreStreamsRead video.first.stated demuxed.audios given
streams_here demuxed video streams first read given streams_are first_is same are =
    subst (λ (rs : List ReadStream). AreStreamsRead video.first.stated demuxed.audios rs) (sym same)
    (subst (λ (t : ℤ). AreStreamsRead t demuxed.audios read) first_is (subst (λ (ss : List AudioStream). AreStreamsRead first ss read) streams_are are))

pub too_many : (demuxed : Demuxed) (video : ReadVideo) (read : List ReadStream) (units : List KeptUnit) → IsVideoRead demuxed video → AreStreamsRead video.first.stated demuxed.audios read →
    units ≡ video.units.items → 4194304 < length units → IsDemuxedRefused demuxed (Refused kinds.ProgramLimit 0)
too_many demuxed video read units is are units_are many =
    let count : length units ≡ length video.units.items = ap (λ (us : List KeptUnit). length us) units_are in
    let more : 4194304 < length is.kept = omega (arith, count, rows_count is.kept is.pictures video.units.items is.rows, many) in
    IsDemuxedRefused.many_units is.kept video.first is.pictures video.units_dropped (map (λ one. one.frames) read) is.has_pictures
    (have_frames video.first.stated demuxed.audios read are) more refl

pub taken_out : (form : Form) (file : List ℕ) (number : ℕ) (drop : List ℕ) (demuxed : Demuxed) (fault : ProgramFault) → length file ≤ FILE_BYTES_MOST →
    IsTakenOut form file number drop demuxed → HasFewPackets demuxed → (fault ≡ OutOfMemory) ⊎ IsDemuxedRefused demuxed fault → IsProgramRefused form file number drop fault
taken_out form file number drop demuxed fault within is few (inl memory) = IsProgramRefused.memory memory
taken_out form file number drop demuxed fault within is few (inr refused) = IsProgramRefused.taken_out demuxed within is few refused
