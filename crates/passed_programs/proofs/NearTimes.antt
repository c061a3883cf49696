-- The times of a video that was read as its file passed are near.
use Rattle.std.proofs.Common.{◌≡◌, ℕ, ◌+◌, ◌*◌, ◌/◌, ◌≤◌, Bool, true, false, List, [], ◌∷◌, ◌++◌, length, All, Option, Some, None, IfSome, refl, sym, ap, ◌∙◌, subst, arith, if◌then◌else◌}
use Rattle.std.proofs.lemmas.List.{append-nil, length-append}
use Rattle.std.proofs.lemmas.List.Elements.{All-cons, All-nil}
use Rattle.es_units.specs.declared.units.Units.{Units}
use Rattle.es_units.specs.Units.{cut_units}
use Rattle.pes_units.specs.Times.{decoding_time}
use Rattle.pes_units.specs.PesPackets.{is_dropped}
use Rattle.pes_units.specs.declared.times.Times.{Times}
use Rattle.ts_packets.specs.TransportStream.{piece_count}
use Rattle.psi_tables.specs.declared.stream.Stream.{Stream}
use Rattle.ts_demux.specs.declared.demuxed.Demuxed.{Demuxed}
use Rattle.ts_demux.specs.declared.demuxed.PesUnit.{PesUnit}
use Rattle.elementary_streams.specs.declared.pes_packets.PlacedPacket.{PlacedPacket}
use Rattle.elementary_streams.specs.NearTimes.{IsNear, IsTime}
use Rattle.elementary_streams.specs.Packets.{joined, pes_payload_of, taken}
use Rattle.elementary_streams.proofs.CarriedSizes.{units_few}
use Rattle.elementary_streams.proofs.StreamLemmas.{placed_count, placed_times, taken_count}
use Rattle.elementary_streams.proofs.TimeRange.{IsInRange}
use Rattle.program_reader.specs.declared.kept_units.KeptUnit.{KeptUnit}
use Rattle.program_reader.specs.declared.timed_picture.TimedPicture.{TimedPicture}
use Rattle.program_reader.specs.declared.unit_sizes.SizesWanted.{SizesWanted}
use Rattle.program_reader.specs.declared.video_walk.WalkedVideo.{WalkedVideo}
use Rattle.program_reader.specs.Intervals.{nearest}
use Rattle.program_reader.specs.KeptUnits.{AreRows, row_of}
use Rattle.program_reader.specs.Programs.{video_bytes, video_packets}
use Rattle.program_reader.specs.Units.{AreInOrder, AreKept, IsNext}
use Rattle.program_reader.specs.VideoWalk.{AreFew, IsVideoWalked}
use Rattle.program_reader.specs.Private.KeptUnits.{Fits, IsPictureNear}
use Rattle.program_reader.specs.Private.TimedPictures.{IsPossible, LastTells}
use Rattle.program_reader.proofs.CutLemmas.{cuts_fit}
use Rattle.program_reader.proofs.KeepLemmas.{first_near, near_next, possible_near, range_of_unit}
use Rattle.program_reader.proofs.PassedLemmas.{fits_front}
use Rattle.program_reader.proofs.StatedTimes.{AreStatedTo, count_behind, stated_more, stated_none, step_is}
use Rattle.pes_passing.specs.PassingPackets.{packets_before, size_of}
use Rattle.passed_programs.specs.PassedVideo.{IsVideoRead}
use Rattle.passed_programs.proofs.TakenVideo.{joined_few}

-- ---- one picture behind the other

abbrev IsRowTime : KeptUnit → Type 0
IsRowTime row = IsTime row.ticks

-- a possible picture's time is far from the ends of 64 bits
row_time : (picture : TimedPicture) (unit : ℕ × ℕ) (row : KeptUnit) → row ≡ row_of unit picture → IsPossible picture → IsRowTime row
row_time picture unit row is possible = subst IsRowTime (sym is) (record { least = possible.ticks_least; most = possible.ticks_most })

possible_nearest : (last : Option TimedPicture) (count i : ℕ) → count ≤ 4000000 → i ≤ 1099511627777 → IfSome last (IsPictureNear count i) → IfSome last IsPossible
possible_nearest None count i few units_few near = tt
possible_nearest (Some picture) count i few units_few near = possible_near picture count i few units_few near

times_from : (es : List ℕ) (packets : List PlacedPacket) (size : ℕ) (earlier : List TimedPicture) (units : List (ℕ × ℕ)) (pictures : List TimedPicture) (rows : List KeptUnit) (count i from : ℕ)
    → length packets ≤ 4000000 → i + length units ≤ 1099511627777 → All (λ packet. IsInRange (decoding_time packet.header.times)) packets → AreInOrder es packets earlier units pictures
    → AreRows units pictures rows → Fits size from units → LastTells earlier → AreStatedTo count from es packets → IfSome (nearest earlier) (IsPictureNear count i)
    → All IsRowTime rows
times_from es packets size earlier [] [] [] count i from few units_few ranges are rows_are fits tells stated near = All-nil IsRowTime
times_from es packets size earlier [] [] (r ∷ rs) count i from few units_few ranges are rows_are fits tells stated near = absurd rows_are
times_from es packets size earlier [] (p ∷ ps) rows count i from few units_few ranges are rows_are fits tells stated near = absurd are
times_from es packets size earlier (u ∷ us) [] rows count i from few units_few ranges are rows_are fits tells stated near = absurd are
times_from es packets size earlier (u ∷ us) (p ∷ ps) [] count i from few units_few ranges are rows_are fits tells stated near = absurd rows_are
times_from es packets size earlier (u ∷ us) (p ∷ ps) (r ∷ rs) count i from few units_few ranges are rows_are fits tells stated near =
    let next = are.0 in
    let behind = count_behind count (decoding_time p.times) in
    let stated_next : AreStatedTo behind u.1 es packets = stated_more count from u.0 u.1 es packets p.times fits.0 fits.1 next.times_are stated in
    let range : IsInRange (decoding_time p.times) = subst (λ (t : Times). IsInRange (decoding_time t)) (sym next.times_are) (range_of_unit es packets u ranges) in
    let possible = possible_nearest (nearest earlier) count i (omega (arith, stated.few, few)) (omega (arith, units_few)) near in
    let near_p : IsPictureNear behind (i + 1) p = near_next es packets earlier u p count behind i range possible near (step_is count (decoding_time p.times)) tells next in
    let size_is : (i + 1) + length us ≡ i + length (u ∷ us) = omega arith in
    let possible_p : IsPossible p = possible_near p behind (i + 1) (omega (arith, stated_next.few, few)) (omega (arith, units_few)) near_p in
    All-cons IsRowTime r rs (row_time p u r rows_are.0 possible_p)
    (times_from es packets size (p ∷ earlier) us ps rs behind (i + 1) u.1 few (omega (arith, size_is, units_few)) ranges are.1 rows_are.1 fits.3 next.reference stated_next near_p)

-- the first picture's
first_time : (es : List ℕ) (packets : List PlacedPacket) (units : List (ℕ × ℕ)) (pictures later : List TimedPicture) (first : TimedPicture)
    → All (λ packet. IsInRange (decoding_time packet.header.times)) packets → AreInOrder es packets [] units pictures → pictures ≡ first ∷ later → IsNear 0 first.stated
first_time es packets units pictures later first ranges are is = by_units units (subst (AreInOrder es packets [] units) is are)
  where
    by_units : (units : List (ℕ × ℕ)) → AreInOrder es packets [] units (first ∷ later) → IsNear 0 first.stated
    by_units [] are = absurd are
    by_units (u ∷ us) are =
        let next : IsNext es packets [] u first = are.0 in
        let range : IsInRange (decoding_time first.times) = subst (λ (t : Times). IsInRange (decoding_time t)) (sym next.times_are) (range_of_unit es packets u ranges) in
        first_near (decoding_time first.times) first.stated first.ticks range next.timed

-- ---- the units that are kept

-- they stand one behind the other
record AreFront (es : List ℕ) (kept : List (ℕ × ℕ)) : Type 0 where
  pub fits : Fits (length es) 0 kept
  pub few : length kept ≤ length es + 1

front_of : (es : List ℕ) (units : Units) (kept more : List (ℕ × ℕ)) → cut_units es ≡ Some units → units.cuts ≡ kept ++ more → AreFront es kept
front_of es units kept more is split =
    let fit = cuts_fit es units is in
    let size : length units.cuts ≡ length kept + length more = ap (λ (us : List (ℕ × ℕ)). length us) split ∙ length-append kept more in record {
      fits = fits_front (length es) 0 kept more (subst (Fits (length es) 0) split fit.0);
      few = omega (arith, size, fit.1);
    }

record AreKeptFront (es : List ℕ) (packets : List PlacedPacket) (kept : List (ℕ × ℕ)) (pictures : List TimedPicture) : Type 0 where
  pub front : AreFront es kept
  pub in_order : AreInOrder es packets [] kept pictures

kept_front : (es : List ℕ) (packets : List PlacedPacket) (units : Units) (kept : List (ℕ × ℕ)) (pictures : List TimedPicture) (dropped : ℕ) → cut_units es ≡ Some units
    → AreKept es packets units.cuts kept pictures dropped → AreKeptFront es packets kept pictures
kept_front es packets units kept pictures dropped is (AreKept.all all in_order none) =
    record { front = front_of es units kept [] is (all ∙ sym (append-nil kept)); in_order = in_order }
kept_front es packets units kept pictures dropped is (AreKept.but_last last refusal at all in_order broken one) =
    record { front = front_of es units kept (last ∷ []) is all; in_order = in_order }

-- ---- how many bytes are taken

taken_joined : (packets : List PesUnit) → length (joined (taken true packets)) ≤ length (joined packets)
taken_joined [] = omega arith
taken_joined (p ∷ []) = by_test (is_dropped true p.bytes)
  where
    by_test : (dropped : Bool) → length (joined (if dropped then [] else p ∷ [])) ≤ length (joined (p ∷ []))
    by_test true = omega arith
    by_test false = omega arith
taken_joined (p ∷ q ∷ ps) =
    let rest : length (joined (taken true (q ∷ ps))) ≤ length (joined (q ∷ ps)) = taken_joined (q ∷ ps) in
    omega (arith, rest, length-append (pes_payload_of p) (joined (taken true (q ∷ ps))), length-append (pes_payload_of p) (joined (q ∷ ps)))

-- ---- a video

pub walked_near : (demuxed : Demuxed) (video : WalkedVideo) → AreFew demuxed.video → IsVideoWalked demuxed video
    → IsNear 0 video.first.stated × All IsRowTime video.units.items
walked_near demuxed video few walked =
    let es = video_bytes demuxed in
    let packets = video_packets demuxed in
    let has = walked.has_pictures in
    let kept = kept_front es packets has.units walked.kept walked.pictures has.at_end has.has_units.units_are has.kept_are in
    let ranges = placed_times 0 (taken true demuxed.video) in
    let packets_few : length packets ≤ 4000000 = omega (arith, placed_count 0 (taken true demuxed.video), taken_count true demuxed.video, few.packets_few) in
    let units_few : 0 + length walked.kept ≤ 1099511627777 = omega (arith, kept.front.few, taken_joined demuxed.video, few.bytes_few) in (
      first_time es packets walked.kept walked.pictures has.later video.first ranges kept.in_order has.first_is,
      times_from es packets (length es) [] walked.kept walked.pictures video.units.items 0 0 0 packets_few units_few ranges kept.in_order walked.rows kept.front.fits tt
          (stated_none (taken true demuxed.video)) tt,
    )

-- ---- a video that was read

-- a stream of a PID
abbrev stream_on : ℕ → Stream
stream_on pid = record { kind = 0; pid = pid; descriptors = record { items = [] } }

-- what may be taken out of a file with this video
abbrev with_packets : List PesUnit → Demuxed
with_packets packets = record {
  map = record { number = 0; pcr_pid = 0; streams = record { items = [] }; dropped = 0 };
  video = packets;
  audios = [];
  rest = 0;
  not_carried = [];
}

-- its PES packets have no more bytes than the file
packets_small : (file : List ℕ) (pid : ℕ) → length (joined (packets_before file pid (piece_count file))) ≤ length file
packets_small file pid =
    let packets = packets_before file pid (piece_count file) in
    let payload : length (joined packets) ≤ size_of packets = joined_few packets in
    let bytes : size_of packets ≤ 188 * piece_count file = (units_few file (stream_on pid)).1 in
    let count : piece_count file ≡ length file / 188 = refl in
    omega (arith, payload, bytes, count)

pub read_near : (file pids : List ℕ) (wanted : SizesWanted) (video : WalkedVideo) → IsVideoRead file pids wanted video
    → IsNear 0 video.first.stated × All IsRowTime video.units.items
read_near file pids wanted video read =
    let sound = read.sound_video in
    let few : AreFew read.packets = record {
      packets_few = sound.few;
      bytes_few = subst (λ (ps : List PesUnit). length (joined ps) ≤ 1099511627776) (sym sound.has.packets_are)
          (omega (arith, packets_small file sound.has.pid, sound.short));
    } in
    walked_near (with_packets read.packets) video few (read.walked (with_packets read.packets) refl)
