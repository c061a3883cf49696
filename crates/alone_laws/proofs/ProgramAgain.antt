-- A program that is read again: what is taken out of a stream is a program whose units and audio packets are due as much later as its first time is.
use Rattle.std.proofs.Common.{◌≡◌, ℕ, suc, ◌+◌, ◌-◌, ◌<◌, ◌≤◌, true, List, [], ◌∷◌, ◌++◌, length, map, Some, refl, sym, ap, subst, arith, ℤ}
use Rattle.std.specs.List.{flat_map}
use Rattle.audio_frames.specs.declared.frame.Frame.{Frame}
use Rattle.pes_units.specs.PesHeader.{pes_fields_of}
use Rattle.es_units.specs.Units.{cut_units}
use Rattle.syntax_types.specs.declared.picture.SeqState.{SeqState}
use Rattle.tstd_model.specs.declared.decoder_input.Removal.{Removal}
use Rattle.ts_demux.specs.declared.demuxed.Demuxed.{Demuxed}
use Rattle.ts_demux.specs.declared.demuxed.PesUnit.{PesUnit}
use Rattle.elementary_streams.specs.Packets.{AreSound, pes_payload_of}
use Rattle.layer_laws.specs.WholeUnits.{placed_units}
use Rattle.program_reader.specs.declared.program.Program.{Program}
use Rattle.program_reader.specs.declared.program.UnitSource.{UnitSource}
use Rattle.program_reader.specs.declared.timed_picture.TimedPicture.{TimedPicture}
use Rattle.program_reader.specs.Audio.{HaveFrames}
use Rattle.program_reader.specs.Programs.{AreUnitSources, IsBase, IsEarliest, IsProgram, all_packets_dropped, all_times, video_bytes, video_packets}
use Rattle.program_reader.specs.Units.{AreInOrder, AreKept}
use Rattle.time_laws.proofs.Audios.{AllTaken, WhereverItStands, have-frames-again}
use Rattle.audit_laws.specs.Kept.{AreOwnUnits}
use Rattle.audit_command.proofs.Auditable.{removal_of}
use Rattle.alone_laws.proofs.Again.{again}
use Rattle.alone_laws.proofs.AudioAgain.{AreFrom, all_moved, audios-again, due-enough, due-shifted, from-all, from-behind, from-front, shift-sum, shifted}
use Rattle.alone_laws.proofs.Times.{base-again, moved_base, shown-again}
use Rattle.alone_laws.proofs.VideoAgain.{AreStated, all_again}

-- ---- lists

pub many-stated : (pictures : List TimedPicture) (packets : List PesUnit) → AreStated pictures packets → length pictures ≡ length packets
many-stated [] [] are = refl
many-stated [] (x ∷ xs) are = absurd are
many-stated (p ∷ ps) [] are = absurd are
many-stated (p ∷ ps) (x ∷ xs) are = ap suc (many-stated ps xs are.1)

same-ticks : (pictures : List TimedPicture) (packets : List PesUnit) → AreStated pictures packets
    → map (λ (picture : TimedPicture). picture.ticks) (all_again pictures packets) ≡ map (λ (picture : TimedPicture). picture.ticks) pictures
same-ticks [] [] are = refl
same-ticks [] (x ∷ xs) are = absurd are
same-ticks (p ∷ ps) [] are = absurd are
same-ticks (p ∷ ps) (x ∷ xs) are = ap (λ (ts : List ℤ). p.ticks ∷ ts) (same-ticks ps xs are.1)

placed-many : (o : ℕ) (units : List (List ℕ)) → length (placed_units o units) ≡ length units
placed-many o [] = refl
placed-many o (u ∷ us) = ap suc (placed-many (o + length u) us)

payloads-many : (packets : List PesUnit) → length (map pes_payload_of packets) ≡ length packets
payloads-many [] = refl
payloads-many (x ∷ xs) = ap suc (payloads-many xs)

abbrev head_or : (first : TimedPicture) → List TimedPicture → TimedPicture
head_or first [] = first
head_or first (p ∷ ps) = p

-- ---- units

-- the units of PES packets, the first one from a place on
abbrev pub units_again : (start to o : ℕ) → List TimedPicture → List UnitSource → List PesUnit → List UnitSource
units_again start to o (picture ∷ pictures) (unit ∷ units) (packet ∷ packets) =
    record {
      begin = o;
      end = o + length (pes_payload_of packet);
      times = (pes_fields_of packet.bytes).times;
      due = shifted start to unit.due;
      kind = picture.coding.kind;
      role = picture.role;
    } ∷ units_again start to (o + length (pes_payload_of packet)) pictures units packets
units_again start to o pictures units packets = []

sources-again : (start to o : ℕ) (earliest : ℤ) (kept : List (ℕ × ℕ)) (pictures : List TimedPicture) (units : List UnitSource) (packets : List PesUnit) → AreStated pictures packets
    → AreFrom earliest (map (λ (picture : TimedPicture). picture.ticks) pictures) → AreUnitSources start earliest kept pictures units
    → AreUnitSources to earliest (placed_units o (map pes_payload_of packets)) (all_again pictures packets) (units_again start to o pictures units packets)
sources-again start to o earliest kept [] units [] stated times are = tt
sources-again start to o earliest kept [] units (x ∷ xs) stated times are = absurd stated
sources-again start to o earliest kept (p ∷ ps) units [] stated times are = absurd stated
sources-again start to o earliest [] (p ∷ ps) units (x ∷ xs) stated times are = absurd are
sources-again start to o earliest (k ∷ ks) (p ∷ ps) [] (x ∷ xs) stated times are = absurd are
sources-again start to o earliest (k ∷ ks) (p ∷ ps) (u ∷ us) (x ∷ xs) stated times are = (
  refl,
  refl,
  refl,
  due-shifted start to u.due earliest p.ticks are.3 times.0,
  refl,
  refl,
  sources-again start to (o + length (pes_payload_of x)) earliest ks ps us xs stated.1 times.1 are.6,
)

-- units that are due by a time
abbrev pub AreEarly : ℕ → List UnitSource → Type 0
AreEarly by [] = Unit {0}
AreEarly by (unit ∷ units) = (unit.due ≤ by) × AreEarly by units

pub own-again : (start to clock base o by : ℕ) (earliest : ℤ) → IsBase start earliest clock → IsBase to earliest base → start ≤ 54000000 → to ≤ 54000000 → by < 2576980377600
    → (kept : List (ℕ × ℕ)) (pictures : List TimedPicture) (units : List UnitSource) (packets : List PesUnit) → AreStated pictures packets
    → AreFrom earliest (map (λ (picture : TimedPicture). picture.ticks) pictures) → AreUnitSources start earliest kept pictures units → AreEarly by units
    → AreOwnUnits clock base (map removal_of (units_again start to o pictures units packets)) packets (map (λ (unit : UnitSource). unit.due) units)
own-again start to clock base o by earliest is also low high early kept [] [] [] stated times are soon = tt
own-again start to clock base o by earliest is also low high early [] [] (u ∷ us) [] stated times are soon = absurd are
own-again start to clock base o by earliest is also low high early (k ∷ ks) [] (u ∷ us) [] stated times are soon = absurd are
own-again start to clock base o by earliest is also low high early kept [] units (x ∷ xs) stated times are soon = absurd stated
own-again start to clock base o by earliest is also low high early kept (p ∷ ps) units [] stated times are soon = absurd stated
own-again start to clock base o by earliest is also low high early [] (p ∷ ps) units (x ∷ xs) stated times are soon = absurd are
own-again start to clock base o by earliest is also low high early (k ∷ ks) (p ∷ ps) [] (x ∷ xs) stated times are soon = absurd are
own-again start to clock base o by earliest is also low high early (k ∷ ks) (p ∷ ps) (u ∷ us) (x ∷ xs) stated times are soon =
    let moved : shifted start to u.due + start ≡ u.due + to = shift-sum start to u.due (due-enough start u.due earliest p.ticks are.3 times.0) in (
      record {
        bytes = omega arith;
        when = shown-again start to clock base u.due (shifted start to u.due) earliest is also moved (omega (arith, soon.0, early));
        not_later = omega (arith, moved, high);
        not_earlier = omega (arith, moved, low);
      },
      own-again start to clock base (o + length (pes_payload_of x)) by earliest is also low high early ks ps us xs stated.1 times.1 are.6 soon.1,
    )

-- ---- the program

module _ (law : WhereverItStands) (start to : ℕ) (small : to ≤ 54000000) (src out : Demuxed) (p : Program) (is : IsProgram start src p) where
  abbrev pub program_again : Program
  program_again = record {
    map = out.map;
    base = moved_base start to p.base;
    vbv = is.first.seq.vbv;
    video = video_bytes out;
    units = units_again start to 0 is.pictures p.units out.video;
    audios = all_moved start to out.audios p.audios;
    units_dropped = 0;
    pes_dropped = all_packets_dropped out;
    rest = out.rest;
    not_carried = out.not_carried;
  }

  pub ticks-from : AreFrom is.earliest (map (λ (picture : TimedPicture). picture.ticks) is.pictures)
  ticks-from =
      from-front is.earliest (map (λ (picture : TimedPicture). picture.ticks) is.pictures) (flat_map (map (λ (frame : Frame). frame.time)) is.frames)
      (from-all is.earliest (all_times is.pictures is.frames) is.earliest_is.least)

  frames-from : AreFrom is.earliest (flat_map (map (λ (frame : Frame). frame.time)) is.frames)
  frames-from =
      from-behind is.earliest (map (λ (picture : TimedPicture). picture.ticks) is.pictures) (flat_map (map (λ (frame : Frame). frame.time)) is.frames)
      (from-all is.earliest (all_times is.pictures is.frames) is.earliest_is.least)

  -- the first picture and those behind it
  record HasFirst (pictures : List TimedPicture) : Type 0 where
    first : TimedPicture
    later : List TimedPicture
    first_is : pictures ≡ first ∷ later
    seq_is : first.seq ≡ is.first.seq
    stated_is : first.stated ≡ is.first.stated

  has-first : (pictures later : List TimedPicture) (packets : List PesUnit) → pictures ≡ is.first ∷ later → AreStated pictures packets → HasFirst (all_again pictures packets)
  has-first [] later packets same stated = absurd (let e = ap (length {A = TimedPicture}) same in omega (arith, e))
  has-first (q ∷ qs) later [] same stated = absurd stated
  has-first (q ∷ qs) later (x ∷ xs) same stated =
      let head : q ≡ is.first = ap (head_or q) same in
      record {
        first = again q (pes_fields_of x.bytes).times;
        later = all_again qs xs;
        first_is = refl;
        seq_is = ap (λ (picture : TimedPicture). picture.seq) head;
        stated_is = ap (λ (picture : TimedPicture). picture.stated) head;
      }

  pub is-again : AreSound true out.video → cut_units (video_bytes out) ≡ Some (record { dropped = 0; cuts = placed_units 0 (map pes_payload_of out.video) })
      → AreInOrder (video_bytes out) (video_packets out) [] (placed_units 0 (map pes_payload_of out.video)) (all_again is.pictures out.video) → AreStated is.pictures out.video
      → length out.video ≤ 4194304 → AllTaken out.audios src.audios → IsProgram to out program_again
  is-again sound cut in_order stated few audios =
      let first = has-first is.pictures is.has_pictures.later out.video is.has_pictures.first_is stated in
      record {
        kept = placed_units 0 (map pes_payload_of out.video);
        first = first.first;
        pictures = all_again is.pictures out.video;
        has_pictures = record {
          units = record { dropped = 0; cuts = placed_units 0 (map pes_payload_of out.video) };
          has_units = record { sound = sound; units_are = cut };
          at_end = 0;
          kept_are = AreKept.all refl in_order refl;
          later = first.later;
          first_is = first.first_is;
          dropped_is = omega arith;
        };
        frames = is.frames;
        have_frames = subst (λ (time : ℤ). HaveFrames time out.audios is.frames) (sym first.stated_is)
            (have-frames-again law is.first.stated out.audios src.audios is.frames audios is.have_frames);
        few = omega (arith, placed-many 0 (map pes_payload_of out.video), payloads-many out.video, few);
        earliest = is.earliest;
        earliest_is = subst (λ (ticks : List ℤ). IsEarliest (ticks ++ flat_map (map (λ (frame : Frame). frame.time)) is.frames) is.earliest) (sym (same-ticks is.pictures out.video stated)) is.earliest_is;
        map_is = refl;
        base_is = base-again start to p.base is.earliest (omega (arith, small)) is.base_is;
        vbv_is = sym (ap (λ (seq : SeqState). seq.vbv) first.seq_is);
        video_is = refl;
        units_are = sources-again start to 0 is.earliest is.kept is.pictures p.units out.video stated ticks-from is.units_are;
        audios_are = audios-again law start to is.earliest is.first.stated out.audios src.audios is.frames p.audios audios is.have_frames frames-from is.audios_are;
        rest_is = refl;
        not_carried_are = refl;
      }
