-- A file has one program, or one refusal, and never both.
use Rattle.std.proofs.Common.{◌≡◌, ◌≢◌, ◌⊎◌, ℕ, ◌+◌, ◌-◌, ◌^◌, ◌<◌, min, Bool, true, List, [], ◌∷◌, ◌++◌, length, None, Some, refl, sym, ap, ap₂, ◌∙◌, subst, inl, inr, arith, ℤ, pos, ◌+ℤ◌, ◌-ℤ◌, ◌*ℤ◌, ◌≤ℤ◌}
use Rattle.std.proofs.lemmas.Int.{ints}
use Rattle.std.proofs.lemmas.List.Elements.{All-contains}
use Rattle.audio_frames.specs.declared.frame.Frame.{Frame}
use Rattle.es_units.specs.declared.units.Units.{Units}
use Rattle.pes_units.specs.declared.times.Times.{Times}
use Rattle.picture_grammar.specs.Refusal.{Refusal}
use Rattle.psi_tables.specs.declared.program_map.ProgramMap.{ProgramMap}
use Rattle.ts_demux.specs.declared.demux_fault.DemuxFault.{DemuxFault}
use Rattle.ts_demux.specs.declared.demux_fault.DemuxFault.TheVariants as demux_faults
use Rattle.ts_demux.specs.declared.demuxed.AudioStream.{AudioStream}
use Rattle.ts_demux.specs.declared.demuxed.Demuxed.{Demuxed}
use Rattle.ts_demux.proofs.OneAnswer as demux_answers
use Rattle.program_stream.specs.declared.split_fault.SplitFault.{SplitFault}
use Rattle.program_stream.specs.declared.split_fault.SplitFault.TheVariants as split_faults
use Rattle.program_stream.proofs.OneAnswer as split_answers
use Rattle.job_report.specs.declared.job.Form.{Form}
use Rattle.job_report.specs.declared.job.Form.TheVariants.{Ts, Ps}
use Rattle.elementary_streams.specs.declared.pes_packets.PlacedPacket.{PlacedPacket}
use Rattle.program_reader.specs.declared.program.AudioPiece.{AudioPiece}
use Rattle.program_reader.specs.declared.program.AudioSource.{AudioSource}
use Rattle.program_reader.specs.declared.program.Program.{Program}
use Rattle.program_reader.specs.declared.program.UnitSource.{UnitSource}
use Rattle.program_reader.specs.declared.program_fault.ProgramFault.{ProgramFault}
use Rattle.program_reader.specs.declared.program_fault.ProgramFault.TheVariants.{Refused, OutOfMemory}
use Rattle.program_reader.specs.declared.timed_picture.Role.{Role}
use Rattle.program_reader.specs.declared.timed_picture.TimedPicture.{TimedPicture}
use Rattle.program_reader.specs.Faults.{of_demux, of_split, of_stream}
use Rattle.elementary_streams.specs.declared.stream_fault.StreamFault.{StreamFault}
use Rattle.elementary_streams.specs.declared.stream_fault.StreamFault.TheVariants as stream_faults
use Rattle.program_reader.specs.Units.{AreKept, but_last, IsBroken, IsUnitsFault}
use Rattle.elementary_streams.specs.Audio.{taken_of, HasFrames, IsStreamRefused}
use Rattle.elementary_streams.specs.Packets.{AreSound, placed_from}
use Rattle.program_reader.specs.Audio.{HaveFrames, IsAudioFault, IsDue, ArePieces, placed_pieces, AreAudioSources}
use Rattle.program_reader.specs.AudioTypes.{typed}
use Rattle.program_reader.specs.Programs as programs
use Rattle.program_reader.specs.Programs.{StandIn, IsTakenOut, HasFewPackets, video_bytes, video_packets, HasUnits, HasNoSequence, HasPictures, all_times, IsEarliest, IsBase, AreUnitSources, all_packets_dropped, IsProgram, IsProgramOfFile, IsDemuxedRefused, AreStreamsRefused, IsProgramRefused}
use Rattle.elementary_streams.proofs.OneStream.{packet_fault_one, refused_or_has, sound_or_fault, stream_frames_one, stream_refused_one}
use Rattle.program_reader.proofs.OneUnits.{kept_one, kept_or_fault, units_fault_one}

-- ---- audio streams

have_frames_one : (first : ℤ) (streams : List AudioStream) (fs gs : List (List Frame)) → HaveFrames first streams fs → HaveFrames first streams gs → fs ≡ gs
have_frames_one first [] [] [] have have' = refl
have_frames_one first [] [] (g ∷ gs) have have' = absurd have'
have_frames_one first [] (f ∷ fs) gs have have' = absurd have
have_frames_one first (s ∷ ss) [] gs have have' = absurd have
have_frames_one first (s ∷ ss) (f ∷ fs) [] have have' = absurd have'
have_frames_one first (s ∷ ss) (f ∷ fs) (g ∷ gs) have have' =
    ap₂ (λ (x : List Frame) (xs : List (List Frame)). x ∷ xs) (stream_frames_one first s f g have.0 have'.0) (have_frames_one first ss fs gs have.1 have'.1)

-- the first stream that is refused, stream by stream
abbrev RefusedFrom : ℤ → List AudioStream → ProgramFault → Type 0
RefusedFrom first [] fault = ⊥
RefusedFrom first (stream ∷ streams) fault =
    ((found : StreamFault) × IsStreamRefused first stream found × (fault ≡ of_stream found)) ⊎ ((frames : List Frame) × HasFrames first stream frames × RefusedFrom first streams fault)

refused_from : (first : ℤ) (front : List AudioStream) (stream : AudioStream) (more : List AudioStream) (frames : List (List Frame)) (found : StreamFault) (fault : ProgramFault) →
    HaveFrames first front frames → IsStreamRefused first stream found → fault ≡ of_stream found → RefusedFrom first (front ++ stream ∷ more) fault
refused_from first [] stream more frames found fault have is said = inl (found, is, said)
refused_from first (s ∷ ss) stream more [] found fault have is said = absurd have
refused_from first (s ∷ ss) stream more (f ∷ fs) found fault have is said = inr (f, have.0, refused_from first ss stream more fs found fault have.1 is said)

audio_fault_from : (first : ℤ) (streams : List AudioStream) (fault : ProgramFault) → IsAudioFault first streams fault → RefusedFrom first streams fault
audio_fault_from first streams fault is =
    subst (λ (ss : List AudioStream). RefusedFrom first ss fault) (sym is.split) (refused_from first is.before is.stream is.more is.frames is.found fault is.have is.refused is.fault_is)

known : (fault : ProgramFault) (found : StreamFault) → fault ≢ OutOfMemory → fault ≡ of_stream found → found ≢ stream_faults.OutOfMemory
known fault found some is none = some (is ∙ ap of_stream none)

from_one : (first : ℤ) (streams : List AudioStream) (a b : ProgramFault) → a ≢ OutOfMemory → b ≢ OutOfMemory → RefusedFrom first streams a → RefusedFrom first streams b → a ≡ b
from_one first [] a b some some' is is' = absurd is
from_one first (s ∷ ss) a b some some' (inl (found, is, e)) (inl (found', is', e')) =
    e ∙ ap of_stream (stream_refused_one first s found found' (known a found some e) (known b found' some' e') is is') ∙ sym e'
from_one first (s ∷ ss) a b some some' (inl (found, is, e)) (inr (fs, has, rest)) = absurd (refused_or_has first s found fs (known a found some e) is has)
from_one first (s ∷ ss) a b some some' (inr (fs, has, rest)) (inl (found, is, e)) = absurd (refused_or_has first s found fs (known b found some' e) is has)
from_one first (s ∷ ss) a b some some' (inr (fs, has, rest)) (inr (gs, has', rest')) = from_one first ss a b some some' rest rest'

have_or_from : (first : ℤ) (streams : List AudioStream) (frames : List (List Frame)) (fault : ProgramFault) → fault ≢ OutOfMemory → HaveFrames first streams frames →
    RefusedFrom first streams fault → ⊥
have_or_from first [] frames fault some have is = is
have_or_from first (s ∷ ss) [] fault some have is = absurd have
have_or_from first (s ∷ ss) (f ∷ fs) fault some have (inl (found, is, e)) = refused_or_has first s found f (known fault found some e) is have.0
have_or_from first (s ∷ ss) (f ∷ fs) fault some have (inr (gs, has, rest)) = have_or_from first ss fs fault some have.1 rest

-- ---- the video

units_one : (demuxed : Demuxed) (a b : Units) → HasUnits demuxed a → HasUnits demuxed b → a ≡ b
units_one demuxed a b has has' = let same : Some a ≡ Some b = sym has.units_are ∙ has'.units_are in cc

record IsSamePictures (kept kept' : List (ℕ × ℕ)) (first first' : TimedPicture) (ps qs : List TimedPicture) (dropped dropped' : ℕ) : Type 0 where
  pub units : kept ≡ kept'
  pub firsts : first ≡ first'
  pub pictures : ps ≡ qs
  pub count : dropped ≡ dropped'

pictures_one : (demuxed : Demuxed) (kept kept' : List (ℕ × ℕ)) (first first' : TimedPicture) (ps qs : List TimedPicture) (dropped dropped' : ℕ) → HasPictures demuxed kept first ps dropped →
    HasPictures demuxed kept' first' qs dropped' → IsSamePictures kept kept' first first' ps qs dropped dropped'
pictures_one demuxed kept kept' first first' ps qs dropped dropped' has has' =
    let es = video_bytes demuxed in
    let packets = video_packets demuxed in
    let units : has.units ≡ has'.units = units_one demuxed has.units has'.units has.has_units has'.has_units in
    let same = kept_one es packets has'.units.cuts kept kept' ps qs has.at_end has'.at_end
    (subst (λ (u : Units). AreKept es packets u.cuts kept ps has.at_end) units has.kept_are) has'.kept_are in
    let lists : first ∷ has.later ≡ first' ∷ has'.later = sym has.first_is ∙ same.pictures ∙ has'.first_is in
    let firsts : first ≡ first' = cc in record {
      units = same.units;
      firsts = firsts;
      pictures = same.pictures;
      count = has.dropped_is ∙ ap₂ (λ (u : Units) (n : ℕ). min (u.dropped + n) (2 ^ 32 - 1)) units same.count ∙ sym has'.dropped_is;
    }

kept_nothing : (es : List ℕ) (packets : List PlacedPacket) (kept : List (ℕ × ℕ)) (first : TimedPicture) (later ps : List TimedPicture) (unit : ℕ × ℕ) (refusal : Refusal) (at dropped : ℕ) →
    ps ≡ first ∷ later → IsBroken es None unit refusal at → AreKept es packets (unit ∷ []) kept ps dropped → ⊥
kept_nothing es packets kept first later ps unit refusal at dropped some is are =
    let same = kept_one es packets (unit ∷ []) [] kept [] ps 1 dropped (but_last unit refusal at refl tt is refl) are in
    let both : [] ≡ first ∷ later = same.pictures ∙ some in
    cc

sequence_or_pictures : (demuxed : Demuxed) (kept : List (ℕ × ℕ)) (first : TimedPicture) (ps : List TimedPicture) (dropped : ℕ) → HasNoSequence demuxed →
    HasPictures demuxed kept first ps dropped → ⊥
sequence_or_pictures demuxed kept first ps dropped (sound, inl none) has = let both : None ≡ Some has.units = sym none ∙ has.has_units.units_are in cc
sequence_or_pictures demuxed kept first ps dropped (sound, inr (units, unit, refusal, at, is, cuts, broken)) has =
    let same : units ≡ has.units = units_one demuxed units has.units (record { sound = sound; units_are = is }) has.has_units in
    let one : has.units.cuts ≡ unit ∷ [] = sym (ap (λ (u : Units). u.cuts) same) ∙ cuts in
    kept_nothing (video_bytes demuxed) (video_packets demuxed) kept first has.later ps unit refusal at has.at_end has.first_is broken
    (subst (λ (cs : List (ℕ × ℕ)). AreKept (video_bytes demuxed) (video_packets demuxed) cs kept ps has.at_end) one has.kept_are)

sequence_or_fault : (demuxed : Demuxed) (units : Units) (fault : ProgramFault) → HasNoSequence demuxed → HasUnits demuxed units →
    IsUnitsFault (video_bytes demuxed) (video_packets demuxed) units.cuts fault → ⊥
sequence_or_fault demuxed units fault (sound, inl none) has is = let both : None ≡ Some units = sym none ∙ has.units_are in cc
sequence_or_fault demuxed units fault (sound, inr (units', unit, refusal, at, is', cuts, broken)) has is =
    let same : units' ≡ units = units_one demuxed units' units (record { sound = sound; units_are = is' }) has in
    let one : units.cuts ≡ unit ∷ [] = sym (ap (λ (u : Units). u.cuts) same) ∙ cuts in
    kept_or_fault (video_bytes demuxed) (video_packets demuxed) (unit ∷ []) [] [] 1 fault (but_last unit refusal at refl tt broken refl)
    (subst (λ (cs : List (ℕ × ℕ)). IsUnitsFault (video_bytes demuxed) (video_packets demuxed) cs fault) one is)

fault_or_pictures : (demuxed : Demuxed) (units : Units) (fault : ProgramFault) (kept : List (ℕ × ℕ)) (first : TimedPicture) (ps : List TimedPicture) (dropped : ℕ) → HasUnits demuxed units →
    IsUnitsFault (video_bytes demuxed) (video_packets demuxed) units.cuts fault → HasPictures demuxed kept first ps dropped → ⊥
fault_or_pictures demuxed units fault kept first ps dropped has is pictures =
    let same : units ≡ pictures.units = units_one demuxed units pictures.units has pictures.has_units in
    kept_or_fault (video_bytes demuxed) (video_packets demuxed) pictures.units.cuts kept ps pictures.at_end fault pictures.kept_are
    (subst (λ (u : Units). IsUnitsFault (video_bytes demuxed) (video_packets demuxed) u.cuts fault) same is)

-- ---- times

earliest_one : (times : List ℤ) (a b : ℤ) → IsEarliest times a → IsEarliest times b → a ≡ b
earliest_one times a b is is' =
    both a b (All-contains (λ (t : ℤ). a ≤ℤ t) times b is.least is'.stands) (All-contains (λ (t : ℤ). b ≤ℤ t) times a is'.least is.stands)
  where
    both : (a b : ℤ) → a ≤ℤ b → b ≤ℤ a → a ≡ b
    both a b le ge = omega (arith, ints)

base_one : (start : ℕ) (earliest : ℤ) (a b : ℕ) → IsBase start earliest a → IsBase start earliest b → a ≡ b
base_one start earliest a b is is' = from_rounds ((earliest -ℤ pos start)) a b is.congruent.0 is'.congruent.0 is.below is'.below is.congruent.1 is'.congruent.1
  where
    from_rounds : (d : ℤ) (a b : ℕ) (s t : ℤ) → a < 2576980377600 → b < 2576980377600 → pos a ≡ d +ℤ s *ℤ pos 2576980377600 → pos b ≡ d +ℤ t *ℤ pos 2576980377600 → a ≡ b
    from_rounds d a b s t lt lt' is is' = omega (arith, ints, is, is')

due_one : (start : ℕ) (earliest time : ℤ) (a b : ℕ) → IsDue start earliest time a → IsDue start earliest time b → a ≡ b
due_one start earliest time a b is is' = let same : pos a ≡ pos b = is ∙ sym is' in cc

same_source : (a b : UnitSource) → a.begin ≡ b.begin → a.end ≡ b.end → a.times ≡ b.times → a.due ≡ b.due → a.kind ≡ b.kind → a.role ≡ b.role → a ≡ b
same_source a b begins ends times dues kinds roles =
    ap₂ (λ (x y : ℕ). record { begin = x; end = y; times = a.times; due = a.due; kind = a.kind; role = a.role }) begins ends
    ∙ ap₂ (λ (t : Times) (d : ℕ). record { begin = b.begin; end = b.end; times = t; due = d; kind = a.kind; role = a.role }) times dues
    ∙ ap₂ (λ (k : ℕ) (r : Role). record { begin = b.begin; end = b.end; times = b.times; due = b.due; kind = k; role = r }) kinds roles

unit_sources_one : (start : ℕ) (earliest : ℤ) (units : List (ℕ × ℕ)) (ps : List TimedPicture) (a b : List UnitSource) → AreUnitSources start earliest units ps a →
    AreUnitSources start earliest units ps b → a ≡ b
unit_sources_one start earliest [] [] [] [] are are' = refl
unit_sources_one start earliest [] [] [] (y ∷ ys) are are' = absurd are'
unit_sources_one start earliest [] [] (x ∷ xs) b are are' = absurd are
unit_sources_one start earliest [] (p ∷ ps) a b are are' = absurd are
unit_sources_one start earliest (u ∷ us) [] a b are are' = absurd are
unit_sources_one start earliest (u ∷ us) (p ∷ ps) [] b are are' = absurd are
unit_sources_one start earliest (u ∷ us) (p ∷ ps) (x ∷ xs) [] are are' = absurd are'
unit_sources_one start earliest (u ∷ us) (p ∷ ps) (x ∷ xs) (y ∷ ys) are are' =
    ap₂ (λ (z : UnitSource) (zs : List UnitSource). z ∷ zs)
    (same_source x y (are.0 ∙ sym are'.0) (are.1 ∙ sym are'.1) (are.2 ∙ sym are'.2) (due_one start earliest p.ticks x.due y.due are.3 are'.3) (are.4 ∙ sym are'.4) (are.5 ∙ sym are'.5))
    (unit_sources_one start earliest us ps xs ys are.6 are'.6)

same_piece : (a b : AudioPiece) → a.packet.due ≡ b.packet.due → a.packet.gone ≡ b.packet.gone → a.packet.bytes ≡ b.packet.bytes → a.start ≡ b.start → a.at ≡ b.at → a ≡ b
same_piece a b dues gones sizes starts ats =
    ap₂ (λ (x y : ℕ). record { packet = record { due = x; gone = y; bytes = a.packet.bytes }; start = a.start; at = a.at }) dues gones
    ∙ ap₂ (λ (n : ℕ) (s : Bool). record { packet = record { due = b.packet.due; gone = b.packet.gone; bytes = n }; start = s; at = a.at }) sizes starts
    ∙ ap (λ (n : ℕ). record { packet = b.packet; start = b.start; at = n }) ats

pieces_one : (start : ℕ) (earliest : ℤ) (frames : List Frame) (places : List (PlacedPacket × ℕ × ℕ)) (a b : List AudioPiece) → ArePieces start earliest frames places a →
    ArePieces start earliest frames places b → a ≡ b
pieces_one start earliest frames [] [] [] are are' = refl
pieces_one start earliest frames [] [] (y ∷ ys) are are' = absurd are'
pieces_one start earliest frames [] (x ∷ xs) b are are' = absurd are
pieces_one start earliest frames (p ∷ ps) [] b are are' = absurd are
pieces_one start earliest frames (p ∷ ps) (x ∷ xs) [] are are' = absurd are'
pieces_one start earliest frames (p ∷ ps) (x ∷ xs) (y ∷ ys) are are' =
    ap₂ (λ (z : AudioPiece) (zs : List AudioPiece). z ∷ zs)
    (same_piece x y (due_one start earliest _ x.packet.due y.packet.due are.0.due are'.0.due) (due_one start earliest _ x.packet.gone y.packet.gone are.0.gone are'.0.gone)
    (are.0.bytes ∙ sym are'.0.bytes) (are.0.begins ∙ sym are'.0.begins) (are.0.at_is ∙ sym are'.0.at_is))
    (pieces_one start earliest frames ps xs ys are.1 are'.1)

audio_sources_one : (start : ℕ) (earliest : ℤ) (streams : List AudioStream) (frames : List (List Frame)) (a b : List AudioSource) → AreAudioSources start earliest streams frames a →
    AreAudioSources start earliest streams frames b → a ≡ b
audio_sources_one start earliest [] [] [] [] are are' = refl
audio_sources_one start earliest [] [] [] (y ∷ ys) are are' = absurd are'
audio_sources_one start earliest [] [] (x ∷ xs) b are are' = absurd are
audio_sources_one start earliest [] (f ∷ fs) a b are are' = absurd are
audio_sources_one start earliest (s ∷ ss) [] a b are are' = absurd are
audio_sources_one start earliest (s ∷ ss) (f ∷ fs) [] b are are' = absurd are
audio_sources_one start earliest (s ∷ ss) (f ∷ fs) (x ∷ xs) [] are are' = absurd are'
audio_sources_one start earliest (s ∷ ss) (f ∷ fs) (x ∷ xs) (y ∷ ys) are are' =
    let bytes : x.bytes ≡ y.bytes = are.0.bytes ∙ sym are'.0.bytes in
    let pieces : x.pieces ≡ y.pieces = pieces_one start earliest f (placed_pieces 0 (placed_from 0 (taken_of s))) x.pieces y.pieces are.0.pieces are'.0.pieces in
    ap₂ (λ (z : AudioSource) (zs : List AudioSource). z ∷ zs) (ap₂ (λ (bs : List ℕ) (ps : List AudioPiece). record { bytes = bs; pieces = ps }) bytes pieces)
    (audio_sources_one start earliest ss fs xs ys are.1 are'.1)

-- ---- the program

same_program : (a b : Program) → a.map ≡ b.map → a.base ≡ b.base → a.vbv ≡ b.vbv → a.video ≡ b.video → a.units ≡ b.units → a.audios ≡ b.audios → a.units_dropped ≡ b.units_dropped →
    a.pes_dropped ≡ b.pes_dropped → a.rest ≡ b.rest → a.not_carried ≡ b.not_carried → a ≡ b
same_program a b maps bases vbvs videos units audios units_dropped pes_dropped rests not_carried =
    ap₂ (λ (m : ProgramMap) (n : ℕ). record {
      map = m;
      base = n;
      vbv = a.vbv;
      video = a.video;
      units = a.units;
      audios = a.audios;
      units_dropped = a.units_dropped;
      pes_dropped = a.pes_dropped;
      rest = a.rest;
      not_carried = a.not_carried;
    }) maps bases
    ∙ ap₂ (λ (n : ℕ) (xs : List ℕ). record {
      map = b.map;
      base = b.base;
      vbv = n;
      video = xs;
      units = a.units;
      audios = a.audios;
      units_dropped = a.units_dropped;
      pes_dropped = a.pes_dropped;
      rest = a.rest;
      not_carried = a.not_carried;
    }) vbvs videos
    ∙ ap₂ (λ (us : List UnitSource) (xs : List AudioSource). record {
      map = b.map;
      base = b.base;
      vbv = b.vbv;
      video = b.video;
      units = us;
      audios = xs;
      units_dropped = a.units_dropped;
      pes_dropped = a.pes_dropped;
      rest = a.rest;
      not_carried = a.not_carried;
    }) units audios
    ∙ ap₂ (λ (m n : ℕ). record {
      map = b.map;
      base = b.base;
      vbv = b.vbv;
      video = b.video;
      units = b.units;
      audios = b.audios;
      units_dropped = m;
      pes_dropped = n;
      rest = a.rest;
      not_carried = a.not_carried;
    }) units_dropped pes_dropped
    ∙ ap₂ (λ (n : ℕ) (xs : List ℕ). record {
      map = b.map;
      base = b.base;
      vbv = b.vbv;
      video = b.video;
      units = b.units;
      audios = b.audios;
      units_dropped = b.units_dropped;
      pes_dropped = b.pes_dropped;
      rest = n;
      not_carried = xs;
    }) rests not_carried

program_one : (start : ℕ) (demuxed : Demuxed) (a b : Program) → IsProgram start demuxed a → IsProgram start demuxed b → a.pes_dropped ≡ b.pes_dropped → a ≡ b
program_one start demuxed a b is is' pes_dropped =
    let same = pictures_one demuxed is.kept is'.kept is.first is'.first is.pictures is'.pictures a.units_dropped b.units_dropped is.has_pictures is'.has_pictures in
    let frames : is.frames ≡ is'.frames = have_frames_one is'.first.stated demuxed.audios is.frames is'.frames
    (subst (λ (p : TimedPicture). HaveFrames p.stated demuxed.audios is.frames) same.firsts is.have_frames) is'.have_frames in
    let times : all_times is.pictures is.frames ≡ all_times is'.pictures is'.frames = ap₂ all_times same.pictures frames in
    let earliest : is.earliest ≡ is'.earliest =
    earliest_one (all_times is'.pictures is'.frames) is.earliest is'.earliest (subst (λ (ts : List ℤ). IsEarliest ts is.earliest) times is.earliest_is) is'.earliest_is in
    let bases : a.base ≡ b.base = base_one start is'.earliest a.base b.base (subst (λ (e : ℤ). IsBase start e a.base) earliest is.base_is) is'.base_is in
    let units : a.units ≡ b.units = unit_sources_one start is'.earliest is'.kept is'.pictures a.units b.units
    (subst (λ (e : ℤ). AreUnitSources start e is'.kept is'.pictures a.units) earliest
    (subst (λ (ps : List TimedPicture). AreUnitSources start is.earliest is'.kept ps a.units) same.pictures
    (subst (λ (us : List (ℕ × ℕ)). AreUnitSources start is.earliest us is.pictures a.units) same.units is.units_are))) is'.units_are in
    let audios : a.audios ≡ b.audios = audio_sources_one start is'.earliest demuxed.audios is'.frames a.audios b.audios
    (subst (λ (e : ℤ). AreAudioSources start e demuxed.audios is'.frames a.audios) earliest
    (subst (λ (fs : List (List Frame)). AreAudioSources start is.earliest demuxed.audios fs a.audios) frames is.audios_are)) is'.audios_are in
    same_program a b (is.map_is ∙ sym is'.map_is) bases (is.vbv_is ∙ ap (λ (p : TimedPicture). p.seq.vbv) same.firsts ∙ sym is'.vbv_is) (is.video_is ∙ sym is'.video_is) units audios same.count
    pes_dropped (is.rest_is ∙ sym is'.rest_is) (is.not_carried_are ∙ sym is'.not_carried_are)

module _ (demuxed : Demuxed) where
  has_sound : (kept : List (ℕ × ℕ)) (first : TimedPicture) (ps : List TimedPicture) (dropped : ℕ) → HasPictures demuxed kept first ps dropped → AreSound true demuxed.video
  has_sound kept first ps dropped has = has.has_units.sound

  audio_or_have : (kept kept' : List (ℕ × ℕ)) (first first' : TimedPicture) (ps qs : List TimedPicture) (dropped dropped' : ℕ) (fault : ProgramFault) (frames : List (List Frame)) →
      fault ≢ OutOfMemory → HasPictures demuxed kept first ps dropped → HasPictures demuxed kept' first' qs dropped' → IsAudioFault first.stated demuxed.audios fault →
      HaveFrames first'.stated demuxed.audios frames → ⊥
  audio_or_have kept kept' first first' ps qs dropped dropped' fault frames some has has' is have =
      let same = pictures_one demuxed kept kept' first first' ps qs dropped dropped' has has' in
      have_or_from first'.stated demuxed.audios frames fault some have
      (audio_fault_from first'.stated demuxed.audios fault (subst (λ (p : TimedPicture). IsAudioFault p.stated demuxed.audios fault) same.firsts is))

  refused_or_program : (start : ℕ) (program : Program) (fault : ProgramFault) → fault ≢ OutOfMemory → IsDemuxedRefused demuxed fault → IsProgram start demuxed program → ⊥
  refused_or_program start program fault some (programs.bad_packet found is said) p = sound_or_fault true demuxed.video found p.has_pictures.has_units.sound is
  refused_or_program start program fault some (programs.no_sequence none e) p =
      sequence_or_pictures demuxed p.kept p.first p.pictures program.units_dropped none p.has_pictures
  refused_or_program start program fault some (programs.bad_unit units has is) p =
      fault_or_pictures demuxed units fault p.kept p.first p.pictures program.units_dropped has is p.has_pictures
  refused_or_program start program fault some (programs.bad_audio kept first ps dropped has is) p =
      audio_or_have kept p.kept first p.first ps p.pictures dropped program.units_dropped fault p.frames some has p.has_pictures is p.have_frames
  refused_or_program start program fault some (programs.many_units kept first ps dropped frames has have many e) p =
      let same = pictures_one demuxed kept p.kept first p.first ps p.pictures dropped program.units_dropped has p.has_pictures in
      let count : length kept ≡ length p.kept = ap (λ (us : List (ℕ × ℕ)). length us) same.units in
      omega (arith, count, many, p.few)

  demuxed_refused_one : (a b : ProgramFault) → a ≢ OutOfMemory → b ≢ OutOfMemory → IsDemuxedRefused demuxed a → IsDemuxedRefused demuxed b → a ≡ b
  demuxed_refused_one a b some some' (programs.bad_packet found is e) (programs.bad_packet found' is' e') =
      e ∙ ap of_stream (packet_fault_one true demuxed.video found found' is is') ∙ sym e'
  demuxed_refused_one a b some some' (programs.bad_packet found is said) (programs.no_sequence none e) = absurd (sound_or_fault true demuxed.video found none.0 is)
  demuxed_refused_one a b some some' (programs.bad_packet found is said) (programs.bad_unit units has is') = absurd (sound_or_fault true demuxed.video found has.sound is)
  demuxed_refused_one a b some some' (programs.bad_packet found is said) (programs.bad_audio kept first ps dropped has is') = absurd (sound_or_fault true demuxed.video found has.has_units.sound is)
  demuxed_refused_one a b some some' (programs.bad_packet found is said) (programs.many_units kept first ps dropped frames has have many e) =
      absurd (sound_or_fault true demuxed.video found has.has_units.sound is)
  demuxed_refused_one a b some some' (programs.no_sequence none e) (programs.bad_packet found is said) = absurd (sound_or_fault true demuxed.video found none.0 is)
  demuxed_refused_one a b some some' (programs.no_sequence none e) (programs.no_sequence none' e') = e ∙ sym e'
  demuxed_refused_one a b some some' (programs.no_sequence none e) (programs.bad_unit units has is) = absurd (sequence_or_fault demuxed units b none has is)
  demuxed_refused_one a b some some' (programs.no_sequence none e) (programs.bad_audio kept first ps dropped has is) = absurd (sequence_or_pictures demuxed kept first ps dropped none has)
  demuxed_refused_one a b some some' (programs.no_sequence none e) (programs.many_units kept first ps dropped frames has have many e') =
      absurd (sequence_or_pictures demuxed kept first ps dropped none has)
  demuxed_refused_one a b some some' (programs.bad_unit units has is) (programs.bad_packet found is' said) = absurd (sound_or_fault true demuxed.video found has.sound is')
  demuxed_refused_one a b some some' (programs.bad_unit units has is) (programs.no_sequence none e) = absurd (sequence_or_fault demuxed units a none has is)
  demuxed_refused_one a b some some' (programs.bad_unit units has is) (programs.bad_unit units' has' is') =
      let same : units ≡ units' = units_one demuxed units units' has has' in
      units_fault_one (video_bytes demuxed) (video_packets demuxed) units'.cuts a b
      (subst (λ (u : Units). IsUnitsFault (video_bytes demuxed) (video_packets demuxed) u.cuts a) same is) is'
  demuxed_refused_one a b some some' (programs.bad_unit units has is) (programs.bad_audio kept first ps dropped has' is') =
      absurd (fault_or_pictures demuxed units a kept first ps dropped has is has')
  demuxed_refused_one a b some some' (programs.bad_unit units has is) (programs.many_units kept first ps dropped frames has' have many e) =
      absurd (fault_or_pictures demuxed units a kept first ps dropped has is has')
  demuxed_refused_one a b some some' (programs.bad_audio kept first ps dropped has is) (programs.bad_packet found is' said) = absurd (sound_or_fault true demuxed.video found has.has_units.sound is')
  demuxed_refused_one a b some some' (programs.bad_audio kept first ps dropped has is) (programs.no_sequence none e) = absurd (sequence_or_pictures demuxed kept first ps dropped none has)
  demuxed_refused_one a b some some' (programs.bad_audio kept first ps dropped has is) (programs.bad_unit units has' is') =
      absurd (fault_or_pictures demuxed units b kept first ps dropped has' is' has)
  demuxed_refused_one a b some some' (programs.bad_audio kept first ps dropped has is) (programs.bad_audio kept' first' qs dropped' has' is') =
      let same = pictures_one demuxed kept kept' first first' ps qs dropped dropped' has has' in
      from_one first'.stated demuxed.audios a b some some'
      (audio_fault_from first'.stated demuxed.audios a (subst (λ (p : TimedPicture). IsAudioFault p.stated demuxed.audios a) same.firsts is))
      (audio_fault_from first'.stated demuxed.audios b is')
  demuxed_refused_one a b some some' (programs.bad_audio kept first ps dropped has is) (programs.many_units kept' first' qs dropped' frames has' have many e) =
      absurd (audio_or_have kept kept' first first' ps qs dropped dropped' a frames some has has' is have)
  demuxed_refused_one a b some some' (programs.many_units kept first ps dropped frames has have many e) (programs.bad_packet found is said) = absurd (sound_or_fault true demuxed.video found has.has_units.sound is)
  demuxed_refused_one a b some some' (programs.many_units kept first ps dropped frames has have many e) (programs.no_sequence none e') =
      absurd (sequence_or_pictures demuxed kept first ps dropped none has)
  demuxed_refused_one a b some some' (programs.many_units kept first ps dropped frames has have many e) (programs.bad_unit units has' is) =
      absurd (fault_or_pictures demuxed units b kept first ps dropped has' is has)
  demuxed_refused_one a b some some' (programs.many_units kept first ps dropped frames has have many e) (programs.bad_audio kept' first' qs dropped' has' is) =
      absurd (audio_or_have kept' kept first' first qs ps dropped' dropped b frames some' has' has is have)
  demuxed_refused_one a b some some' (programs.many_units kept first ps dropped frames has have many e) (programs.many_units kept' first' qs dropped' frames' has' have' many' e') = e ∙ sym e'

-- ---- the streams of a file

known_demux : (fault : ProgramFault) (found : DemuxFault) → fault ≢ OutOfMemory → fault ≡ of_demux found → found ≢ demux_faults.OutOfMemory
known_demux fault found some is none = some (is ∙ ap of_demux none)

known_split : (fault : ProgramFault) (found : SplitFault) → fault ≢ OutOfMemory → fault ≡ of_split found → found ≢ split_faults.OutOfMemory
known_split fault found some is none = some (is ∙ ap of_split none)

one_form : (form : Form) → form ≡ Ts → form ≡ Ps → ⊥
one_form form ts ps = (let both : Ts ≡ Ps = sym ts ∙ ps in cc)

module _ (form : Form) (file : List ℕ) (number : ℕ) (drop : List ℕ) where
  stand_one : (one other : Demuxed) (cut other_cut : ℕ) → StandIn form file number drop one cut → StandIn form file number drop other other_cut → (one ≡ other) × (cut ≡ other_cut)
  stand_one one other cut other_cut (programs.in_packets ts is none) (programs.in_packets ts' is' none') =
      (demux_answers.one_demuxed file number drop one other is is', none ∙ sym none')
  stand_one one other cut other_cut (programs.in_packets ts is none) (programs.in_elements ps first is') = absurd (one_form form ts ps)
  stand_one one other cut other_cut (programs.in_elements ps first is) (programs.in_packets ts is' none) = absurd (one_form form ts ps)
  stand_one one other cut other_cut (programs.in_elements ps first is) (programs.in_elements ps' first' is') = split_answers.one_split file drop one other cut other_cut is is'

  taken_one : (one other : Demuxed) (is : IsTakenOut form file number drop one) (is' : IsTakenOut form file number drop other) → (one ≡ other) × (is.cut ≡ is'.cut)
  taken_one one other is is' =
      let same = stand_one is.found is'.found is.cut is'.cut is.stand is'.stand in
      (is.typed_is ∙ ap (typed form) same.0 ∙ sym is'.typed_is, same.1)

  pub one_taken_out : (one other : Demuxed) → IsTakenOut form file number drop one → IsTakenOut form file number drop other → one ≡ other
  one_taken_out one other is is' = (taken_one one other is is').0

  streams_fault_one : (a b : ProgramFault) → a ≢ OutOfMemory → b ≢ OutOfMemory → AreStreamsRefused form file number drop a → AreStreamsRefused form file number drop b → a ≡ b
  streams_fault_one a b some some' (programs.of_packets found ts is e) (programs.of_packets found' ts' is' e') =
      e ∙ ap of_demux (demux_answers.one_refusal file number drop found found' (known_demux a found some e) (known_demux b found' some' e') is is') ∙ sym e'
  streams_fault_one a b some some' (programs.of_packets found ts is e) (programs.no_program ps other e') = absurd (one_form form ts ps)
  streams_fault_one a b some some' (programs.of_packets found ts is e) (programs.of_elements found' ps same is' e') = absurd (one_form form ts ps)
  streams_fault_one a b some some' (programs.no_program ps other e) (programs.of_packets found ts is e') = absurd (one_form form ts ps)
  streams_fault_one a b some some' (programs.no_program ps other e) (programs.no_program ps' other' e') = e ∙ sym e'
  streams_fault_one a b some some' (programs.no_program ps other e) (programs.of_elements found ps' same is e') = absurd (same other)
  streams_fault_one a b some some' (programs.of_elements found ps same is e) (programs.of_packets found' ts is' e') = absurd (one_form form ts ps)
  streams_fault_one a b some some' (programs.of_elements found ps same is e) (programs.no_program ps' other e') = absurd (same other)
  streams_fault_one a b some some' (programs.of_elements found ps same is e) (programs.of_elements found' ps' same' is' e') =
      e ∙ ap of_split (split_answers.one_split_fault file drop found found' (known_split a found some e) (known_split b found' some' e') is is') ∙ sym e'

  stand_or_refused : (demuxed : Demuxed) (cut : ℕ) (fault : ProgramFault) → fault ≢ OutOfMemory → StandIn form file number drop demuxed cut → AreStreamsRefused form file number drop fault → ⊥
  stand_or_refused demuxed cut fault some (programs.in_packets ts is none) (programs.of_packets found ts' is' e) =
      known_demux fault found some e (demux_answers.never_both file number drop demuxed found is is')
  stand_or_refused demuxed cut fault some (programs.in_packets ts is none) (programs.no_program ps other e) = one_form form ts ps
  stand_or_refused demuxed cut fault some (programs.in_packets ts is none) (programs.of_elements found ps same is' e) = one_form form ts ps
  stand_or_refused demuxed cut fault some (programs.in_elements ps first is) (programs.of_packets found ts is' e) = one_form form ts ps
  stand_or_refused demuxed cut fault some (programs.in_elements ps first is) (programs.no_program ps' other e) = other.other first
  stand_or_refused demuxed cut fault some (programs.in_elements ps first is) (programs.of_elements found ps' same is' e) =
      known_split fault found some e (split_answers.split_or_refused file drop demuxed cut found is is')

  taken_or_refused : (demuxed : Demuxed) (fault : ProgramFault) → fault ≢ OutOfMemory → IsTakenOut form file number drop demuxed → AreStreamsRefused form file number drop fault → ⊥
  taken_or_refused demuxed fault some is refused = stand_or_refused is.found is.cut fault some is.stand refused

  -- ---- the file

  pub one_program : (start : ℕ) (a b : Program) → IsProgramOfFile form file number drop start a → IsProgramOfFile form file number drop start b → a ≡ b
  one_program start a b is is' =
      let same = taken_one is.demuxed is'.demuxed is.demuxed_is is'.demuxed_is in
      let dropped : a.pes_dropped ≡ b.pes_dropped =
      is.pes_dropped_is ∙ ap₂ (λ (d : Demuxed) (n : ℕ). all_packets_dropped d + n) same.0 same.1 ∙ sym is'.pes_dropped_is in
      program_one start is'.demuxed a b (subst (λ (d : Demuxed). IsProgram start d a) same.0 is.program_is) is'.program_is dropped

  same_packets : (demuxed demuxed' : Demuxed) → IsTakenOut form file number drop demuxed → IsTakenOut form file number drop demuxed' → HasFewPackets demuxed → HasFewPackets demuxed'
  same_packets demuxed demuxed' is is' few = subst (λ (d : Demuxed). HasFewPackets d) (one_taken_out demuxed demuxed' is is') few

  pub one_refusal : (a b : ProgramFault) → a ≢ OutOfMemory → b ≢ OutOfMemory → IsProgramRefused form file number drop a → IsProgramRefused form file number drop b → a ≡ b
  one_refusal a b some some' (programs.memory e) is' = absurd (some e)
  one_refusal a b some some' is (programs.memory e) = absurd (some' e)
  one_refusal a b some some' (programs.long far e) (programs.long far' e') = e ∙ sym e'
  one_refusal a b some some' (programs.long far e) (programs.streams within is) = absurd (omega (arith, far, within))
  one_refusal a b some some' (programs.long far e) (programs.many_packets demuxed within is many e') = absurd (omega (arith, far, within))
  one_refusal a b some some' (programs.long far e) (programs.taken_out demuxed within is few refused) = absurd (omega (arith, far, within))
  one_refusal a b some some' (programs.streams within is) (programs.long far e) = absurd (omega (arith, far, within))
  one_refusal a b some some' (programs.streams within is) (programs.streams within' is') = streams_fault_one a b some some' is is'
  one_refusal a b some some' (programs.streams within is) (programs.many_packets demuxed within' is' many e) = absurd (taken_or_refused demuxed a some is' is)
  one_refusal a b some some' (programs.streams within is) (programs.taken_out demuxed within' is' few refused) = absurd (taken_or_refused demuxed a some is' is)
  one_refusal a b some some' (programs.many_packets demuxed within is many e) (programs.long far e') = absurd (omega (arith, far, within))
  one_refusal a b some some' (programs.many_packets demuxed within is many e) (programs.streams within' is') = absurd (taken_or_refused demuxed b some' is is')
  one_refusal a b some some' (programs.many_packets demuxed within is many e) (programs.many_packets demuxed' within' is' many' e') = e ∙ sym e'
  one_refusal a b some some' (programs.many_packets demuxed within is many e) (programs.taken_out demuxed' within' is' few refused) =
      absurd (many (same_packets demuxed' demuxed is' is few))
  one_refusal a b some some' (programs.taken_out demuxed within is few refused) (programs.long far e) = absurd (omega (arith, far, within))
  one_refusal a b some some' (programs.taken_out demuxed within is few refused) (programs.streams within' is') = absurd (taken_or_refused demuxed b some' is is')
  one_refusal a b some some' (programs.taken_out demuxed within is few refused) (programs.many_packets demuxed' within' is' many e) =
      absurd (many (same_packets demuxed demuxed' is is' few))
  one_refusal a b some some' (programs.taken_out demuxed within is few refused) (programs.taken_out demuxed' within' is' few' refused') =
      let same : demuxed ≡ demuxed' = one_taken_out demuxed demuxed' is is' in
      demuxed_refused_one demuxed' a b some some' (subst (λ (d : Demuxed). IsDemuxedRefused d a) same refused) refused'

  either : (start : ℕ) (program : Program) (fault : ProgramFault) → fault ≢ OutOfMemory → IsProgramOfFile form file number drop start program → IsProgramRefused form file number drop fault → ⊥
  either start program fault some is (programs.memory e) = some e
  either start program fault some is (programs.long far e) = omega (arith, far, is.within)
  either start program fault some is (programs.streams within is') = taken_or_refused is.demuxed fault some is.demuxed_is is'
  either start program fault some is (programs.many_packets demuxed within is' many e) = many (same_packets is.demuxed demuxed is.demuxed_is is' is.few_packets)
  either start program fault some is (programs.taken_out demuxed within is' few refused) =
      let same : demuxed ≡ is.demuxed = one_taken_out demuxed is.demuxed is' is.demuxed_is in
      refused_or_program is.demuxed start program fault some (subst (λ (d : Demuxed). IsDemuxedRefused d fault) same refused) is.program_is

  pub never_both : (start : ℕ) (program : Program) (fault : ProgramFault) → IsProgramOfFile form file number drop start program → IsProgramRefused form file number drop fault
      → fault ≡ OutOfMemory
  never_both start program OutOfMemory is refused = refl
  never_both start program (Refused kind at) is refused = absurd (either start program (Refused kind at) (λ same. (let both : Refused kind at ≡ OutOfMemory = same in cc)) is refused)
