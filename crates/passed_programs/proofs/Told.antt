-- What passes over a file that is told say of it.
use Rattle.std.proofs.Common.{◌≡◌, ◌⊎◌, ℕ, zero, suc, ◌+◌, ◌*◌, ◌/◌, ◌%◌, ◌<◌, ◌≤◌, List, [], ◌∷◌, ◌++◌, Option, None, Some, length, drop, slice_get, map, All, inl, inr, refl, sym, ap, ◌∙◌, subst, arith, ℤ, length-drop}
use Rattle.std.specs.List.{AllZip}
use Rattle.std.proofs.lemmas.Bool.{cases_order}
use Rattle.std.proofs.lemmas.List.{length-map}
use Rattle.std.proofs.lemmas.List.Elements.{All-cons, All-head, All-nil, All-tail}
use Rattle.audio_frames.specs.declared.frame.Frame.{Frame}
use Rattle.psi_tables.specs.declared.program_map.ProgramMap.{ProgramMap}
use Rattle.psi_tables.specs.declared.stream.Stream.{Stream}
use Rattle.psi_tables.specs.Pmt.{pids_of}
use Rattle.ts_packets.specs.TransportStream.{piece_count, rest_of}
use Rattle.ts_demux.specs.declared.carried_streams.CarriedStreams.{CarriedStreams}
use Rattle.ts_demux.specs.declared.demuxed.AudioStream.{AudioStream}
use Rattle.ts_demux.specs.declared.demuxed.Demuxed.{Demuxed}
use Rattle.ts_demux.specs.declared.demuxed.PesUnit.{PesUnit}
use Rattle.ts_demux.specs.CarriedMap.{HasStreams}
use Rattle.ts_demux.specs.Demux.{AreStreamsSound, IsDemuxRefused, IsDemuxed, pes_packets_on}
use Rattle.job_report.specs.declared.job.Form.TheVariants.{Ts}
use Rattle.elementary_streams.specs.declared.audio_stream.ReadStream.{ReadStream}
use Rattle.elementary_streams.specs.declared.stream_fault.StreamFault.{StreamFault}
use Rattle.elementary_streams.specs.Audio.{IsStreamRead, IsStreamRefused}
use Rattle.program_reader.specs.declared.program_fault.ProgramFault.{ProgramFault}
use Rattle.program_reader.specs.declared.unit_sizes.SizesWanted.{SizesWanted}
use Rattle.program_reader.specs.declared.video_walk.WalkedVideo.{WalkedVideo}
use Rattle.program_reader.specs.Audio.{HaveFrames, IsAudioFault}
use Rattle.program_reader.specs.Faults.{of_demux, of_stream}
use Rattle.program_reader.specs.Programs.{AreStreamsRefused, HasFewPackets, IsDemuxedRefused, IsProgramRefused, IsTakenOut, StandIn}
use Rattle.program_reader.proofs.ProgramLemmas.{rows_count}
use Rattle.passed_programs.specs.PassedVideo.{IsVideoRead, IsVideoRefused}
use Rattle.passed_programs.proofs.AsDemuxed.{packets_are, packets_refused, some_demuxed, video_few, video_walked}
use Rattle.stream_pass.specs.PassedStream.{HasPackets, IsOfStream, IsOverLimit}
use Rattle.stream_pass.proofs.Demuxed.{audio_is, video_is}
use Rattle.passed_programs.specs.PassedAudio.{ReadsAudio, RefusesAudio}
use Rattle.passed_programs.specs.PassedFile.{passes_limit}
use Rattle.passed_programs.specs.Private.Passes.{AreAudiosOf, AreFewFrom, EndsPasses, IsAudioFaultAt, IsAudiosFault, IsFew, IsMapFault, IsVideoFault}
use Rattle.passed_programs.proofs.Streams.{is_few}

-- ---- streams by their numbers

-- the PES packets of the stream of a number, and those behind it
abbrev IsSame : (file pids : List ℕ) → (streams : List AudioStream) → (index : ℕ) → Type 0
IsSame file pids streams index = (k : ℕ) (stream : AudioStream) (packets : List PesUnit) → slice_get streams k ≡ Some stream → HasPackets file pids (index + k) packets → stream.units ≡ packets

same_later : (file pids : List ℕ) (one : AudioStream) (streams : List AudioStream) (index : ℕ) → IsSame file pids (one ∷ streams) index → IsSame file pids streams (index + 1)
same_later file pids one streams index same k stream packets at has =
    let next : index + 1 + k ≡ index + suc k = omega arith in
    same (suc k) stream packets at (subst (λ (n : ℕ). HasPackets file pids n packets) next has)

same_first : (file pids : List ℕ) (one : AudioStream) (streams : List AudioStream) (index : ℕ) (packets : List PesUnit) → IsSame file pids (one ∷ streams) index → HasPackets file pids index packets
    → one.units ≡ packets
same_first file pids one streams index packets same has =
    let here : index ≡ index + 0 = omega arith in
    same 0 one packets refl (subst (λ (n : ℕ). HasPackets file pids n packets) here has)

-- streams that were read are those of a list
all_read : (file pids : List ℕ) (first : ℤ) (streams : List AudioStream) (index : ℕ) (read : List ReadStream) → IsSame file pids streams index → AreAudiosOf file pids first index read
    → length streams ≡ length read → AllZip (IsStreamRead first) streams read
all_read file pids first [] index [] same are count = tt
all_read file pids first [] index (r ∷ rs) same are count = absurd (omega (arith, count))
all_read file pids first (s ∷ ss) index [] same are count = absurd (omega (arith, count))
all_read file pids first (s ∷ ss) index (r ∷ rs) same are count = (
  are.0.said s (same_first file pids s ss index are.0.packets same are.0.sound_stream.has),
  all_read file pids first ss (index + 1) rs (same_later file pids s ss index same) are.1 (omega (arith, count)),
)

abbrev HasFew : AudioStream → Type 0
HasFew stream = length stream.units ≤ 4000000

-- each has the PES packets that its number has in the file
abbrev HasEach : (file pids : List ℕ) → (streams : List AudioStream) → (index : ℕ) → Type 0
HasEach file pids streams index = (k : ℕ) (stream : AudioStream) → slice_get streams k ≡ Some stream → HasPackets file pids (index + k) stream.units

each_later : (file pids : List ℕ) (one : AudioStream) (streams : List AudioStream) (index : ℕ) → HasEach file pids (one ∷ streams) index → HasEach file pids streams (index + 1)
each_later file pids one streams index each k stream at =
    let next : index + suc k ≡ index + 1 + k = omega arith in
    subst (λ (n : ℕ). HasPackets file pids n stream.units) next (each (suc k) stream at)

each_first : (file pids : List ℕ) (one : AudioStream) (streams : List AudioStream) (index : ℕ) → HasEach file pids (one ∷ streams) index → HasPackets file pids index one.units
each_first file pids one streams index each =
    let here : index + 0 ≡ index = omega arith in
    subst (λ (n : ℕ). HasPackets file pids n one.units) here (each 0 one refl)

-- those from a number on are few
few_from : (file pids : List ℕ) (streams : List AudioStream) (index : ℕ) → HasEach file pids streams index → AreFewFrom file pids index → All HasFew streams
few_from file pids [] index each few = All-nil HasFew
few_from file pids (s ∷ ss) index each few =
    All-cons HasFew s ss (few index (omega arith) s.units (each_first file pids s ss index each))
    (few_from file pids ss (index + 1) (each_later file pids s ss index each) (λ k le. few k (omega (arith, le))))

-- so are those that were read, and those behind them
few_read : (file pids : List ℕ) (first : ℤ) (streams : List AudioStream) (index : ℕ) (read : List ReadStream) → HasEach file pids streams index → AreAudiosOf file pids first index read
    → AreFewFrom file pids (index + length read) → All HasFew streams
few_read file pids first [] index read each are few = All-nil HasFew
few_read file pids first (s ∷ ss) index [] each are few =
    let here : index + 0 ≡ index = omega arith in few_from file pids (s ∷ ss) index each (subst (AreFewFrom file pids) here few)
few_read file pids first (s ∷ ss) index (r ∷ rs) each are few =
    let next : index + suc (length rs) ≡ index + 1 + length rs = omega arith in
    All-cons HasFew s ss (is_few file pids index (ReadsAudio first) r are.0 s.units (each_first file pids s ss index each))
    (few_read file pids first ss (index + 1) rs (each_later file pids s ss index each) are.1 (subst (AreFewFrom file pids) next few))

-- the first that is refused, behind those that were read
refused_at : (file pids : List ℕ) (first : ℤ) (streams : List AudioStream) (index : ℕ) (read : List ReadStream) (stream : AudioStream) (found : StreamFault) → IsSame file pids streams index
    → AreAudiosOf file pids first index read → slice_get streams (length read) ≡ Some stream → IsStreamRefused first stream found → IsAudioFault first streams (of_stream found)
refused_at file pids first [] index read stream found same are at refused = absurd (none (length read) at)
  where
    none : (k : ℕ) → slice_get [] k ≡ Some stream → ⊥
    none k is = cc
refused_at file pids first (s ∷ ss) index [] stream found same are at refused = record {
  before = [];
  stream = s;
  more = ss;
  split = refl;
  frames = [];
  have = tt;
  found = found;
  refused = subst (λ (one : AudioStream). IsStreamRefused first one found) (sym (ap_some s stream at)) refused;
  fault_is = refl;
}
  where
    ap_some : (one other : AudioStream) → Some one ≡ Some other → one ≡ other
    ap_some one other is = cc
refused_at file pids first (s ∷ ss) index (r ∷ rs) stream found same are at refused =
    let later = refused_at file pids first ss (index + 1) rs stream found (same_later file pids s ss index same) are.1 at refused in
    let own = are.0.said s (same_first file pids s ss index are.0.packets same are.0.sound_stream.has) in record {
      before = s ∷ later.before;
      stream = later.stream;
      more = later.more;
      split = ap (λ (xs : List AudioStream). s ∷ xs) later.split;
      frames = r.frames ∷ later.frames;
      have = (own.frames_are, later.have);
      found = later.found;
      refused = later.refused;
      fault_is = later.fault_is;
    }

frames_of : (first : ℤ) (streams : List AudioStream) (read : List ReadStream) → AllZip (IsStreamRead first) streams read → HaveFrames first streams (map (λ (one : ReadStream). one.frames) read)
frames_of first [] [] are = tt
frames_of first [] (r ∷ rs) are = absurd are
frames_of first (s ∷ ss) [] are = absurd are
frames_of first (s ∷ ss) (r ∷ rs) are = (are.0.frames_are, frames_of first ss rs are.1)

-- ---- what is taken out of the file

stream_of_pid : (file : List ℕ) (streams : List Stream) (k pid : ℕ) → slice_get (map (λ (s : Stream). s.pid) streams) k ≡ Some pid
    → (stream : AudioStream) × (slice_get (map (pes_packets_on file) streams) k ≡ Some stream)
stream_of_pid file [] k pid is = absurd cc
stream_of_pid file (s ∷ ss) zero pid is = (pes_packets_on file s, refl)
stream_of_pid file (s ∷ ss) (suc k) pid is = stream_of_pid file ss k pid is

pid_of_stream : (file : List ℕ) (streams : List Stream) (k : ℕ) (stream : AudioStream) → slice_get (map (pes_packets_on file) streams) k ≡ Some stream
    → (one : Stream) × (slice_get (map (λ (s : Stream). s.pid) streams) k ≡ Some one.pid) × (stream ≡ pes_packets_on file one)
pid_of_stream file [] k stream is = absurd cc
pid_of_stream file (s ∷ ss) zero stream is = (s, refl, sym (same_some (pes_packets_on file s) stream is))
  where
    same_some : (one other : AudioStream) → Some one ≡ Some other → one ≡ other
    same_some one other is = cc
pid_of_stream file (s ∷ ss) (suc k) stream is = pid_of_stream file ss k stream is

few_at : (streams : List AudioStream) (k : ℕ) (stream : AudioStream) → All HasFew streams → slice_get streams k ≡ Some stream → HasFew stream
few_at [] k stream all is = absurd (none k is)
  where
    none : (k : ℕ) → slice_get [] k ≡ Some stream → ⊥
    none k is = cc
few_at (s ∷ ss) zero stream all is = subst HasFew (same_some s stream is) (All-head HasFew s ss all)
  where
    same_some : (one other : AudioStream) → Some one ≡ Some other → one ≡ other
    same_some one other is = cc
few_at (s ∷ ss) (suc k) stream all is = few_at ss k stream (All-tail HasFew s ss all) is

module _ (file : List ℕ) (number : ℕ) (dropped : List ℕ) (demuxed : Demuxed) (is : IsDemuxed file number dropped demuxed) where
  audios_same : IsSame file (pids_of demuxed.map) demuxed.audios 1
  audios_same k stream packets at has =
      let next : 1 + k ≡ k + 1 = omega arith in
      audio_is file number dropped demuxed packets is k stream at (subst (λ (n : ℕ). HasPackets file (pids_of demuxed.map) n packets) next has)

  audios_each : HasEach file (pids_of demuxed.map) demuxed.audios 1
  audios_each k stream at =
      let one = pid_of_stream file is.audios k stream (sym (ap (λ (xs : List AudioStream). slice_get xs k) is.audio_packets) ∙ at) in
      let next : 1 + k ≡ suc k = omega arith in
      let pid : slice_get (pids_of demuxed.map) (1 + k) ≡ Some one.0.pid =
      ap (slice_get (pids_of demuxed.map)) next ∙ ap (λ (xs : List Stream). slice_get (map (λ (s : Stream). s.pid) xs) (suc k)) is.streams ∙ one.1 in
      record { pid = one.0.pid; pid_is = pid; packets_are = ap (λ (a : AudioStream). a.units) one.2 }

  taken_out : IsTakenOut Ts file number dropped demuxed
  taken_out = record { found = demuxed; cut = 0; stand = StandIn.in_packets refl is refl; typed_is = refl }

  pub audios_read : (first : ℤ) (read : List ReadStream) → AreAudiosOf file (pids_of demuxed.map) first 1 read → 1 + length read ≡ length demuxed.map.streams.items
      → AllZip (IsStreamRead first) demuxed.audios read
  audios_read first read are count =
      let streams : length demuxed.map.streams.items ≡ length (is.video ∷ is.audios) = ap (λ (xs : List Stream). length xs) is.streams in
      let audios : length demuxed.audios ≡ length is.audios = ap (λ (xs : List AudioStream). length xs) is.audio_packets ∙ length-map is.audios (pes_packets_on file) in
      all_read file (pids_of demuxed.map) first demuxed.audios 1 read audios_same are (omega (arith, streams, audios, count))

  -- the streams behind those that were read
  none_behind : (read : List ReadStream) → 1 + length read ≡ length demuxed.map.streams.items → AreFewFrom file (pids_of demuxed.map) (1 + length read)
  none_behind read count k le packets has = absurd (past (pids_of demuxed.map) k has.pid (omega (arith, le, count, length-map demuxed.map.streams.items (λ (s : Stream). s.pid))) has.pid_is)
    where
      past : (xs : List ℕ) (k x : ℕ) → length xs ≤ k → slice_get xs k ≡ Some x → ⊥
      past [] k x le is = cc
      past (y ∷ ys) zero x le is = omega (arith, le)
      past (y ∷ ys) (suc k) x le is = past ys k x (omega (arith, le)) is

  pub few_all : (first : ℤ) (read : List ReadStream) → AreAudiosOf file (pids_of demuxed.map) first 1 read → 1 + length read ≡ length demuxed.map.streams.items → All HasFew demuxed.audios
  few_all first read are count = few_read file (pids_of demuxed.map) first demuxed.audios 1 read audios_each are (none_behind read count)

  -- too many PES packets of a stream
  pub over_refused : (index : ℕ) → IsOverLimit file (pids_of demuxed.map) index → IsProgramRefused Ts file number dropped passes_limit
  over_refused index (IsOverLimit.long longer) = IsProgramRefused.long longer refl
  over_refused zero (IsOverLimit.many_packets packets sound has short many) =
      IsProgramRefused.many_packets demuxed short taken_out
      (λ few. omega (arith, few.0, many, ap (λ (ps : List PesUnit). length ps) (video_is file number dropped demuxed packets is has))) refl
  over_refused (suc k) (IsOverLimit.many_packets packets sound has short many) =
      let pid = sym (ap (λ (xs : List Stream). slice_get (map (λ (s : Stream). s.pid) xs) (suc k)) is.streams) ∙ has.pid_is in
      let one = stream_of_pid file is.audios k has.pid pid in
      let at : slice_get demuxed.audios k ≡ Some one.0 = ap (λ (xs : List AudioStream). slice_get xs k) is.audio_packets ∙ one.1 in
      let next : suc k ≡ k + 1 = omega arith in
      let same = audio_is file number dropped demuxed packets is k one.0 at (subst (λ (n : ℕ). HasPackets file (pids_of demuxed.map) n packets) next has) in
      IsProgramRefused.many_packets demuxed short taken_out (λ few. omega (arith, few_at demuxed.audios k one.0 few.1 at, many, ap (λ (ps : List PesUnit). length ps) same)) refl

  -- the audio streams
  module _ (wanted : SizesWanted) (video : WalkedVideo) (read : IsVideoRead file (pids_of demuxed.map) wanted video) where
    audio_refused : (done : List ReadStream) (found : StreamFault) → AreAudiosOf file (pids_of demuxed.map) video.first.stated 1 done
        → IsOfStream file (pids_of demuxed.map) (1 + length done) (RefusesAudio video.first.stated) found → AreFewFrom file (pids_of demuxed.map) (1 + length done + 1)
        → IsProgramRefused Ts file number dropped (of_stream found)
    audio_refused done found are of behind =
        let next : 1 + length done ≡ suc (length done) = omega arith in
        let pid : slice_get (map (λ (s : Stream). s.pid) is.audios) (length done) ≡ Some of.sound_stream.has.pid =
        sym (ap (λ (xs : List Stream). slice_get (map (λ (s : Stream). s.pid) xs) (suc (length done))) is.streams) ∙ sym (ap (slice_get (pids_of demuxed.map)) next) ∙ of.sound_stream.has.pid_is in
        let one = stream_of_pid file is.audios (length done) of.sound_stream.has.pid pid in
        let at : slice_get demuxed.audios (length done) ≡ Some one.0 = ap (λ (xs : List AudioStream). slice_get xs (length done)) is.audio_packets ∙ one.1 in
        let units : one.0.units ≡ of.packets = audios_same (length done) one.0 of.packets at of.sound_stream.has in
        let fault = refused_at file (pids_of demuxed.map) video.first.stated demuxed.audios 1 done one.0 found audios_same are at (of.said one.0 units) in
        let here : AreFewFrom file (pids_of demuxed.map) (1 + length done) = few_here (1 + length done)
        (is_few file (pids_of demuxed.map) (1 + length done) (RefusesAudio video.first.stated) found of) behind in
        let few : All HasFew demuxed.audios = few_read file (pids_of demuxed.map) video.first.stated demuxed.audios 1 done audios_each are here in
        let short = video_few file number dropped demuxed is wanted video read in
        let walked = video_walked file number dropped demuxed is wanted video read in
        IsProgramRefused.taken_out demuxed short.0 taken_out (short.1, few)
        (IsDemuxedRefused.bad_audio walked.kept video.first walked.pictures video.units_dropped walked.has_pictures fault)
      where
        few_here : (index : ℕ) → IsFew file (pids_of demuxed.map) index → AreFewFrom file (pids_of demuxed.map) (index + 1) → AreFewFrom file (pids_of demuxed.map) index
        few_here index own later k le = by_case (cases_of index k le)
          where
            cases_of : (index k : ℕ) → index ≤ k → (index ≡ k) ⊎ (index + 1 ≤ k)
            cases_of index k le = at_or_past (cases_order index k)
              where
                at_or_past : (index ≡ k) ⊎ ((index < k) ⊎ (k < index)) → (index ≡ k) ⊎ (index + 1 ≤ k)
                at_or_past (inl same) = inl same
                at_or_past (inr (inl less)) = inr (omega (arith, less))
                at_or_past (inr (inr more)) = absurd (omega (arith, le, more))

            by_case : (index ≡ k) ⊎ (index + 1 ≤ k) → IsFew file (pids_of demuxed.map) k
            by_case (inl same) = subst (IsFew file (pids_of demuxed.map)) same own
            by_case (inr more) = later k more

    pub audios_refused : (fault : ProgramFault) → ((found : ProgramFault) → EndsPasses (pids_of demuxed.map) file found → IsProgramRefused Ts file number dropped found)
        → IsAudiosFault (pids_of demuxed.map) video.first.stated file fault → IsProgramRefused Ts file number dropped fault
    audios_refused fault ended is_fault = by_fault is_fault.fault_at
      where
        by_fault : IsAudioFaultAt (pids_of demuxed.map) (1 + length is_fault.done) video.first.stated file fault → IsProgramRefused Ts file number dropped fault
        by_fault (IsAudioFaultAt.ends end) = ended fault end
        by_fault (IsAudioFaultAt.refused found of behind fault_is) =
            subst (IsProgramRefused Ts file number dropped) (sym fault_is) (audio_refused is_fault.done found is_fault.done_are of behind)

    -- too many units
    pub units_refused : (streams : List ReadStream) → AreAudiosOf file (pids_of demuxed.map) video.first.stated 1 streams → 1 + length streams ≡ length demuxed.map.streams.items
        → 4194304 < length video.units.items → IsProgramRefused Ts file number dropped passes_limit
    units_refused streams are count many =
        let short = video_few file number dropped demuxed is wanted video read in
        let walked = video_walked file number dropped demuxed is wanted video read in
        let frames = frames_of video.first.stated demuxed.audios streams (audios_read video.first.stated streams are count) in
        IsProgramRefused.taken_out demuxed short.0 taken_out (short.1, few_all video.first.stated streams are count)
        (IsDemuxedRefused.many_units walked.kept video.first walked.pictures video.units_dropped (map (λ (one : ReadStream). one.frames) streams) walked.has_pictures frames
        (omega (arith, many, rows_count walked.kept walked.pictures video.units.items walked.rows)) refl)

-- ---- by the map

module _ (file : List ℕ) (number : ℕ) (dropped : List ℕ) (carried : CarriedStreams) (has : HasStreams number dropped carried file) (short : length file ≤ 1099511627776) where
  -- what is taken out of it, where no packet is refused
  some : AreStreamsSound file (pids_of carried.map) → (demuxed : Demuxed) × IsDemuxed file number dropped demuxed × (demuxed.map ≡ carried.map) × (demuxed.not_carried ≡ carried.others)
  some sound = some_demuxed file number dropped carried.map carried.others has.tables has.few has.short sound

  over_here : (index : ℕ) → IsOverLimit file (pids_of carried.map) index → IsProgramRefused Ts file number dropped passes_limit
  over_here index (IsOverLimit.long longer) = IsProgramRefused.long longer refl
  over_here index (IsOverLimit.many_packets packets sound packets_has within many) =
      let here = some sound in
      over_refused file number dropped here.0 here.1 index
      (subst (λ (m : ProgramMap). IsOverLimit file (pids_of m) index) (sym here.2) (IsOverLimit.many_packets packets sound packets_has within many))

  pub ends_refused : (fault : ProgramFault) → EndsPasses (pids_of carried.map) file fault → IsProgramRefused Ts file number dropped fault
  ends_refused fault (EndsPasses.bad_packet found first fault_is) =
      subst (IsProgramRefused Ts file number dropped) (sym fault_is)
      (packets_refused file number dropped carried.map carried.others has.tables found short has.few has.short first)
  ends_refused fault (EndsPasses.over_limit index over fault_is) = subst (IsProgramRefused Ts file number dropped) (sym fault_is) (over_here index over)

  own_refused : (fault : ProgramFault) → IsVideoRefused file (pids_of carried.map) fault → AreFewFrom file (pids_of carried.map) 1 → IsProgramRefused Ts file number dropped fault
  own_refused fault (IsVideoRefused.long longer fault_is) behind = IsProgramRefused.long longer fault_is
  own_refused fault (IsVideoRefused.many_packets packets sound video within many fault_is) behind =
      subst (IsProgramRefused Ts file number dropped) (sym fault_is) (over_here 0 (IsOverLimit.many_packets packets sound video within many))
  own_refused fault (IsVideoRefused.taken_out packets sound refused) behind =
      let here = some sound.sound in
      let same = packets_are file number dropped here.0 here.1 packets (subst (λ (m : ProgramMap). HasPackets file (pids_of m) 0 packets) (sym here.2) sound.has) in
      let few = few_from file (pids_of here.0.map) here.0.audios 1 (audios_each file number dropped here.0 here.1)
      (subst (λ (m : ProgramMap). AreFewFrom file (pids_of m) 1) (sym here.2) behind) in
      IsProgramRefused.taken_out here.0 sound.short (taken_out file number dropped here.0 here.1)
      (omega (arith, sound.few, ap (λ (ps : List PesUnit). length ps) same), few) (refused here.0 same)

  pub video_fault_refused : (fault : ProgramFault) → IsVideoFault (pids_of carried.map) file fault → IsProgramRefused Ts file number dropped fault
  video_fault_refused fault (IsVideoFault.ends end) = ends_refused fault end
  video_fault_refused fault (IsVideoFault.refused refused behind) = own_refused fault refused behind

pub map_fault_refused : (file : List ℕ) (number : ℕ) (dropped : List ℕ) (fault : ProgramFault) → length file ≤ 1099511627776 → IsMapFault number dropped file fault
    → IsProgramRefused Ts file number dropped fault
map_fault_refused file number dropped fault short is = IsProgramRefused.streams short (AreStreamsRefused.of_packets is.0 refl is.1 is.2)

-- the bytes behind its last packet
pub rest_size : (file : List ℕ) (size : ℕ) → size ≡ length file → length (rest_of file) ≡ size % 188
rest_size file size is =
    let count : piece_count file ≡ length file / 188 = refl in
    omega (arith, is, count, length-drop (188 * piece_count file) file)
