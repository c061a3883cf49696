-- A program of a file with some units has one first finding, or one refusal, and never both.
use Rattle.std.proofs.Common.{◌≡◌, ◌≢◌, ◌⊎◌, inl, inr, ℕ, ◌+◌, ◌*◌, ◌<◌, true, false, List, [], ◌∷◌, ◌++◌, All, length, Option, Some, None, pos, refl, sym, ap, ap₂, ◌∙◌, subst, arith}
use Rattle.std.proofs.lemmas.Bool.{cases_order}
use Rattle.std.proofs.lemmas.List.Elements.{All-head, All-tail}
use Rattle.stream_constants.specs.declared.packets.TheConstants.{PACKET_BYTES}
use Rattle.audio_frames.specs.declared.frame.Frame.{Frame}
use Rattle.psi_tables.specs.declared.stream.Stream.{Stream}
use Rattle.ts_packets.specs.TransportStream.{pid_pieces}
use Rattle.ts_demux.specs.declared.demuxed.AudioStream.{AudioStream}
use Rattle.ts_demux.specs.declared.demuxed.Demuxed.{Demuxed}
use Rattle.ts_demux.specs.declared.demuxed.PesUnit.{PesUnit}
use Rattle.ts_demux.specs.declared.demux_fault.DemuxFault.{DemuxFault}
use Rattle.ts_demux.specs.declared.demux_fault.DemuxFault.TheVariants as demux_faults
use Rattle.ts_demux.specs.Demux.{AreStreamsSound, IsDemuxRefused, IsDemuxed, IsFirstStreamFault, IsStreamFault}
use Rattle.ts_demux.specs.Faults.{of_pid}
use Rattle.ts_demux.specs.PidPlaces.{IsPlacesFault, places_on}
use Rattle.ts_demux.specs.Tables.{HasPidFault, IsMapPid, pat_pid, piece}
use Rattle.ts_demux.proofs.OneAnswer.{one_demuxed, one_refusal}
use Rattle.ts_demux.proofs.OneAnswer as demux_answers
use Rattle.ts_demux.proofs.OneStop.{no_sync_first, one_pat, one_pid_fault}
use Rattle.ts_demux.proofs.TableLemmas.{of_one}
use Rattle.elementary_streams.specs.declared.stream_fault.StreamFault.{StreamFault}
use Rattle.elementary_streams.specs.declared.stream_fault.StreamFault.TheVariants as stream_faults
use Rattle.elementary_streams.specs.Packets.{joined, taken}
use Rattle.elementary_streams.proofs.OneStream.{packet_fault_one, refused_or_has, sound_or_fault, stream_frames_one, stream_refused_one}
use Rattle.stream_audit.specs.declared.audit_stop.AuditStop.{AuditStop}
use Rattle.stream_audit.specs.declared.audit_stop.AuditStop.TheVariants as stops
use Rattle.stream_audit.specs.declared.audited_stream.AuditedStream.{AuditedStream}
use Rattle.stream_audit.specs.declared.file_clock.FoundClock.{FoundClock}
use Rattle.stream_audit.specs.declared.finding.Finding.{Finding}
use Rattle.stream_audit.specs.declared.kept_units.KeptUnits.{KeptUnits}
use Rattle.stream_audit.specs.Audit.{AreStreamsOf, IsAudited}
use Rattle.stream_audit.specs.Clock.{IsClockOf, first_off}
use Rattle.stream_audit.specs.Findings.{FindsBy}
use Rattle.stream_audit.specs.Refusals.{AreTablesSound, IsAuditStopped, IsAudioSound, IsAudioStopped, IsClockStopped, IsFirstAudioStopped, IsProgramRead, IsProgramStopped, IsSystemFault, IsVideoSound, IsVideoStopped, stop_of_demux, stop_of_stream}
use Rattle.stream_audit.specs.Removals.{AreInTime, first_time, frame_removals, bytes_of_units, unit_removals}
use Rattle.stream_audit.specs.Streams.{AreAudioStreams, IsAudioStream, IsVideoStream, arrivals_by, system_stream}
use Rattle.stream_audit.proofs.OneFinding.{one_finding}

-- ---- packets

-- as one packet is refused for one thing, so is the first one that is refused
stream_one : (file pids : List ℕ) (n : ℕ) (a b : DemuxFault) → IsStreamFault file pids n a → IsStreamFault file pids n b → a ≡ b
stream_one file pids n a b (inl (none, e)) (inl (other, f)) = e ∙ sym f
stream_one file pids n a b (inl (none, e)) (inr (pid, found, among, has, f)) =
    e ∙ sym (f ∙ ap (of_pid (PACKET_BYTES * n)) (no_sync_first (pid_pieces file pid 0 n) (piece file n) found none.no_sync has.fault_is))
stream_one file pids n a b (inr (pid, found, among, has, e)) (inl (none, f)) =
    e ∙ ap (of_pid (PACKET_BYTES * n)) (no_sync_first (pid_pieces file pid 0 n) (piece file n) found none.no_sync has.fault_is) ∙ sym f
stream_one file pids n a b (inr (pid, found, among, has, e)) (inr (other, also, within, having, f)) =
    let same : pid ≡ other = of_one file pid other n has.of_pid having.of_pid in
    e ∙ ap (of_pid (PACKET_BYTES * n)) (one_pid_fault file other 0 n found also (subst (λ (p : ℕ). HasPidFault file p 0 n found) same has) having) ∙ sym f

first_one : (file pids : List ℕ) (a b : DemuxFault) → IsFirstStreamFault file pids a → IsFirstStreamFault file pids b → a ≡ b
first_one file pids a b first other = by_order (cases_order first.packet other.packet)
  where
    by_order : (first.packet ≡ other.packet) ⊎ ((first.packet < other.packet) ⊎ (other.packet < first.packet)) → a ≡ b
    by_order (inl same) = stream_one file pids other.packet a b (subst (λ (n : ℕ). IsStreamFault file pids n a) same first.stands) other.stands
    by_order (inr (inl before)) = absurd (other.first first.packet a before first.stands)
    by_order (inr (inr before)) = absurd (first.first other.packet b before other.stands)

-- what isn't want of memory
abbrev pub Known : DemuxFault → Type 0
Known fault = fault ≢ demux_faults.OutOfMemory

places_one : (file : List ℕ) (pid : ℕ) (a b : DemuxFault) → Known a → Known b → IsPlacesFault file pid a → IsPlacesFault file pid b → a ≡ b
places_one file pid a b some known (inl wanted) other = absurd (some wanted)
places_one file pid a b some known (inr first) (inl wanted) = absurd (known wanted)
places_one file pid a b some known (inr first) (inr other) = first_one file (pid ∷ []) a b first other

pub sound_or_places : (file : List ℕ) (pid : ℕ) (fault : DemuxFault) → Known fault → AreStreamsSound file (pid ∷ []) → IsPlacesFault file pid fault → ⊥
sound_or_places file pid fault some sound (inl wanted) = some wanted
sound_or_places file pid fault some sound (inr first) = sound first.packet fault first.stands

system_one : (file : List ℕ) (map_pid : ℕ) (a b : DemuxFault) → Known a → Known b → IsSystemFault file map_pid a → IsSystemFault file map_pid b → a ≡ b
system_one file map_pid a b some known (inl first) (inl other) = places_one file pat_pid a b some known first other
system_one file map_pid a b some known (inl first) (inr other) = absurd (sound_or_places file pat_pid a some other.0 first)
system_one file map_pid a b some known (inr first) (inl other) = absurd (sound_or_places file pat_pid b known first.0 other)
system_one file map_pid a b some known (inr first) (inr other) = places_one file map_pid a b some known first.1 other.1

-- a stop that isn't want of memory is of such a fault
pub known_of : (stop : AuditStop) (fault : DemuxFault) → stop ≢ stops.OutOfMemory → stop ≡ stop_of_demux fault → Known fault
known_of stop fault some is wanted = some (is ∙ ap stop_of_demux wanted)

-- ---- the map's PID and the clock

map_pid_one : (file : List ℕ) (program p q : ℕ) → IsMapPid file program p → IsMapPid file program q → p ≡ q
map_pid_one file program p q a b = (one_pat file program a.packet a.index p b.packet b.index q a.takes b.takes).1

clock_one : (file : List ℕ) (slot pid : ℕ) (a b : FoundClock) → IsClockOf file slot pid a → IsClockOf file slot pid b → a ≡ b
clock_one file slot pid a b is also =
    let both : Some a.zero ≡ Some b.zero = sym is.zero_is ∙ also.zero_is in
    let zeros : a.zero ≡ b.zero = cc in
    let offs : a.off ≡ b.off = is.off_is ∙ ap (λ (z : ℕ). first_off slot z (places_on file pid)) zeros ∙ sym also.off_is in
    let made : FoundClock = record { zero = a.zero; off = a.off } in
    let same : made ≡ b = ap₂ (λ (z : ℕ) (o : Option ℕ). record { zero = z; off = o }) zeros offs in
    same

pub clock_or_stop : (file : List ℕ) (slot pid : ℕ) (clock : FoundClock) (stop : AuditStop) → stop ≢ stops.OutOfMemory → IsClockOf file slot pid clock → IsClockStopped file slot pid stop → ⊥
clock_or_stop file slot pid clock stop some is (IsClockStopped.no_pid none e) = is.known none
clock_or_stop file slot pid clock stop some is (IsClockStopped.bad_packet fault pid_is bad e) = sound_or_places file pid fault (known_of stop fault some e) is.sound bad
clock_or_stop file slot pid clock stop some is (IsClockStopped.no_reference pid_is sound none e) = let both : None ≡ Some clock.zero = sym none ∙ is.zero_is in cc

clock_stop_one : (file : List ℕ) (slot pid : ℕ) (a b : AuditStop) → a ≢ stops.OutOfMemory → b ≢ stops.OutOfMemory → IsClockStopped file slot pid a → IsClockStopped file slot pid b → a ≡ b
clock_stop_one file slot pid a b some known (IsClockStopped.no_pid none e) (IsClockStopped.no_pid also f) = e ∙ sym f
clock_stop_one file slot pid a b some known (IsClockStopped.no_pid none e) (IsClockStopped.bad_packet fault there bad f) = absurd (there none)
clock_stop_one file slot pid a b some known (IsClockStopped.no_pid none e) (IsClockStopped.no_reference there sound lacks f) = e ∙ sym f
clock_stop_one file slot pid a b some known (IsClockStopped.bad_packet fault there bad e) (IsClockStopped.no_pid none f) = absurd (there none)
clock_stop_one file slot pid a b some known (IsClockStopped.bad_packet fault there bad e) (IsClockStopped.bad_packet other here worse f) =
    e ∙ ap stop_of_demux (places_one file pid fault other (known_of a fault some e) (known_of b other known f) bad worse) ∙ sym f
clock_stop_one file slot pid a b some known (IsClockStopped.bad_packet fault there bad e) (IsClockStopped.no_reference here sound lacks f) =
    absurd (sound_or_places file pid fault (known_of a fault some e) sound bad)
clock_stop_one file slot pid a b some known (IsClockStopped.no_reference there sound lacks e) (IsClockStopped.no_pid none f) = e ∙ sym f
clock_stop_one file slot pid a b some known (IsClockStopped.no_reference there sound lacks e) (IsClockStopped.bad_packet fault here bad f) =
    absurd (sound_or_places file pid fault (known_of b fault known f) sound bad)
clock_stop_one file slot pid a b some known (IsClockStopped.no_reference there sound lacks e) (IsClockStopped.no_reference here also none f) = e ∙ sym f

-- ---- what is read before the streams

-- one program is read, and one thing refuses it
record SameProgram (demuxed other : Demuxed) (map_pid pid : ℕ) (clock found : FoundClock) : Type 0 where
  pub demuxed_is : demuxed ≡ other
  pub pid_is : map_pid ≡ pid
  pub clock_is : clock ≡ found

read_one : (file : List ℕ) (program slot : ℕ) (demuxed other : Demuxed) (map_pid pid : ℕ) (clock found : FoundClock) → IsProgramRead file program slot demuxed map_pid clock
    → IsProgramRead file program slot other pid found → SameProgram demuxed other map_pid pid clock found
read_one file program slot demuxed other map_pid pid clock found a b =
    let same : demuxed ≡ other = one_demuxed file program [] demuxed other a.tables.taken_out b.tables.taken_out in
    record {
      demuxed_is = same;
      pid_is = map_pid_one file program map_pid pid a.tables.map_is b.tables.map_is;
      clock_is = clock_one file slot other.map.pcr_pid clock found (subst (λ (d : Demuxed). IsClockOf file slot d.map.pcr_pid clock) same a.clock_is) b.clock_is;
    }

-- a program that is taken out isn't refused
out_or_refused : (file : List ℕ) (program : ℕ) (demuxed : Demuxed) (fault : DemuxFault) → Known fault → IsDemuxed file program [] demuxed → IsDemuxRefused file program [] fault → ⊥
out_or_refused file program demuxed fault some is refused = some (demux_answers.never_both file program [] demuxed fault is refused)

-- sound tables have no fault
tables_or_fault : (file : List ℕ) (program : ℕ) (demuxed : Demuxed) (map_pid pid : ℕ) (fault : DemuxFault) → Known fault → AreTablesSound file program demuxed map_pid
    → IsMapPid file program pid → IsSystemFault file pid fault → ⊥
tables_or_fault file program demuxed map_pid pid fault some tables is (inl first) = sound_or_places file pat_pid fault some tables.pat_sound first
tables_or_fault file program demuxed map_pid pid fault some tables is (inr bad) =
    let same : pid ≡ map_pid = map_pid_one file program pid map_pid is tables.map_is in
    sound_or_places file map_pid fault some tables.map_sound (subst (λ (p : ℕ). IsPlacesFault file p fault) same bad.1)

read_or_stop : (file : List ℕ) (program slot : ℕ) (demuxed : Demuxed) (map_pid : ℕ) (clock : FoundClock) (stop : AuditStop) → stop ≢ stops.OutOfMemory
    → IsProgramRead file program slot demuxed map_pid clock → IsProgramStopped file program slot stop → ⊥
read_or_stop file program slot demuxed map_pid clock stop some read (IsProgramStopped.long_file long e) = let few = read.tables.file_fits in omega (arith, long, few)
read_or_stop file program slot demuxed map_pid clock stop some read (IsProgramStopped.no_program fault few refused e) =
    out_or_refused file program demuxed fault (known_of stop fault some e) read.tables.taken_out refused
read_or_stop file program slot demuxed map_pid clock stop some read (IsProgramStopped.bad_tables other pid fault few out is bad e) =
    tables_or_fault file program demuxed map_pid pid fault (known_of stop fault some e) read.tables is bad
read_or_stop file program slot demuxed map_pid clock stop some read (IsProgramStopped.no_clock other pid tables stopped) =
    let same : other ≡ demuxed = one_demuxed file program [] other demuxed tables.taken_out read.tables.taken_out in
    clock_or_stop file slot demuxed.map.pcr_pid clock stop some read.clock_is (subst (λ (d : Demuxed). IsClockStopped file slot d.map.pcr_pid stop) same stopped)

program_stop_one : (file : List ℕ) (program slot : ℕ) (a b : AuditStop) → a ≢ stops.OutOfMemory → b ≢ stops.OutOfMemory → IsProgramStopped file program slot a
    → IsProgramStopped file program slot b → a ≡ b
program_stop_one file program slot a b some known (IsProgramStopped.long_file long e) (IsProgramStopped.long_file also f) = e ∙ sym f
program_stop_one file program slot a b some known (IsProgramStopped.long_file long e) (IsProgramStopped.no_program fault few refused f) = absurd (omega (arith, long, few))
program_stop_one file program slot a b some known (IsProgramStopped.long_file long e) (IsProgramStopped.bad_tables demuxed pid fault few out is bad f) = absurd (omega (arith, long, few))
program_stop_one file program slot a b some known (IsProgramStopped.long_file long e) (IsProgramStopped.no_clock demuxed pid tables stopped) =
    let few = tables.file_fits in absurd (omega (arith, long, few))
program_stop_one file program slot a b some known (IsProgramStopped.no_program fault few refused e) (IsProgramStopped.long_file long f) = absurd (omega (arith, long, few))
program_stop_one file program slot a b some known (IsProgramStopped.no_program fault few refused e) (IsProgramStopped.no_program other less also f) =
    e ∙ ap stop_of_demux (one_refusal file program [] fault other (known_of a fault some e) (known_of b other known f) refused also) ∙ sym f
program_stop_one file program slot a b some known (IsProgramStopped.no_program fault few refused e) (IsProgramStopped.bad_tables demuxed pid other less out is bad f) =
    absurd (out_or_refused file program demuxed fault (known_of a fault some e) out refused)
program_stop_one file program slot a b some known (IsProgramStopped.no_program fault few refused e) (IsProgramStopped.no_clock demuxed pid tables stopped) =
    absurd (out_or_refused file program demuxed fault (known_of a fault some e) tables.taken_out refused)
program_stop_one file program slot a b some known (IsProgramStopped.bad_tables demuxed pid fault few out is bad e) (IsProgramStopped.long_file long f) = absurd (omega (arith, long, few))
program_stop_one file program slot a b some known (IsProgramStopped.bad_tables demuxed pid fault few out is bad e) (IsProgramStopped.no_program other less refused f) =
    absurd (out_or_refused file program demuxed other (known_of b other known f) out refused)
program_stop_one file program slot a b some known (IsProgramStopped.bad_tables demuxed pid fault few out is bad e) (IsProgramStopped.bad_tables one map_pid other less also here worse f) =
    let same : pid ≡ map_pid = map_pid_one file program pid map_pid is here in
    e ∙ ap stop_of_demux (system_one file map_pid fault other (known_of a fault some e) (known_of b other known f) (subst (λ (p : ℕ). IsSystemFault file p fault) same bad) worse) ∙ sym f
program_stop_one file program slot a b some known (IsProgramStopped.bad_tables demuxed pid fault few out is bad e) (IsProgramStopped.no_clock one map_pid tables stopped) =
    absurd (tables_or_fault file program one map_pid pid fault (known_of a fault some e) tables is bad)
program_stop_one file program slot a b some known (IsProgramStopped.no_clock demuxed pid tables stopped) (IsProgramStopped.long_file long f) =
    let few = tables.file_fits in absurd (omega (arith, long, few))
program_stop_one file program slot a b some known (IsProgramStopped.no_clock demuxed pid tables stopped) (IsProgramStopped.no_program fault few refused f) =
    absurd (out_or_refused file program demuxed fault (known_of b fault known f) tables.taken_out refused)
program_stop_one file program slot a b some known (IsProgramStopped.no_clock demuxed pid tables stopped) (IsProgramStopped.bad_tables one map_pid fault few out is bad f) =
    absurd (tables_or_fault file program demuxed pid map_pid fault (known_of b fault known f) tables is bad)
program_stop_one file program slot a b some known (IsProgramStopped.no_clock demuxed pid tables stopped) (IsProgramStopped.no_clock one map_pid also here) =
    let same : demuxed ≡ one = one_demuxed file program [] demuxed one tables.taken_out also.taken_out in
    clock_stop_one file slot one.map.pcr_pid a b some known (subst (λ (d : Demuxed). IsClockStopped file slot d.map.pcr_pid a) same stopped) here

-- ---- the video

pub video_or_stop : (packets : List PesUnit) (stop : AuditStop) → IsVideoSound packets → IsVideoStopped packets stop → ⊥
video_or_stop packets stop is (IsVideoStopped.bad_packet at found bad e) = sound_or_fault true packets (stream_faults.Pes at found) is.sound bad
video_or_stop packets stop is (IsVideoStopped.no_sequence sound none e) = let both : None ≡ Some is.from = sym none ∙ is.sequence in cc

video_stop_one : (packets : List PesUnit) (a b : AuditStop) → IsVideoStopped packets a → IsVideoStopped packets b → a ≡ b
video_stop_one packets a b (IsVideoStopped.bad_packet at found bad e) (IsVideoStopped.bad_packet to other worse f) =
    let same : stream_faults.Pes at found ≡ stream_faults.Pes to other = packet_fault_one true packets (stream_faults.Pes at found) (stream_faults.Pes to other) bad worse in
    e ∙ ap (stop_of_stream 0) same ∙ sym f
video_stop_one packets a b (IsVideoStopped.bad_packet at found bad e) (IsVideoStopped.no_sequence sound none f) = absurd (sound_or_fault true packets (stream_faults.Pes at found) sound bad)
video_stop_one packets a b (IsVideoStopped.no_sequence sound none e) (IsVideoStopped.bad_packet at found bad f) = absurd (sound_or_fault true packets (stream_faults.Pes at found) sound bad)
video_stop_one packets a b (IsVideoStopped.no_sequence sound none e) (IsVideoStopped.no_sequence also lacks f) = e ∙ sym f

-- ---- the audio streams

known_stream : (stop : AuditStop) (pid : ℕ) (found : StreamFault) → stop ≢ stops.OutOfMemory → stop ≡ stop_of_stream pid found → found ≢ stream_faults.OutOfMemory
known_stream stop pid found some is wanted = some (is ∙ ap (stop_of_stream pid) wanted)

pub audio_or_stop : (kept : KeptUnits) (stream : AudioStream) (stop : AuditStop) → stop ≢ stops.OutOfMemory → IsAudioSound kept stream → IsAudioStopped kept stream stop → ⊥
audio_or_stop kept stream stop some is (IsAudioStopped.unread found refused e) =
    refused_or_has (pos (first_time kept)) stream found is.frames (known_stream stop stream.pid found some e) refused is.framed
audio_or_stop kept stream stop some is (IsAudioStopped.late frames framed late e) =
    late (subst (AreInTime kept) (stream_frames_one (pos (first_time kept)) stream is.frames frames is.framed framed) is.in_time)

audio_stop_one : (kept : KeptUnits) (stream : AudioStream) (a b : AuditStop) → a ≢ stops.OutOfMemory → b ≢ stops.OutOfMemory → IsAudioStopped kept stream a
    → IsAudioStopped kept stream b → a ≡ b
audio_stop_one kept stream a b some known (IsAudioStopped.unread found refused e) (IsAudioStopped.unread other also f) =
    e ∙ ap (stop_of_stream stream.pid) (stream_refused_one (pos (first_time kept)) stream found other (known_stream a stream.pid found some e) (known_stream b stream.pid other known f) refused also)
    ∙ sym f
audio_stop_one kept stream a b some known (IsAudioStopped.unread found refused e) (IsAudioStopped.late frames framed late f) =
    absurd (refused_or_has (pos (first_time kept)) stream found frames (known_stream a stream.pid found some e) refused framed)
audio_stop_one kept stream a b some known (IsAudioStopped.late frames framed late e) (IsAudioStopped.unread found refused f) =
    absurd (refused_or_has (pos (first_time kept)) stream found frames (known_stream b stream.pid found known f) refused framed)
audio_stop_one kept stream a b some known (IsAudioStopped.late frames framed late e) (IsAudioStopped.late others also last f) = e ∙ sym f

-- the first stream that is refused, stream by stream
abbrev StoppedFrom : KeptUnits → List AudioStream → AuditStop → Type 0
StoppedFrom kept [] stop = ⊥
StoppedFrom kept (stream ∷ streams) stop = IsAudioStopped kept stream stop ⊎ (IsAudioSound kept stream × StoppedFrom kept streams stop)

stopped_behind : (kept : KeptUnits) (before : List AudioStream) (audio : AudioStream) (more : List AudioStream) (stop : AuditStop) → All (IsAudioSound kept) before
    → IsAudioStopped kept audio stop → StoppedFrom kept (before ++ audio ∷ more) stop
stopped_behind kept [] audio more stop sound refused = inl refused
stopped_behind kept (x ∷ xs) audio more stop sound refused =
    inr (All-head (IsAudioSound kept) x xs sound, stopped_behind kept xs audio more stop (All-tail (IsAudioSound kept) x xs sound) refused)

stopped_from : (kept : KeptUnits) (streams : List AudioStream) (stop : AuditStop) → IsFirstAudioStopped kept streams stop → StoppedFrom kept streams stop
stopped_from kept streams stop is =
    subst (λ (xs : List AudioStream). StoppedFrom kept xs stop) (sym is.split) (stopped_behind kept is.before is.audio is.more stop is.sound is.refused)

from_one : (kept : KeptUnits) (streams : List AudioStream) (a b : AuditStop) → a ≢ stops.OutOfMemory → b ≢ stops.OutOfMemory → StoppedFrom kept streams a → StoppedFrom kept streams b
    → a ≡ b
from_one kept [] a b some known is other = absurd is
from_one kept (x ∷ xs) a b some known (inl here) (inl there) = audio_stop_one kept x a b some known here there
from_one kept (x ∷ xs) a b some known (inl here) (inr later) = absurd (audio_or_stop kept x a some later.0 here)
from_one kept (x ∷ xs) a b some known (inr later) (inl there) = absurd (audio_or_stop kept x b known later.0 there)
from_one kept (x ∷ xs) a b some known (inr later) (inr other) = from_one kept xs a b some known later.1 other.1

sound_or_from : (kept : KeptUnits) (streams : List AudioStream) (stop : AuditStop) → stop ≢ stops.OutOfMemory → All (IsAudioSound kept) streams → StoppedFrom kept streams stop → ⊥
sound_or_from kept [] stop some sound is = is
sound_or_from kept (x ∷ xs) stop some sound (inl here) = audio_or_stop kept x stop some (All-head (IsAudioSound kept) x xs sound) here
sound_or_from kept (x ∷ xs) stop some sound (inr later) = sound_or_from kept xs stop some (All-tail (IsAudioSound kept) x xs sound) later.1

-- ---- what the decoder gets

video_stream_one : (file : List ℕ) (start : ℕ) (kept : KeptUnits) (pid : ℕ) (packets : List PesUnit) (a b : AuditedStream) → IsVideoStream file start kept pid packets a
    → IsVideoStream file start kept pid packets b → a ≡ b
video_stream_one file start kept pid packets a b is also =
    let both : Some is.from ≡ Some also.from = sym is.sequence ∙ also.sequence in
    let same : is.from ≡ also.from = cc in
    let made : AuditedStream = record {
      pid = pid;
      kind = _;
      arrivals = arrivals_by (places_on file pid) (record { from = also.from; to = also.from + bytes_of_units kept }) (taken true packets);
      removals = unit_removals start kept;
    } in
    let one : a ≡ made = subst (λ (n : ℕ). a ≡ record {
      pid = pid;
      kind = _;
      arrivals = arrivals_by (places_on file pid) (record { from = n; to = n + bytes_of_units kept }) (taken true packets);
      removals = unit_removals start kept;
    }) same is.stream_is in
    one ∙ sym also.stream_is

audio_stream_one : (file : List ℕ) (start : ℕ) (kept : KeptUnits) (audio : AudioStream) (a b : AuditedStream) → IsAudioStream file start kept audio a
    → IsAudioStream file start kept audio b → a ≡ b
audio_stream_one file start kept audio a b is also =
    let same : is.frames ≡ also.frames = stream_frames_one (pos (first_time kept)) audio is.frames also.frames is.framed also.framed in
    is.stream_is ∙ ap (λ (frames : List Frame). record {
      pid = audio.pid;
      kind = _;
      arrivals = arrivals_by (places_on file audio.pid) (record { from = 0; to = length (joined (taken false audio.units)) }) (taken false audio.units);
      removals = frame_removals start kept (taken false audio.units) frames;
    }) same ∙ sym also.stream_is

audio_streams_one : (file : List ℕ) (start : ℕ) (kept : KeptUnits) (audios : List AudioStream) (ones others : List AuditedStream) → AreAudioStreams file start kept audios ones
    → AreAudioStreams file start kept audios others → ones ≡ others
audio_streams_one file start kept [] [] [] are also = refl
audio_streams_one file start kept [] [] (b ∷ others) are also = absurd also
audio_streams_one file start kept [] (a ∷ ones) others are also = absurd are
audio_streams_one file start kept (x ∷ xs) [] others are also = absurd are
audio_streams_one file start kept (x ∷ xs) (a ∷ ones) [] are also = absurd also
audio_streams_one file start kept (x ∷ xs) (a ∷ ones) (b ∷ others) are also =
    ap₂ (λ (s : AuditedStream) (ss : List AuditedStream). s ∷ ss) (audio_stream_one file start kept x a b are.0 also.0) (audio_streams_one file start kept xs ones others are.1 also.1)

streams_one : (file : List ℕ) (map_pid start : ℕ) (kept : KeptUnits) (demuxed : Demuxed) (ones others : List AuditedStream) → AreStreamsOf file map_pid start kept demuxed ones
    → AreStreamsOf file map_pid start kept demuxed others → ones ≡ others
streams_one file map_pid start kept demuxed ones others are also =
    let items : are.video ∷ are.others ≡ also.video ∷ also.others = sym are.video_is ∙ also.video_is in
    let video : are.video ≡ also.video = cc in
    let first : are.video_stream ≡ also.video_stream =
    video_stream_one file start kept also.video.pid demuxed.video are.video_stream also.video_stream
    (subst (λ (s : Stream). IsVideoStream file start kept s.pid demuxed.video are.video_stream) video are.is_video) also.is_video in
    let audios : are.audio_streams ≡ also.audio_streams = audio_streams_one file start kept demuxed.audios are.audio_streams also.audio_streams are.are_audio also.are_audio in
    are.streams_are ∙ ap₂ (λ (s : AuditedStream) (ss : List AuditedStream). s ∷ ss ++ system_stream file map_pid ∷ []) first audios ∙ sym also.streams_are

-- ---- the audit

pub audit_one : (file : List ℕ) (program slot : ℕ) (kept : KeptUnits) (one other : Option Finding) → IsAudited file program slot kept one → IsAudited file program slot kept other → one ≡ other
audit_one file program slot kept one other a b =
    let same = read_one file program slot a.demuxed b.demuxed a.map_pid b.map_pid a.clock b.clock a.read b.read in
    let of_demuxed = subst (λ (d : Demuxed). AreStreamsOf file a.map_pid a.clock.zero kept d a.streams) same.demuxed_is a.streams_are in
    let of_pid = subst (λ (p : ℕ). AreStreamsOf file p a.clock.zero kept b.demuxed a.streams) same.pid_is of_demuxed in
    let of_clock = subst (λ (c : FoundClock). AreStreamsOf file b.map_pid c.zero kept b.demuxed a.streams) same.clock_is of_pid in
    let streams : a.streams ≡ b.streams = streams_one file b.map_pid b.clock.zero kept b.demuxed a.streams b.streams of_clock b.streams_are in
    let first = subst (λ (d : Demuxed). FindsBy slot d.map.pcr_pid a.clock.off a.streams one) same.demuxed_is a.first in
    let second = subst (λ (c : FoundClock). FindsBy slot b.demuxed.map.pcr_pid c.off a.streams one) same.clock_is first in
    let third = subst (λ (s : List AuditedStream). FindsBy slot b.demuxed.map.pcr_pid b.clock.off s one) streams second in
    one_finding slot b.demuxed.map.pcr_pid b.clock.off b.streams one other third b.first

audited_or_stopped : (file : List ℕ) (program slot : ℕ) (kept : KeptUnits) (found : Option Finding) (stop : AuditStop) → stop ≢ stops.OutOfMemory
    → IsAudited file program slot kept found → IsAuditStopped file program slot kept stop → ⊥
audited_or_stopped file program slot kept found stop some is (IsAuditStopped.bad_program stopped) = read_or_stop file program slot is.demuxed is.map_pid is.clock stop some is.read stopped
audited_or_stopped file program slot kept found stop some is (IsAuditStopped.bad_video demuxed pid clock read stopped) =
    let same = read_one file program slot demuxed is.demuxed pid is.map_pid clock is.clock read is.read in
    video_or_stop is.demuxed.video stop is.streams_are.video_sound (subst (λ (d : Demuxed). IsVideoStopped d.video stop) same.demuxed_is stopped)
audited_or_stopped file program slot kept found stop some is (IsAuditStopped.bad_audio demuxed pid clock read video stopped) =
    let same = read_one file program slot demuxed is.demuxed pid is.map_pid clock is.clock read is.read in
    sound_or_from kept is.demuxed.audios stop some is.streams_are.audios_sound
    (stopped_from kept is.demuxed.audios stop (subst (λ (d : Demuxed). IsFirstAudioStopped kept d.audios stop) same.demuxed_is stopped))
audited_or_stopped file program slot kept found stop some is (IsAuditStopped.memory wanted) = some wanted

-- it isn't both
pub audit_never_both : (file : List ℕ) (program slot : ℕ) (kept : KeptUnits) (found : Option Finding) (stop : AuditStop) → IsAudited file program slot kept found
    → IsAuditStopped file program slot kept stop → stop ≢ stops.OutOfMemory → ⊥
audit_never_both file program slot kept found stop is stopped some = audited_or_stopped file program slot kept found stop some is stopped

pub audit_stop_one : (file : List ℕ) (program slot : ℕ) (kept : KeptUnits) (a b : AuditStop) → a ≢ stops.OutOfMemory → b ≢ stops.OutOfMemory
    → IsAuditStopped file program slot kept a → IsAuditStopped file program slot kept b → a ≡ b
audit_stop_one file program slot kept a b some known (IsAuditStopped.memory wanted) other = absurd (some wanted)
audit_stop_one file program slot kept a b some known (IsAuditStopped.bad_program stopped) (IsAuditStopped.memory wanted) = absurd (known wanted)
audit_stop_one file program slot kept a b some known (IsAuditStopped.bad_video demuxed pid clock read stopped) (IsAuditStopped.memory wanted) = absurd (known wanted)
audit_stop_one file program slot kept a b some known (IsAuditStopped.bad_audio demuxed pid clock read video stopped) (IsAuditStopped.memory wanted) = absurd (known wanted)
audit_stop_one file program slot kept a b some known (IsAuditStopped.bad_program stopped) (IsAuditStopped.bad_program other) = program_stop_one file program slot a b some known stopped other
audit_stop_one file program slot kept a b some known (IsAuditStopped.bad_program stopped) (IsAuditStopped.bad_video demuxed pid clock read other) =
    absurd (read_or_stop file program slot demuxed pid clock a some read stopped)
audit_stop_one file program slot kept a b some known (IsAuditStopped.bad_program stopped) (IsAuditStopped.bad_audio demuxed pid clock read video other) =
    absurd (read_or_stop file program slot demuxed pid clock a some read stopped)
audit_stop_one file program slot kept a b some known (IsAuditStopped.bad_video demuxed pid clock read stopped) (IsAuditStopped.bad_program other) =
    absurd (read_or_stop file program slot demuxed pid clock b known read other)
audit_stop_one file program slot kept a b some known (IsAuditStopped.bad_audio demuxed pid clock read video stopped) (IsAuditStopped.bad_program other) =
    absurd (read_or_stop file program slot demuxed pid clock b known read other)
audit_stop_one file program slot kept a b some known (IsAuditStopped.bad_video demuxed pid clock read stopped) (IsAuditStopped.bad_video other map_pid found also here) =
    let same = read_one file program slot demuxed other pid map_pid clock found read also in
    video_stop_one other.video a b (subst (λ (d : Demuxed). IsVideoStopped d.video a) same.demuxed_is stopped) here
audit_stop_one file program slot kept a b some known (IsAuditStopped.bad_video demuxed pid clock read stopped) (IsAuditStopped.bad_audio other map_pid found also video here) =
    let same = read_one file program slot demuxed other pid map_pid clock found read also in
    absurd (video_or_stop other.video a video (subst (λ (d : Demuxed). IsVideoStopped d.video a) same.demuxed_is stopped))
audit_stop_one file program slot kept a b some known (IsAuditStopped.bad_audio demuxed pid clock read video stopped) (IsAuditStopped.bad_video other map_pid found also here) =
    let same = read_one file program slot demuxed other pid map_pid clock found read also in
    absurd (video_or_stop other.video b (subst (λ (d : Demuxed). IsVideoSound d.video) same.demuxed_is video) here)
audit_stop_one file program slot kept a b some known (IsAuditStopped.bad_audio demuxed pid clock read video stopped) (IsAuditStopped.bad_audio other map_pid found also sound here) =
    let same = read_one file program slot demuxed other pid map_pid clock found read also in
    from_one kept other.audios a b some known (stopped_from kept other.audios a (subst (λ (d : Demuxed). IsFirstAudioStopped kept d.audios a) same.demuxed_is stopped))
    (stopped_from kept other.audios b here)
