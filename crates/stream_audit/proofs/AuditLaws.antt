-- What is read of a program of a file serves the judge, and what refuses one of its parts refuses the program.
use Rattle.std.proofs.Common.{◌≡◌, ◌⊎◌, inl, inr, ℕ, ◌+◌, ◌/◌, ◌<◌, ◌≤◌, ◌==◌, ◌||◌, Bool, true, false, List, [], ◌∷◌, ◌++◌, length, map, drop, get_or, All, refl, sym, ap, ◌∙◌, subst, arith}
use Rattle.std.proofs.lemmas.Bool.Decides.{nat_tests}
use Rattle.std.proofs.lemmas.List.{append-nil, append_assoc, at_drop_all, at_drop_more}
use Rattle.std.proofs.lemmas.List.Elements.{All-append, All-cons, All-head, All-map, All-nil, All-tail}
use Rattle.psi_tables.specs.declared.stream.Stream.{Stream}
use Rattle.ts_packets.specs.TransportStream.{piece_count}
use Rattle.ts_demux.specs.declared.demuxed.AudioStream.{AudioStream}
use Rattle.ts_demux.specs.declared.demuxed.Demuxed.{Demuxed}
use Rattle.ts_demux.specs.declared.demuxed.PesUnit.{PesUnit}
use Rattle.ts_demux.specs.declared.demux_fault.DemuxFault.{DemuxFault}
use Rattle.ts_demux.specs.Demux.{AreStreamsSound, IsDemuxed, pes_packets_on}
use Rattle.ts_demux.specs.PidPlaces.{IsPlacesFault}
use Rattle.ts_demux.specs.Streams.{is_among}
use Rattle.stream_audit.specs.declared.audit_stop.AuditStop.{AuditStop}
use Rattle.stream_audit.specs.declared.audit_stop.AuditStop.TheVariants.{OutOfMemory}
use Rattle.stream_audit.specs.declared.audited_stream.AuditedStream.{AuditedStream}
use Rattle.stream_audit.specs.declared.file_clock.FoundClock.{FoundClock}
use Rattle.stream_audit.specs.declared.kept_units.KeptUnits.{KeptUnits}
use Rattle.stream_audit.specs.Audit.{AreStreamsOf}
use Rattle.stream_audit.specs.Findings.{CanBeJudged}
use Rattle.stream_audit.specs.Refusals.{IsAuditStopped, IsAudioSound, IsAudioStopped, IsFirstAudioStopped, IsProgramRead, IsVideoSound, IsVideoStopped, stop_of_demux}
use Rattle.stream_audit.specs.Streams.{AreAudioStreams, IsAudioStream, IsVideoStream, system_stream}
use Rattle.stream_audit.specs.Private.Audit.{AddsAudios, AreStreamsStopped, AudiosSoFar, CarriesStreams, IsCarriedAudio}
use Rattle.stream_audit.specs.Private.Audit.AreStreamsStopped.{memory, bad_video, bad_audio}
use Rattle.elementary_streams.proofs.CarriedSizes.{units_few}

-- ---- packets of a carried PID

or_more : (one other : Bool) → other ≡ true → (one || other) ≡ true
or_more true other is = refl
or_more false other is = is

or_first : (one other : Bool) → one ≡ true → (one || other) ≡ true
or_first true other is = refl
or_first false other is = absurd cc

same_pid : (pid : ℕ) → (pid == pid) ≡ true
same_pid pid = grind (arith, nat_tests)

alone : (pid other : ℕ) → is_among (pid ∷ []) other ≡ true → pid ≡ other
alone pid other is = by_test (pid == other) refl is
  where
    by_test : (same : Bool) → (pid == other) ≡ same → (same || false) ≡ true → pid ≡ other
    by_test true same is = grind (arith, nat_tests)
    by_test false same is = absurd cc

abbrev pids_in : List Stream → List ℕ
pids_in streams = map (λ stream. stream.pid) streams

-- none of a stream's packets is refused where none of several streams is
sound_on : (file pids : List ℕ) (pid : ℕ) → is_among pids pid ≡ true → AreStreamsSound file pids → AreStreamsSound file (pid ∷ [])
sound_on file pids pid among sound n fault (inl no_sync) = sound n fault (inl no_sync)
sound_on file pids pid among sound n fault (inr of_pid) =
    sound n fault (inr (of_pid.0, of_pid.1, subst (λ (p : ℕ). is_among pids p ≡ true) (alone pid of_pid.0 of_pid.2) among, of_pid.3, of_pid.4))

all_among : (streams : List Stream) → All (λ stream. is_among (pids_in streams) stream.pid ≡ true) streams
all_among [] = All-nil (λ (stream : Stream). is_among [] stream.pid ≡ true)
all_among (x ∷ xs) =
    All-cons (λ (stream : Stream). is_among (pids_in (x ∷ xs)) stream.pid ≡ true) x xs (or_first (x.pid == x.pid) (is_among (pids_in xs) x.pid) (same_pid x.pid))
    (λ k d less. or_more (x.pid == (get_or xs k d).pid) (is_among (pids_in xs) (get_or xs k d).pid) (all_among xs k d less))

-- ---- a file of at most 512 megabytes

carried_audio : (file : List ℕ) (stream : Stream) → length file ≤ 536870912 → AreStreamsSound file (stream.pid ∷ []) → IsCarriedAudio file (pes_packets_on file stream)
carried_audio file stream within sound =
    let count : piece_count file ≡ length file / 188 = refl in
    let few = units_few file stream in
    record {
      sound = sound;
      few = omega (arith, few.0, count, within);
      few_bytes = omega (arith, few.1, count, within);
    }

pub carries_streams : (file : List ℕ) (program : ℕ) (demuxed : Demuxed) → length file ≤ 536870912 → IsDemuxed file program [] demuxed → CarriesStreams file demuxed
carries_streams file program demuxed within is =
    let streams = is.video ∷ is.audios in
    let sound : AreStreamsSound file (pids_in streams) = subst (λ (xs : List Stream). AreStreamsSound file (pids_in xs)) is.streams is.sound in
    let each : All (λ (stream : Stream). AreStreamsSound file (stream.pid ∷ [])) streams =
    λ k d less. sound_on file (pids_in streams) (get_or streams k d).pid (all_among streams k d less) sound in
    let audios : All (λ (stream : Stream). AreStreamsSound file (stream.pid ∷ [])) is.audios =
    All-tail (λ (stream : Stream). AreStreamsSound file (stream.pid ∷ [])) is.video is.audios each in
    record {
      video = is.video;
      others = is.audios;
      video_is = is.streams;
      video_sound = All-head (λ (stream : Stream). AreStreamsSound file (stream.pid ∷ [])) is.video is.audios each;
      audios = subst (All (IsCarriedAudio file)) (sym is.audio_packets)
          (All-map (IsCarriedAudio file) (pes_packets_on file) is.audios (λ k d less. carried_audio file (get_or is.audios k d) within (audios k d less)));
    }

-- no packet of the PID is refused, so that memory was wanted
pub wants_memory : (file : List ℕ) (pid : ℕ) (fault : DemuxFault) → AreStreamsSound file (pid ∷ []) → IsPlacesFault file pid fault → stop_of_demux fault ≡ OutOfMemory
wants_memory file pid fault sound (inl is_memory) = ap stop_of_demux is_memory
wants_memory file pid fault sound (inr first) = absurd (sound first.packet fault first.stands)

-- ---- audio streams, one by one

pub first_of_all : (file : List ℕ) (zero : ℕ) (kept : KeptUnits) (audios : List AudioStream) (old : List AuditedStream) → AudiosSoFar file zero kept audios old audios old
first_of_all file zero kept audios old = record {
  found = [];
  streams_are = sym (append-nil old);
  fits = λ more are. are;
  sound = λ all. all;
  stops = λ stop is. is;
}

pub next_audio : (file : List ℕ) (zero : ℕ) (kept : KeptUnits) (audios : List AudioStream) (old streams : List AuditedStream) (audio : AudioStream) (later : List AudioStream)
    (stream : AuditedStream) → IsAudioStream file zero kept audio stream → IsAudioSound kept audio → AudiosSoFar file zero kept audios old (audio ∷ later) streams →
    AudiosSoFar file zero kept audios old later (streams ++ stream ∷ [])
next_audio file zero kept audios old streams audio later stream is sound was = record {
  found = was.found ++ stream ∷ [];
  streams_are = ap (λ (xs : List AuditedStream). xs ++ stream ∷ []) was.streams_are ∙ append_assoc old was.found (stream ∷ []);
  fits = λ more are. subst (AreAudioStreams file zero kept audios) (sym (append_assoc was.found (stream ∷ []) more)) (was.fits (stream ∷ more) (is, are));
  sound = λ all. was.sound (All-cons (IsAudioSound kept) audio later sound all);
  stops = λ stop first. was.stops stop (record {
    before = audio ∷ first.before;
    audio = first.audio;
    more = first.more;
    split = ap (λ (xs : List AudioStream). audio ∷ xs) first.split;
    sound = All-cons (IsAudioSound kept) audio first.before sound first.sound;
    refused = first.refused;
  });
}

-- the next one is refused
pub stopped_at : (file : List ℕ) (zero : ℕ) (kept : KeptUnits) (audios : List AudioStream) (old streams : List AuditedStream) (audio : AudioStream) (later : List AudioStream)
    (stop : AuditStop) → AudiosSoFar file zero kept audios old (audio ∷ later) streams → (stop ≡ OutOfMemory) ⊎ IsAudioStopped kept audio stop →
    (stop ≡ OutOfMemory) ⊎ IsFirstAudioStopped kept audios stop
stopped_at file zero kept audios old streams audio later stop was (inl is) = inl is
stopped_at file zero kept audios old streams audio later stop was (inr is) = inr (was.stops stop (record {
  before = [];
  audio = audio;
  more = later;
  split = refl;
  sound = All-nil (IsAudioSound kept);
  refused = is;
}))

pub all_added : (file : List ℕ) (zero : ℕ) (kept : KeptUnits) (audios : List AudioStream) (old streams : List AuditedStream) → AudiosSoFar file zero kept audios old [] streams →
    AddsAudios file zero kept audios old streams
all_added file zero kept audios old streams was = record {
  streams = was.found;
  are = subst (AreAudioStreams file zero kept audios) (append-nil was.found) (was.fits [] tt);
  sound = was.sound (All-nil (IsAudioSound kept));
  new_are = was.streams_are;
}

-- the next of some audio streams
left_at : (audios : List AudioStream) (k : ℕ) (d audio : AudioStream) → k < length audios → audio ≡ get_or audios k d → drop k audios ≡ audio ∷ drop (k + 1) audios
left_at audios k d audio within is =
    at_drop_more (λ (xs : List AudioStream). xs) audios k d within ∙ ap (λ (x : AudioStream). x ∷ drop (k + 1) audios) (sym is)

module _ (file : List ℕ) (zero : ℕ) (kept : KeptUnits) (audios : List AudioStream) (old streams : List AuditedStream) (k : ℕ)
    (was : AudiosSoFar file zero kept audios old (drop k audios) streams) where
  pub one_further : (d audio : AudioStream) (stream : AuditedStream) (new : List AuditedStream) → k < length audios → audio ≡ get_or audios k d →
      IsAudioStream file zero kept audio stream → IsAudioSound kept audio → new ≡ streams ++ stream ∷ [] → AudiosSoFar file zero kept audios old (drop (k + 1) audios) new
  one_further d audio stream new within is is_stream sound new_is =
      subst (λ (xs : List AuditedStream). AudiosSoFar file zero kept audios old (drop (k + 1) audios) xs) (sym new_is)
      (next_audio file zero kept audios old streams audio (drop (k + 1) audios) stream is_stream sound
      (subst (λ (left : List AudioStream). AudiosSoFar file zero kept audios old left streams) (left_at audios k d audio within is) was))

  pub refused_here : (d audio : AudioStream) (stop : AuditStop) → k < length audios → audio ≡ get_or audios k d → (stop ≡ OutOfMemory) ⊎ IsAudioStopped kept audio stop →
      (stop ≡ OutOfMemory) ⊎ IsFirstAudioStopped kept audios stop
  refused_here d audio stop within is refused =
      stopped_at file zero kept audios old streams audio (drop (k + 1) audios) stop
      (subst (λ (left : List AudioStream). AudiosSoFar file zero kept audios old left streams) (left_at audios k d audio within is) was) refused

  pub at_end : length audios ≤ k → AddsAudios file zero kept audios old streams
  at_end end =
      all_added file zero kept audios old streams
      (subst (λ (left : List AudioStream). AudiosSoFar file zero kept audios old left streams) (at_drop_all (λ (xs : List AudioStream). xs) audios k end) was)

-- ---- all streams

module _ (video system : AuditedStream) (none one two three : List AuditedStream) (none_is : none ≡ []) (one_is : one ≡ none ++ video ∷ []) (three_is : three ≡ two ++ system ∷ [])
  where
    pub all_judged : CanBeJudged video → CanBeJudged system → (All CanBeJudged one → All CanBeJudged two) → All CanBeJudged three
    all_judged of_video of_system of_audios =
        let first : All CanBeJudged one =
        subst (All CanBeJudged) (sym (one_is ∙ ap (λ (xs : List AuditedStream). xs ++ video ∷ []) none_is)) (All-cons CanBeJudged video [] of_video (All-nil CanBeJudged)) in
        subst (All CanBeJudged) (sym three_is)
        (All-append CanBeJudged two (system ∷ []) (of_audios first) (All-cons CanBeJudged system [] of_system (All-nil CanBeJudged)))

    pub are_streams : (file : List ℕ) (zero map_pid pid : ℕ) (kept : KeptUnits) (demuxed : Demuxed) (carried : CarriesStreams file demuxed) (packets : List PesUnit)
        (audios : List AudioStream) → pid ≡ carried.video.pid → packets ≡ demuxed.video → audios ≡ demuxed.audios → IsVideoSound packets →
        IsVideoStream file zero kept pid packets video → AddsAudios file zero kept audios one two → system ≡ system_stream file map_pid →
        AreStreamsOf file map_pid zero kept demuxed three
    are_streams file zero map_pid pid kept demuxed carried packets audios pid_is packets_are audios_are sound is_video adds system_is = record {
      video = carried.video;
      others = carried.others;
      video_is = carried.video_is;
      video_sound = subst IsVideoSound packets_are sound;
      video_stream = video;
      is_video = subst (λ (p : ℕ). IsVideoStream file zero kept p demuxed.video video) pid_is
          (subst (λ (units : List PesUnit). IsVideoStream file zero kept pid units video) packets_are is_video);
      audios_sound = subst (All (IsAudioSound kept)) audios_are adds.sound;
      audio_streams = adds.streams;
      are_audio = subst (λ (xs : List AudioStream). AreAudioStreams file zero kept xs adds.streams) audios_are adds.are;
      streams_are = three_is
          ∙ ap (λ (xs : List AuditedStream). xs ++ system ∷ [])
          (adds.new_are ∙ ap (λ (xs : List AuditedStream). xs ++ adds.streams) (one_is ∙ ap (λ (xs : List AuditedStream). xs ++ video ∷ []) none_is))
          ∙ ap (λ (s : AuditedStream). (video ∷ adds.streams) ++ s ∷ []) system_is;
    }

-- ---- the whole

pub video_refused : (kept : KeptUnits) (demuxed : Demuxed) (packets : List PesUnit) (stop : AuditStop) → packets ≡ demuxed.video →
    (stop ≡ OutOfMemory) ⊎ IsVideoStopped packets stop → AreStreamsStopped kept demuxed stop
video_refused kept demuxed packets stop same (inl is) = memory is
video_refused kept demuxed packets stop same (inr is) = bad_video (subst (λ (units : List PesUnit). IsVideoStopped units stop) same is)

pub streams_stopped : (file : List ℕ) (program slot : ℕ) (kept : KeptUnits) (demuxed : Demuxed) (map_pid : ℕ) (clock : FoundClock) (stop : AuditStop) →
    IsProgramRead file program slot demuxed map_pid clock → AreStreamsStopped kept demuxed stop → IsAuditStopped file program slot kept stop
streams_stopped file program slot kept demuxed map_pid clock stop read (memory is) = IsAuditStopped.memory is
streams_stopped file program slot kept demuxed map_pid clock stop read (bad_video is) = IsAuditStopped.bad_video demuxed map_pid clock read is
streams_stopped file program slot kept demuxed map_pid clock stop read (bad_audio sound is) = IsAuditStopped.bad_audio demuxed map_pid clock read sound is
