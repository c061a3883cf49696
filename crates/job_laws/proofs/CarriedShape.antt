-- The map of a program that was read has one video stream and audio streams behind it, and so has the map that goes out.
use Rattle.std.proofs.Common.{◌≡◌, ℕ, ◌+◌, ◌==◌, Bool, true, false, cond, List, [], ◌∷◌, ◌++◌, All, map, get_or, Some, refl, sym, ap, subst, not, ◌&&◌, ◌||◌}
use Rattle.std.specs.List.{find}
use Rattle.std.proofs.lemmas.Bool.{and_parts}
use Rattle.std.proofs.lemmas.List.Elements.{All-cons, All-head, All-map, All-nil, All-tail}
use Rattle.std.proofs.lemmas.Option.{none-some, same_Some}
use Rattle.audio_frames.specs.Frames.{has_low_rate}
use Rattle.psi_tables.specs.declared.program_map.ProgramMap.{ProgramMap}
use Rattle.psi_tables.specs.declared.stream.Stream.{Stream}
use Rattle.ts_demux.specs.declared.demuxed.AudioStream.{AudioStream}
use Rattle.ts_demux.specs.declared.demuxed.Demuxed.{Demuxed}
use Rattle.ts_demux.specs.Demux.{HasCarriedMap}
use Rattle.ts_demux.specs.Streams.{audios_of, is_among, is_audio, is_carried, is_video, video_of, without_video}
use Rattle.program_stream.specs.Streams.{map_stream}
use Rattle.job_report.specs.declared.job.Form.{Form}
use Rattle.program_reader.specs.AudioTypes.{typed}
use Rattle.elementary_streams.specs.Packets.{joined}
use Rattle.elementary_streams.specs.Audio.{taken_of}
use Rattle.program_reader.specs.Programs.{IsTakenOut, StandIn, in_packets, in_elements}
use Rattle.program_reader.proofs.AudioMaps.{by_type}
use Rattle.program_reader.proofs.TakenOut.{typed-streams}
use Rattle.mux_writer.specs.Layout.{video_pid, with_output_pids, with_pids_from}
use Rattle.parsing_laws.specs.TakenOut.{HasStreams}

abbrev IsAudio : Stream → Type 0
IsAudio stream = is_audio stream ≡ true

-- a map of this kind: its streams are a video and audio streams
pub record HasKinds (program_map : ProgramMap) : Type 0 where
  pub video : Stream
  pub audios : List Stream
  pub has : HasStreams program_map video audios

video-found : (streams : List Stream) (video : Stream) → video_of streams ≡ Some video → is_video video ≡ true
video-found [] video found = absurd (none-some video found)
video-found (s ∷ ss) video found = by_test (is_video s) refl found (video-found ss video)
  where
    by_test : (test : Bool) → is_video s ≡ test → cond test (Some s) (find is_video ss) ≡ Some video → (find is_video ss ≡ Some video → is_video video ≡ true) → is_video video ≡ true
    by_test true is same later = subst (λ (one : Stream). is_video one ≡ true) (same_Some s video same) is
    by_test false is same later = later same

audios-audio : (dropped earlier : List ℕ) (streams : List Stream) → All IsAudio (audios_of dropped earlier streams)
audios-audio dropped earlier [] = All-nil IsAudio
audios-audio dropped earlier (s ∷ ss) = by_test (is_carried dropped earlier s) refl (audios-audio dropped (earlier ++ s.pid ∷ []) ss) (audios-audio dropped earlier ss)
  where
    by_test : (test : Bool) → is_carried dropped earlier s ≡ test → All IsAudio (audios_of dropped (earlier ++ s.pid ∷ []) ss) → All IsAudio (audios_of dropped earlier ss)
        → All IsAudio (cond test (s ∷ audios_of dropped (earlier ++ s.pid ∷ []) ss) (audios_of dropped earlier ss))
    by_test true is more less =
        let parts = and_parts (is_audio s && not (is_among dropped s.pid)) (not (is_among earlier s.pid)) is in
        All-cons IsAudio s (audios_of dropped (earlier ++ s.pid ∷ []) ss) (and_parts (is_audio s) (not (is_among dropped s.pid)) parts.0).0 more
    by_test false is more less = less

carried-kinds-are : (file : List ℕ) (number : ℕ) (dropped : List ℕ) (carried : ProgramMap) (others : List ℕ) → HasCarriedMap file number dropped carried others → HasKinds carried
carried-kinds-are file number dropped carried others has =
    let is = has.carried_is in record {
      video = is.video;
      audios = audios_of dropped (is.video.pid ∷ []) (without_video has.whole.streams.items);
      has = record {
        streams = is.streams;
        is_video = video-found has.whole.streams.items is.video is.video_is;
        are_audio = audios-audio dropped (is.video.pid ∷ []) (without_video has.whole.streams.items);
      };
    }

typed-audio : (audio : AudioStream) → IsAudio (by_type audio)
typed-audio audio = by_test (has_low_rate (joined (taken_of audio)))
  where
    by_test : (low : Bool) → (cond low 4 3 == 3 || cond low 4 3 == 4) ≡ true
    by_test true = refl
    by_test false = refl

by-form : (form : Form) (file : List ℕ) (number : ℕ) (drop : List ℕ) (found : Demuxed) (cut : ℕ) → StandIn form file number drop found cut → HasKinds (typed form found).map
by-form form file number drop found cut (in_packets is_form is none) =
    subst (λ (f : Form). HasKinds (typed f found).map) (sym is_form) (carried-kinds-are file number drop found.map found.not_carried is.tables)
by-form form file number drop found cut (in_elements is_form one is) = subst (λ (f : Form). HasKinds (typed f found).map) (sym is_form) (record {
  video = map_stream 2 is.video;
  audios = map by_type found.audios;
  has = record {
    streams = typed-streams file drop found cut is;
    is_video = refl;
    are_audio = All-map IsAudio by_type found.audios (λ k d within. typed-audio (get_or found.audios k d));
  };
})

-- so it is in a file of either form
pub taken-kinds : (form : Form) (file : List ℕ) (number : ℕ) (drop : List ℕ) (demuxed : Demuxed) → IsTakenOut form file number drop demuxed → HasKinds demuxed.map
taken-kinds form file number drop demuxed is = subst (λ (d : Demuxed). HasKinds d.map) (sym is.typed_is) (by-form form file number drop is.found is.cut is.stand)

audio-kept : (pid : ℕ) (streams : List Stream) → All IsAudio streams → All IsAudio (with_pids_from pid streams)
audio-kept pid [] all = All-nil IsAudio
audio-kept pid (s ∷ ss) all = All-cons IsAudio (record s { pid = pid }) (with_pids_from (pid + 1) ss) (All-head IsAudio s ss all) (audio-kept (pid + 1) ss (All-tail IsAudio s ss all))

-- the map that goes out: its video has the program's video PID
pub record GoesOutAs (program_map : ProgramMap) (pid : ℕ) : Type 0 where
  pub video : Stream
  pub audios : List Stream
  pub has : HasStreams program_map video audios
  pub pid_is : video.pid ≡ pid

pub output-kinds : (program number : ℕ) (program_map : ProgramMap) → HasKinds program_map → GoesOutAs (with_output_pids program number program_map) (video_pid program)
output-kinds program number program_map kinds = record {
  video = record kinds.video { pid = video_pid program };
  audios = with_pids_from (video_pid program + 1) kinds.audios;
  has = record {
    streams = ap (with_pids_from (video_pid program)) kinds.has.streams;
    is_video = kinds.has.is_video;
    are_audio = audio-kept (video_pid program + 1) kinds.audios kinds.has.are_audio;
  };
  pid_is = refl;
}
