-- The streams of a program in a file, as the decoder's buffers get them (ISO/IEC 13818-1, 2.4.2.3; the order of the streams is this project's).
use Rattle.std.specs.Prelude.{◌≡◌, ℕ, ◌+◌, ◌||◌, true, false, List, [], ◌∷◌, map, filter, length, Some, pos}
use Rattle.std.specs.List.{range_with_len}
use Rattle.ts_packets.specs.Packet.{packet_identifier}
use Rattle.ts_packets.specs.TransportStream.{is_of_pid, piece_at, piece_count}
use Rattle.audio_frames.specs.declared.frame.Frame.{Frame}
use Rattle.es_units.specs.Units.{first_sequence}
use Rattle.tstd_model.specs.declared.decoder_input.Arrival.{Arrival}
use Rattle.tstd_model.specs.declared.decoder_input.BufferKind.TheVariants.{Video, Audio, System}
use Rattle.ts_demux.specs.declared.demuxed.AudioStream.{AudioStream}
use Rattle.ts_demux.specs.declared.demuxed.PesUnit.{PesUnit}
use Rattle.ts_demux.specs.declared.pid_places.Place.{Place}
use Rattle.ts_demux.specs.PidPlaces.{place_at, places_on}
use Rattle.ts_demux.specs.Tables.{pat_pid}
use Rattle.stream_audit.specs.declared.audited_stream.AuditedStream.{AuditedStream}
use Rattle.stream_audit.specs.declared.kept_units.KeptUnits.{KeptUnits}
use Rattle.stream_audit.specs.PesBytes.{KeptSpan, brought_by_all, parts_carried}
use Rattle.elementary_streams.specs.Packets.{joined, taken}
use Rattle.elementary_streams.specs.Audio.{HasFrames}
use Rattle.stream_audit.specs.Removals.{first_time, frame_removals, bytes_of_units, unit_removals}

-- packets that carry these PES packets, and of the elementary stream in them those bytes that are kept
abbrev pub arrivals_by : List Place → KeptSpan → List PesUnit → List Arrival
arrivals_by places span packets = brought_by_all places (parts_carried span places packets)

-- The video, whose packets on its PID are these: its PES packets that are taken, of which the units are kept from the first sequence header on.
pub record IsVideoOf (places : List Place) (zero : ℕ) (kept : KeptUnits) (pid : ℕ) (packets : List PesUnit) (stream : AuditedStream) : Type 0 where
  pub from : ℕ
  pub sequence : first_sequence (joined (taken true packets)) ≡ Some from
  pub stream_is : stream ≡ record {
    pid = pid;
    kind = Video kept.vbv;
    arrivals = arrivals_by places (record { from = from; to = from + bytes_of_units kept }) (taken true packets);
    removals = unit_removals zero kept;
  }

-- that of a file
abbrev pub IsVideoStream : List ℕ → (clock_zero : ℕ) → KeptUnits → (pid : ℕ) → List PesUnit → AuditedStream → Type 0
IsVideoStream file clock_zero kept pid packets stream = IsVideoOf (places_on file pid) clock_zero kept pid packets stream

-- An audio stream whose packets on its PID are these: its PES packets that are taken, with the whole elementary stream in them, and its frames.
pub record IsAudioOf (places : List Place) (zero : ℕ) (kept : KeptUnits) (audio : AudioStream) (stream : AuditedStream) : Type 0 where
  pub frames : List Frame
  pub framed : HasFrames (pos (first_time kept)) audio frames
  pub stream_is : stream ≡ record {
    pid = audio.pid;
    kind = Audio;
    arrivals = arrivals_by places (record { from = 0; to = length (joined (taken false audio.units)) }) (taken false audio.units);
    removals = frame_removals zero kept (taken false audio.units) frames;
  }

-- that of a file
abbrev pub IsAudioStream : List ℕ → (clock_zero : ℕ) → KeptUnits → AudioStream → AuditedStream → Type 0
IsAudioStream file clock_zero kept audio stream = IsAudioOf (places_on file audio.pid) clock_zero kept audio stream

-- audio streams, one for each
abbrev pub AreAudioStreams : List ℕ → (clock_zero : ℕ) → KeptUnits → List AudioStream → List AuditedStream → Type 0
AreAudioStreams file clock_zero kept [] [] = Unit {0}
AreAudioStreams file clock_zero kept (audio ∷ audios) (stream ∷ streams) = IsAudioStream file clock_zero kept audio stream × AreAudioStreams file clock_zero kept audios streams
AreAudioStreams file clock_zero kept audios streams = ⊥

-- the packet of a number, on whichever PID it is
abbrev pub place_of : List ℕ → ℕ → Place
place_of file n = place_at file (packet_identifier (piece_at file n)) n

-- the packets of PID 0 and of the PID of the program's map before the n-th packet of the file, each once, in order
abbrev pub system_before : List ℕ → (map_pid : ℕ) → ℕ → List Place
system_before file map_pid n = map (place_of file) (filter (λ k. is_of_pid file pat_pid k || is_of_pid file map_pid k) (range_with_len 0 n))

-- all of them
abbrev pub system_places : List ℕ → (map_pid : ℕ) → List Place
system_places file map_pid = system_before file map_pid (piece_count file)

-- sections have no PES headers, and all of them goes on from TB
abbrev pub section_arrival : Place → Arrival
section_arrival place = record { slot_no = place.packet; header = 0; payload = place.payload }

-- the sections of PID 0 and of the PID of the program's map, together
abbrev pub system_stream : List ℕ → (map_pid : ℕ) → AuditedStream
system_stream file map_pid = record { pid = pat_pid; kind = System; arrivals = map section_arrival (system_places file map_pid); removals = [] }
