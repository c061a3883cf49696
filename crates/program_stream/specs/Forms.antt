-- The PES packets of a video and an audio stream in a file of either form (ISO/IEC 13818-1, 2.4.3.3 and 2.5.3).
use Rattle.std.specs.Prelude.{◌≡◌, ◌≢◌, ℕ, ◌≤◌, ◌⊎◌, true, List, [], ◌∷◌, map}
use Rattle.std.specs.List.{flat_map, AllByRecursion}
use Rattle.bit_lists.specs.Payload.{CarriedPayload}
use Rattle.ts_packets.specs.TransportStream.{piece_count, pid_pieces}
use Rattle.ts_packets.specs.Carried.{carried}
use Rattle.psi_tables.specs.declared.pmt.TheConstants.{PACKET_SECTION_BYTES}
use Rattle.psi_tables.specs.declared.program_map.ProgramMap.{ProgramMap}
use Rattle.psi_tables.specs.declared.stream.Stream.{Stream}
use Rattle.psi_tables.specs.Pmt.{pids_of, pmt_length}
use Rattle.pes_units.specs.PesHeader.{is_stream_id}
use Rattle.pes_units.specs.PesPackets.{Gathered, AreCuts}
use Rattle.ts_demux.specs.declared.demuxed.AudioStream.{AudioStream}
use Rattle.ts_demux.specs.declared.demuxed.Demuxed.{Demuxed}
use Rattle.ts_demux.specs.declared.demuxed.PesUnit.{PesUnit}
use Rattle.ts_demux.specs.Demux.{HasCarriedMap, AreStreamsSound}
use Rattle.program_stream.specs.Elements.{Element, is_video_or_audio}
use Rattle.program_stream.specs.Streams.{packets_of, is_carried_audio}
use Rattle.program_stream.specs.Split.{HasElements}

-- the bytes of PES packets
abbrev pub packet_bytes : List PesUnit → List (List ℕ)
packet_bytes units = map (λ unit. unit.bytes) units

-- what is taken out has these packets of its video, one audio stream, and these packets of it
pub record CarriesBytes (demuxed : Demuxed) (video audio : List (List ℕ)) : Type 0 where
  pub video_are : packet_bytes demuxed.video ≡ video
  pub stream : AudioStream
  pub one_audio : demuxed.audios ≡ stream ∷ []
  pub audio_are : packet_bytes stream.units ≡ audio

-- The file is a program stream whose elements are sound. Those with an id of video are these packets, one an element, and all have one
-- id; those with an id of audio are these, with one id that isn't to be dropped. Neither are none. What else stands between them is free.
pub record IsInProgramStream (file drop : List ℕ) (video audio : List (List ℕ)) : Type 0 where
  pub elements : List Element
  pub cut : ℕ
  pub elements_are : HasElements file elements cut
  pub video_id : ℕ
  pub audio_id : ℕ
  pub video_kind : is_stream_id true video_id ≡ true
  pub audio_kind : is_carried_audio drop audio_id ≡ true
  pub no_others : AllByRecursion (λ element. is_video_or_audio element.id ≡ true → (element.id ≡ video_id) ⊎ (element.id ≡ audio_id)) elements
  pub video_are : packet_bytes (packets_of elements video_id) ≡ video
  pub audio_are : packet_bytes (packets_of elements audio_id) ≡ audio
  pub some_video : video ≢ []
  pub some_audio : audio ≢ []

-- the PID carries these packets, each cut into payloads in some way
pub record IsCarriedOn (file : List ℕ) (pid : ℕ) (packets : List (List ℕ)) : Type 0 where
  pub gathered : List Gathered
  pub bytes_are : map (λ packet. packet.bytes) gathered ≡ packets
  pub cuts : List (List CarriedPayload)
  pub are_cuts : AreCuts gathered cuts
  pub carried_are : carried (pid_pieces file pid 0 (piece_count file)) ≡ flat_map (λ pieces. pieces) cuts

-- The file is a transport stream whose tables name the program, whose map carries a video stream and one audio stream. Their PIDs carry
-- these packets, and no packet of them has a fault.
pub record IsInTransportStream (file : List ℕ) (program : ℕ) (drop : List ℕ) (video audio : List (List ℕ)) : Type 0 where
  pub carried_map : ProgramMap
  pub others : List ℕ
  pub tables : HasCarriedMap file program drop carried_map others
  pub video_stream : Stream
  pub audio_stream : Stream
  pub streams : carried_map.streams.items ≡ video_stream ∷ audio_stream ∷ []
  pub short : pmt_length carried_map ≤ PACKET_SECTION_BYTES
  pub sound : AreStreamsSound file (pids_of carried_map)
  pub video_carried : IsCarriedOn file video_stream.pid video
  pub audio_carried : IsCarriedOn file audio_stream.pid audio
