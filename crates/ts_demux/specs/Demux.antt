-- A program taken out of a transport stream: what is answered, or the first refusal.
use Rattle.std.specs.Prelude.{◌≡◌, ℕ, ◌+◌, ◌*◌, ◌<◌, ◌≤◌, ◌⊎◌, true, List, [], ◌∷◌, length, map, Some, None}
use Rattle.stream_constants.specs.declared.limits.TheConstants.{AUDIOS_MOST}
use Rattle.stream_constants.specs.declared.packets.TheConstants.{PACKET_BYTES}
use Rattle.ts_packets.specs.declared.pid_fault.PidFault.{PidFault}
use Rattle.ts_packets.specs.TransportStream.{Piece, piece_count, pid_pieces, rest_of}
use Rattle.ts_packets.specs.Carried.{carried}
use Rattle.psi_tables.specs.declared.pmt.TheConstants.{PACKET_SECTION_BYTES}
use Rattle.psi_tables.specs.declared.program_map.ProgramMap.{ProgramMap}
use Rattle.psi_tables.specs.declared.stream.Stream.{Stream}
use Rattle.psi_tables.specs.Pmt.{pids_of, pmt_length}
use Rattle.pes_units.specs.PesPackets.{gathered}
use Rattle.ts_demux.specs.declared.demux_fault.DemuxFault.{DemuxFault}
use Rattle.ts_demux.specs.declared.demux_fault.DemuxFault.TheVariants.{ShortFile, Sync, NoVideo, ProgramLimit, PmtTooLong, OutOfMemory}
use Rattle.ts_demux.specs.declared.demuxed.AudioStream.{AudioStream}
use Rattle.ts_demux.specs.declared.demuxed.Demuxed.{Demuxed}
use Rattle.ts_demux.specs.declared.demuxed.PesUnit.{PesUnit}
use Rattle.ts_demux.specs.Faults.{of_pid}
use Rattle.ts_demux.specs.Streams.{video_of, without_video, audios_of, others_of, is_among}
use Rattle.ts_demux.specs.Tables.{HasNoSync, HasPidFault, HasMap, IsTablesFault}

-- ---- the streams of a map

-- the most audio streams of a program
abbrev pub most_audios : ℕ
most_audios = AUDIOS_MOST

-- A map with the streams of another one that are carried alone, and the PIDs of its other streams.
pub record IsCarriedMap (drop : List ℕ) (whole carried_map : ProgramMap) (others : List ℕ) : Type 0 where
  pub number : carried_map.number ≡ whole.number
  pub pcr : carried_map.pcr_pid ≡ whole.pcr_pid
  pub dropped_same : carried_map.dropped ≡ whole.dropped
  pub video : Stream
  pub video_is : video_of whole.streams.items ≡ Some video
  pub streams : carried_map.streams.items ≡ video ∷ audios_of drop (video.pid ∷ []) (without_video whole.streams.items)
  pub others_are : others ≡ others_of drop (video.pid ∷ []) (without_video whole.streams.items)

-- the tables of the program are read, and the map of its carried streams is this one
pub record HasCarriedMap (file : List ℕ) (program : ℕ) (drop : List ℕ) (carried_map : ProgramMap) (others : List ℕ) : Type 0 where
  pub long : PACKET_BYTES ≤ length file
  pub whole : ProgramMap
  pub tables : HasMap file program whole
  pub carried_is : IsCarriedMap drop whole carried_map others

-- more than the video and the most audio streams are carried
abbrev pub HasManyStreams : ProgramMap → Type 0
HasManyStreams carried_map = 1 + most_audios < length carried_map.streams.items

-- ---- their packets

-- what refuses the n-th packet: no sync byte, or a fault on one of the PIDs
abbrev pub IsStreamFault : List ℕ → List ℕ → ℕ → DemuxFault → Type 0
IsStreamFault file pids n fault =
    (HasNoSync file n × (fault ≡ Sync (PACKET_BYTES * n)))
    ⊎ ((pid : ℕ) × (found : PidFault) × (is_among pids pid ≡ true) × HasPidFault file pid 0 n found × (fault ≡ of_pid (PACKET_BYTES * n) found))

-- the first packet that is refused
pub record IsFirstStreamFault (file pids : List ℕ) (fault : DemuxFault) : Type 0 where
  pub packet : ℕ
  pub stands : IsStreamFault file pids packet fault
  pub first : (n : ℕ) (other : DemuxFault) → n < packet → IsStreamFault file pids n other → ⊥

-- no packet is refused
abbrev pub AreStreamsSound : List ℕ → List ℕ → Type 0
AreStreamsSound file pids = (n : ℕ) (fault : DemuxFault) → IsStreamFault file pids n fault → ⊥

-- the PES packets that pieces carry
abbrev pub units_in : List Piece → List PesUnit
units_in pieces = map (λ packet. record { at = packet.at; bytes = packet.bytes }) (gathered (carried pieces))

-- the PES packets of a stream
abbrev pub pes_packets_on : List ℕ → Stream → AudioStream
pes_packets_on file stream = record { pid = stream.pid; units = units_in (pid_pieces file stream.pid 0 (piece_count file)) }

-- ---- what is answered

-- everything that is taken out of the file
pub record IsDemuxed (file : List ℕ) (program : ℕ) (drop : List ℕ) (demuxed : Demuxed) : Type 0 where
  pub tables : HasCarriedMap file program drop demuxed.map demuxed.not_carried
  pub few : length demuxed.map.streams.items ≤ 1 + most_audios
  pub short : pmt_length demuxed.map ≤ PACKET_SECTION_BYTES
  pub sound : AreStreamsSound file (pids_of demuxed.map)
  pub video : Stream
  pub audios : List Stream
  pub streams : demuxed.map.streams.items ≡ video ∷ audios
  pub video_packets : demuxed.video ≡ (pes_packets_on file video).units
  pub audio_packets : demuxed.audios ≡ map (pes_packets_on file) audios
  pub rest_is : demuxed.rest ≡ length (rest_of file)

-- The first refusal: a short file, then the tables', then those of the map, then the streams'.
pub data IsDemuxRefused (file : List ℕ) (program : ℕ) (drop : List ℕ) (fault : DemuxFault) : Type 0 where
  short_file : length file < PACKET_BYTES → fault ≡ ShortFile 0 → IsDemuxRefused file program drop fault
  tables : PACKET_BYTES ≤ length file → IsTablesFault file program fault → IsDemuxRefused file program drop fault
  no_video : (whole : ProgramMap) → PACKET_BYTES ≤ length file → HasMap file program whole → video_of whole.streams.items ≡ None → fault ≡ NoVideo 0 → IsDemuxRefused file program drop fault
  audios : (carried_map : ProgramMap) (others : List ℕ) → HasCarriedMap file program drop carried_map others → HasManyStreams carried_map → fault ≡ ProgramLimit 0 → IsDemuxRefused file program drop fault
  long_map : (carried_map : ProgramMap) (others : List ℕ) → HasCarriedMap file program drop carried_map others
      → length carried_map.streams.items ≤ 1 + most_audios → PACKET_SECTION_BYTES < pmt_length carried_map → fault ≡ PmtTooLong 0
      → IsDemuxRefused file program drop fault
  streams : (carried_map : ProgramMap) (others : List ℕ) → HasCarriedMap file program drop carried_map others
      → length carried_map.streams.items ≤ 1 + most_audios → pmt_length carried_map ≤ PACKET_SECTION_BYTES
      → IsFirstStreamFault file (pids_of carried_map) fault → IsDemuxRefused file program drop fault
  memory : fault ≡ OutOfMemory → IsDemuxRefused file program drop fault
