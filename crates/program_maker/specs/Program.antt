-- The generated program: its packets in order, as bytes.
use Rattle.std.specs.Prelude.{◌≡◌, ℕ, ◌+◌, ◌&&◌, nat_lt, nat_le, Bool, List, [], ◌∷◌, ◌++◌, length, slice_index_or}
use Rattle.std.specs.List.{filter, flat_map, range_with_len}
use Rattle.psi_tables.specs.declared.stream.Stream.{Stream}
use Rattle.psi_tables.specs.declared.program_map.ProgramMap.{ProgramMap}
use Rattle.psi_tables.specs.Section.{IsWithCrc}
use Rattle.psi_tables.specs.Pat.{written_pat}
use Rattle.psi_tables.specs.Pmt.{written_pmt}
use Rattle.ts_packets.specs.Packet.{PacketRecord, written}
use Rattle.program_maker.specs.declared.format.TheConstants.{STREAM_ID, PROGRAM, PAT_PID, PMT_PID, VIDEO_PID, AUDIO_PID, VIDEO_TYPE, AUDIO_TYPE}
use Rattle.program_maker.specs.Pictures.{drawn_pictures, AreWritten}
use Rattle.program_maker.specs.Streams.{picture_dts, frame_pts, drawn_frames, number_of_frames, picture_pes, frame_pes}
use Rattle.program_maker.specs.Packets.{section_packet, pes_packets, pcr_packet, counted}

-- ---- tables

-- an elementary stream without descriptors
abbrev pub plain_stream : ℕ → ℕ → Stream
plain_stream type pid = record { kind = type; pid = pid; descriptors = record { items = [] } }

-- the video, which carries the clock, and the audio
abbrev pub program_map : ProgramMap
program_map = record {
  number = PROGRAM;
  pcr_pid = VIDEO_PID;
  streams = record { items = plain_stream VIDEO_TYPE VIDEO_PID ∷ plain_stream AUDIO_TYPE AUDIO_PID ∷ [] };
  dropped = 0;
}

-- ---- the packets in order

-- a frame has a PTS from picture k on and before picture k + 1, as they are decoded
abbrev pub is_behind : ℕ → ℕ → Bool
is_behind k j = nat_le (picture_dts k) (frame_pts j) && nat_lt (frame_pts j) (picture_dts (k + 1))

-- the numbers of the frames that are written behind picture k of so many pictures
abbrev pub frames_behind : ℕ → ℕ → List ℕ
frames_behind pictures k = filter (is_behind k) (range_with_len 0 (number_of_frames pictures))

-- frame j
abbrev pub frame_packets : List (List ℕ) → ℕ → List PacketRecord
frame_packets frames j = pes_packets AUDIO_PID (frame_pes j (slice_index_or frames j []))

-- a PCR, picture k and the frames behind it
abbrev pub packets_at : List (List ℕ) → List (List ℕ) → ℕ → List PacketRecord
packets_at pictures frames k =
    pcr_packet k ∷ pes_packets VIDEO_PID (picture_pes k (slice_index_or pictures k []))
    ++ flat_map (frame_packets frames) (frames_behind (length pictures) k)

-- PAT and PMT, then picture by picture
abbrev pub program_packets : List ℕ → List ℕ → List (List ℕ) → List (List ℕ) → List PacketRecord
program_packets pat pmt pictures frames =
    section_packet PAT_PID pat ∷ section_packet PMT_PID pmt ∷ flat_map (packets_at pictures frames) (range_with_len 0 (length pictures))

-- ---- the program

-- The bytes are the program of a seed with so many pictures: the pictures are drawn first, from the seed on, then the frames.
pub record IsGeneratedProgram (seed number : ℕ) (bytes : List ℕ) : Type 0 where
  pub pat : List ℕ
  pub pat_is : IsWithCrc (written_pat STREAM_ID ((PROGRAM, PMT_PID) ∷ [])) pat
  pub pmt : List ℕ
  pub pmt_is : IsWithCrc (written_pmt program_map) pmt
  pub pictures : List (List ℕ)
  pub pictures_are : AreWritten (drawn_pictures number seed).0 pictures
  pub bytes_are : bytes ≡ flat_map written (counted [] (program_packets pat pmt pictures (drawn_frames number (drawn_pictures number seed).1).0))
