-- When the bytes of an audio stream are wanted and gone, by the headers of its own PES packets and by its frames (ISO/IEC 13818-1, 2.4.3.7; the pieces are
-- this project's).
use Rattle.std.specs.Prelude.{◌≡◌, ℕ, ◌+◌, ◌-◌, List, [], ◌∷◌}
use Rattle.audio_frames.specs.declared.frame.Frame.{Frame}
use Rattle.ts_demux.specs.declared.demuxed.AudioStream.{AudioStream}
use Rattle.version_table.specs.declared.table.AudioPacket.{AudioPacket}
use Rattle.elementary_streams.specs.declared.pes_packets.PlacedPacket.{PlacedPacket}
use Rattle.program_reader.specs.Audio.{packet_size, payload_place, piece_size, placed_pieces, time_of_byte}
use Rattle.elementary_streams.specs.Audio.{taken_of}
use Rattle.elementary_streams.specs.Packets.{placed_from}
use Rattle.time_laws.specs.Clock.{IsFirstShown}

-- So many bytes from a place of a PES packet on are those of an audio packet: its first byte is wanted when the clock first shows the time of the frame that it
-- counts with, and its last one is gone when the clock first shows that of its own.
pub record IsWantedWhen (base : ℕ) (frames : List Frame) (packet : PlacedPacket) (from size : ℕ) (row : AudioPacket) : Type 0 where
  pub due : IsFirstShown base (time_of_byte frames (payload_place packet from)) row.due
  pub gone : IsFirstShown base (time_of_byte frames (payload_place packet (from + size - 1))) row.gone
  pub bytes : row.bytes ≡ size

-- audio packets, one for each place
abbrev pub AreWantedWhen : (base : ℕ) → List Frame → List (PlacedPacket × ℕ × ℕ) → List AudioPacket → Type 0
AreWantedWhen base frames [] [] = Unit {0}
AreWantedWhen base frames (place ∷ places) (row ∷ rows) =
    IsWantedWhen base frames place.0 place.2 (piece_size (packet_size place.0) place.2) row × AreWantedWhen base frames places rows
AreWantedWhen base frames places rows = ⊥

-- the audio packets of each of some streams are those of its PES packets, cut as they are sent, each stream with its frames
abbrev pub AreDueAsFramed : (base : ℕ) → List AudioStream → List (List Frame) → List (List AudioPacket) → Type 0
AreDueAsFramed base [] [] [] = Unit {0}
AreDueAsFramed base (stream ∷ streams) (frames ∷ more) (rows ∷ others) =
    AreWantedWhen base frames (placed_pieces 0 (placed_from 0 (taken_of stream))) rows × AreDueAsFramed base streams more others
AreDueAsFramed base streams frames rows = ⊥
