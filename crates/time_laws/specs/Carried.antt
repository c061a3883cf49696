-- The due and gone times of a table are those that a stream itself carries, and the stream is clean by them (ISO/IEC 13818-1, 2.4.2 and 2.4.3.7).
use Rattle.std.specs.Prelude.{◌≡◌, ℕ, ◌+◌, List, [], ◌∷◌, length, map, slice_get, Some, pos}
use Rattle.std.specs.List.{range_with_len, zip}
use Rattle.audio_frames.specs.declared.frame.Frame.{Frame}
use Rattle.ts_packets.specs.Packet.{PacketRecord}
use Rattle.ts_packets.specs.TransportStream.{packets}
use Rattle.psi_tables.specs.Pmt.{pids_of}
use Rattle.ts_demux.specs.declared.demuxed.Demuxed.{Demuxed}
use Rattle.ts_demux.specs.Demux.{IsDemuxed}
use Rattle.version_table.specs.declared.table.ProgramRow.{ProgramRow}
use Rattle.version_table.specs.declared.table.Table.{Table}
use Rattle.version_table.specs.Choice.{Fits, version_at}
use Rattle.version_table.specs.Table.{IsValidTable}
use Rattle.slot_rule.specs.Sent.{choice_from}
use Rattle.program_reader.specs.Audio.{HaveFrames}
use Rattle.mux_writer.specs.Layout.{map_pid, video_pid}
use Rattle.parsing_laws.specs.TakenOut.{LeadsToMap}
use Rattle.clean_laws.specs.Clean.{IsCleanStream}
use Rattle.time_laws.specs.Audio.{AreDueAsFramed}
use Rattle.time_laws.specs.Clock.{IsClock}
use Rattle.time_laws.specs.Video.{AreDecoded, BeginAt, DecodedPicture}

-- The program of this number is taken out of a stream: the stream's PAT leads to its map on the PID of the program of this place from 0, on whose PIDs are its
-- video and, in order, its audio streams. Its PCRs are those of a clock. By this clock the units of a row are due when the pictures of its video are decoded, and the row's audio packets are due and
-- gone when the bytes of its audio streams are wanted, whose frames have the times of their PES packets on the axis of the video's first time. The versions
-- that a choice names of the units are as long as the PES packets of the video, and the elementary buffer is that of the first picture's sequence header.
pub record CarriesTimes (bytes : List ℕ) (stream : List PacketRecord) (slot place number : ℕ) (row : ProgramRow) (choice : List ℕ) : Type 0 where
  pub demuxed : Demuxed
  pub taken_out : IsDemuxed bytes number [] demuxed
  pub map_pid_is : LeadsToMap bytes number (map_pid place)
  pub pids : pids_of demuxed.map ≡ range_with_len (video_pid place) (1 + length row.audios)
  pub base : ℕ
  pub clock : IsClock stream slot demuxed.map.pcr_pid base
  pub first : DecodedPicture
  pub later : List DecodedPicture
  pub decoded : AreDecoded base [] demuxed.video (first ∷ later)
  pub dues : map (λ unit. unit.due) row.units ≡ map (λ picture. picture.at) (first ∷ later)
  pub sizes : map (λ chosen. (version_at chosen.0 chosen.1).bytes) (zip row.units choice) ≡ map (λ packet. length packet.bytes) demuxed.video
  pub buffer : row.vbv ≡ first.seq.vbv
  pub begin : ℕ
  pub begin_is : BeginAt begin demuxed.video
  pub frames : List (List Frame)
  pub have_frames : HaveFrames (pos begin) demuxed.audios frames
  pub audios : AreDueAsFramed base demuxed.audios frames row.audios

-- The bytes are whole packets, and carry the times and sizes of a table's programs under a choice; the programs have these numbers in order.
pub record CarriesTable (table : Table) (choice numbers bytes : List ℕ) : Type 0 where
  pub stream : List PacketRecord
  pub read : packets bytes ≡ map Some stream
  pub as_many : length numbers ≡ length table.programs
  pub each : (place number : ℕ) (row : ProgramRow) → slice_get numbers place ≡ Some number → slice_get table.programs place ≡ Some row
      → CarriesTimes bytes stream table.slot place number row (choice_from table.programs place choice)

-- The bytes of a stream of programs of these numbers, read by themselves, give no decoder a fault, whichever removals take each byte between the times at which
-- the bytes themselves say that it is wanted and gone: all that counts in the table that they are clean for, its times, sizes and buffers, they carry. The table
-- is valid, so its times are in order, and the choice names a version of each unit.
pub record IsCleanByItsTimes (slot : ℕ) (numbers bytes : List ℕ) : Type 0 where
  pub table : Table
  pub choice : List ℕ
  pub valid : IsValidTable table
  pub fits : Fits table choice
  pub slot_is : table.slot ≡ slot
  pub carried : CarriesTable table choice numbers bytes
  pub clean : IsCleanStream table choice bytes
