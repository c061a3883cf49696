-- What programs that were read have for their way out.
use Rattle.std.specs.Prelude.{◌≡◌, ◌+◌, ◌<◌, ◌≤◌, length}
use Rattle.psi_tables.specs.declared.pmt.TheConstants.{PACKET_SECTION_BYTES}
use Rattle.psi_tables.specs.Pmt.{IsWritableMap, pmt_length}
use Rattle.pcr_writer.specs.declared.pcr.TheConstants.{PCR_MODULUS}
use Rattle.program_reader.specs.declared.program.Program.{Program}
use Rattle.mux_writer.specs.declared.layout.TheConstants.{PROGRAM_STREAMS_MOST}

-- a program's map can be written into one packet, with a stream for its video and one for each of its audio streams, and its clock
-- is within its round
pub record CanGoOut (program : Program) : Type 0 where
  pub writable : IsWritableMap program.map
  pub few : length program.map.streams.items ≤ PROGRAM_STREAMS_MOST
  pub fits : pmt_length program.map ≤ PACKET_SECTION_BYTES
  pub base : program.base < PCR_MODULUS
  pub streams : length program.map.streams.items ≡ length program.audios + 1
