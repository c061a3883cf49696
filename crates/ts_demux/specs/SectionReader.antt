-- Where a reader of the sections of a PID stands.
use Rattle.std.specs.Prelude.{◌≡◌, List}
use Rattle.ts_packets.specs.TransportStream.{Piece}
use Rattle.ts_packets.specs.PidReader.{IsBehind}
use Rattle.psi_tables.specs.Sections.{Found, sections_of, GivesInTurn}
use Rattle.ts_demux.specs.declared.section_reader.SectionReader.{SectionReader}
use Rattle.ts_demux.specs.Tables.{payloads_in}

-- the reader has taken these pieces, and of their sections the last ones wait to be read
pub record Waits (before : List Piece) (waiting : List Found) (reader : SectionReader) : Type 0 where
  pub packets : IsBehind before reader.packets
  pub given : List Found
  pub in_turn : GivesInTurn (payloads_in before) given reader.builder
  pub waiting_is : sections_of reader.builder ≡ waiting
