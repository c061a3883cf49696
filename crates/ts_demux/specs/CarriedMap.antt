-- The map of a program's carried streams, as it stands in a file.
use Rattle.std.specs.Prelude.{ℕ, ◌+◌, ◌≤◌, List, length}
use Rattle.psi_tables.specs.declared.pmt.TheConstants.{PACKET_SECTION_BYTES}
use Rattle.psi_tables.specs.Pmt.{pmt_length}
use Rattle.ts_demux.specs.declared.carried_streams.CarriedStreams.{CarriedStreams}
use Rattle.ts_demux.specs.Demux.{HasCarriedMap, most_audios}

-- the tables of the program are read, and its carried streams are these
pub record HasStreams (program : ℕ) (drop : List ℕ) (carried : CarriedStreams) (file : List ℕ) : Type 0 where
  pub tables : HasCarriedMap file program drop carried.map carried.others
  pub few : length carried.map.streams.items ≤ 1 + most_audios
  pub short : pmt_length carried.map ≤ PACKET_SECTION_BYTES
