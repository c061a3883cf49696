-- The carried streams of a map that was read; no public clause cites these.
use Rattle.std.specs.Prelude.{ℕ, ◌+◌, ◌≤◌, List, length}
use Rattle.psi_tables.specs.declared.pmt.TheConstants.{PACKET_SECTION_BYTES}
use Rattle.psi_tables.specs.declared.program_map.ProgramMap.{ProgramMap}
use Rattle.psi_tables.specs.Pmt.{pmt_length}
use Rattle.ts_demux.specs.declared.carried_streams.CarriedStreams.{CarriedStreams}
use Rattle.ts_demux.specs.declared.demux_fault.DemuxFault.{DemuxFault}
use Rattle.ts_demux.specs.Demux.{IsCarriedMap, IsDemuxRefused, most_audios}
use Rattle.ts_demux.specs.Pass.{HasMapOf}

-- the carried streams of a map are no more than a program may have, and a map of them alone fits a section that one packet holds
pub record AreCarried (drop : List ℕ) (whole : ProgramMap) (carried : CarriedStreams) : Type 0 where
  pub carried_is : IsCarriedMap drop whole carried.map carried.others
  pub few : length carried.map.streams.items ≤ 1 + most_audios
  pub short : pmt_length carried.map ≤ PACKET_SECTION_BYTES

-- every file of this map is refused for this
abbrev pub IsMapRefused : List ℕ → ProgramMap → DemuxFault → Type 0
IsMapRefused drop whole fault = (file : List ℕ) (program : ℕ) → HasMapOf program whole file → IsDemuxRefused file program drop fault
