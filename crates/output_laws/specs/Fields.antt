-- Numbers that fit their fields in sections, as the types of a layout see to (ISO/IEC 13818-1, 2.4.4.3 and 2.4.4.8).
use Rattle.std.specs.Prelude.{◌^◌, ◌<◌, All}
use Rattle.psi_tables.specs.declared.program_map.ProgramMap.{ProgramMap}
use Rattle.mux_writer.specs.declared.layout.Layout.{Layout}

-- program_number has 16 bits, and each stream_type 8
pub record IsMapInRange (program_map : ProgramMap) : Type 0 where
  pub number : program_map.number < 2 ^ 16
  pub kinds : All (λ stream. stream.kind < 2 ^ 8) program_map.streams.items

-- transport_stream_id has 16 bits, and each program's numbers fit
pub record HaveNumbersInRange (layout : Layout) : Type 0 where
  pub stream_id : layout.stream_id < 2 ^ 16
  pub maps : All IsMapInRange layout.maps.items
