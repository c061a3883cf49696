-- The sections of an output stream (ISO/IEC 13818-1, 2.4.4), each as the payload of one packet.
use Rattle.std.specs.Prelude.{ℕ, ◌+◌, List, [], ◌∷◌, ◌++◌, map}
use Rattle.std.specs.Int.{w32, to_be_bytes}
use Rattle.psi_tables.specs.declared.program_map.ProgramMap.{ProgramMap}
use Rattle.psi_tables.specs.Pat.{written_pat}
use Rattle.psi_tables.specs.Pmt.{written_pmt}
use Rattle.psi_tables.specs.Sections.{crc_over, section_payload}
use Rattle.mux_writer.specs.declared.layout.Layout.{Layout}
use Rattle.mux_writer.specs.Layout.{map_pid}

-- the bytes of a section behind which its CRC is to stand, with it
abbrev pub with_crc : List ℕ → List ℕ
with_crc front = front ++ to_be_bytes w32 (crc_over front)

-- program_number and PID of the map of each program, the first one the program of this number from 0
abbrev pub programs_from : (program : ℕ) → List ProgramMap → List (ℕ × ℕ)
programs_from program [] = []
programs_from program (program_map ∷ maps) = (program_map.number, map_pid program) ∷ programs_from (program + 1) maps

-- the PAT section, its programs in the order of the layout
abbrev pub pat_section : Layout → List ℕ
pat_section layout = with_crc (written_pat layout.stream_id (programs_from 0 layout.maps.items))

-- the PMT section of a program
abbrev pub pmt_section : ProgramMap → List ℕ
pmt_section program_map = with_crc (written_pmt program_map)

-- the payload of the PAT's packets
abbrev pub pat_payload : Layout → List ℕ
pat_payload layout = section_payload (pat_section layout)

-- the payloads of the packets of the PMTs, program by program
abbrev pub pmt_payloads : Layout → List (List ℕ)
pmt_payloads layout = map (λ program_map. section_payload (pmt_section program_map)) layout.maps.items
