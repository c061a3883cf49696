-- Sections of output streams, computed from the definitions. Their CRCs are another program's.
use Rattle.std.proofs.Common.{◌≡◌, ℕ, List, [], ◌∷◌, ◌++◌, length, map, replicate, refl}
use Rattle.psi_tables.specs.declared.program_map.ProgramMap.{ProgramMap}
use Rattle.psi_tables.specs.declared.stream.Stream.{Stream}
use Rattle.psi_tables.specs.Sections.{crc_over, section_payload}
use Rattle.psi_tables.specs.Pmt.{pids_of}
use Rattle.mux_writer.specs.declared.layout.Layout.{Layout}
use Rattle.mux_writer.specs.Layout.{with_output_pids}
use Rattle.mux_writer.specs.Tables.{pat_payload, pat_section, pmt_section}
use Rattle.mux_writer.proofs.Examples.{map_of}

abbrev stream_of : (kind pid : ℕ) → (descriptors : List ℕ) → Stream
stream_of kind pid descriptors = record { kind = kind; pid = pid; descriptors = record { items = descriptors } }

-- ---- the PAT of eight programs, whose numbers fall

abbrev video_alone : ℕ → ProgramMap
video_alone number = map_of number 0x101 (stream_of 2 0x101 [] ∷ [])

abbrev eight : Layout
eight = record {
  stream_id = 0x1234;
  maps = record { items = map video_alone (80 ∷ 70 ∷ 60 ∷ 50 ∷ 40 ∷ 30 ∷ 20 ∷ 10 ∷ []) };
  bases = record { items = replicate 8 0 };
}

abbrev eight_pat : List ℕ
eight_pat =
    0x00 ∷ 0xB0 ∷ 0x29 ∷ 0x12 ∷ 0x34 ∷ 0xC1 ∷ 0x00 ∷ 0x00 ∷
    0x00 ∷ 0x50 ∷ 0xE1 ∷ 0x00 ∷ 0x00 ∷ 0x46 ∷ 0xE1 ∷ 0x10 ∷ 0x00 ∷ 0x3C ∷ 0xE1 ∷ 0x20 ∷ 0x00 ∷ 0x32 ∷ 0xE1 ∷ 0x30 ∷
    0x00 ∷ 0x28 ∷ 0xE1 ∷ 0x40 ∷ 0x00 ∷ 0x1E ∷ 0xE1 ∷ 0x50 ∷ 0x00 ∷ 0x14 ∷ 0xE1 ∷ 0x60 ∷ 0x00 ∷ 0x0A ∷ 0xE1 ∷ 0x70 ∷
    0x99 ∷ 0x30 ∷ 0xE3 ∷ 0x8E ∷ []

eight-pat : pat_section eight ≡ eight_pat
unfolding crc_over
eight-pat = refl

eight-payload : pat_payload eight ≡ 0x00 ∷ eight_pat ++ replicate 139 0xFF
unfolding crc_over
eight-payload = refl

-- ---- a program's map as it goes out: PIDs, kinds and descriptors

abbrev read_map : ProgramMap
read_map = map_of 1 0x20 (stream_of 2 0x20 [] ∷ stream_of 4 0x41 (0x0A ∷ 0x04 ∷ 0x65 ∷ 0x6E ∷ 0x67 ∷ 0x00 ∷ []) ∷ [])

third-pids : pids_of (with_output_pids 2 7 read_map) ≡ 0x121 ∷ 0x122 ∷ []
third-pids = refl

abbrev third_pmt : List ℕ
third_pmt =
    0x02 ∷ 0xB0 ∷ 0x1D ∷ 0x00 ∷ 0x07 ∷ 0xC1 ∷ 0x00 ∷ 0x00 ∷ 0xE1 ∷ 0x21 ∷ 0xF0 ∷ 0x00 ∷ 0x02 ∷ 0xE1 ∷ 0x21 ∷ 0xF0 ∷ 0x00 ∷ 0x04 ∷
    0xE1 ∷ 0x22 ∷ 0xF0 ∷ 0x06 ∷ 0x0A ∷ 0x04 ∷ 0x65 ∷ 0x6E ∷ 0x67 ∷ 0x00 ∷ 0xF7 ∷ 0x60 ∷ 0x12 ∷ 0x4F ∷ []

third-pmt : pmt_section (with_output_pids 2 7 read_map) ≡ third_pmt
unfolding crc_over
third-pmt = refl

-- ---- a PMT of 183 bytes, which leaves no room for stuffing

abbrev long_map : ProgramMap
long_map = map_of 1 0x101 (stream_of 2 0x101 [] ∷ stream_of 3 0x102 (0x0A ∷ 0x9B ∷ replicate 155 0x61) ∷ [])

abbrev long_pmt : List ℕ
long_pmt =
    (0x02 ∷ 0xB0 ∷ 0xB4 ∷ 0x00 ∷ 0x01 ∷ 0xC1 ∷ 0x00 ∷ 0x00 ∷ 0xE1 ∷ 0x01 ∷ 0xF0 ∷ 0x00 ∷ 0x02 ∷ 0xE1 ∷ 0x01 ∷ 0xF0 ∷ 0x00 ∷ 0x03 ∷ 0xE1 ∷ 0x02 ∷ 0xF0 ∷
    0x9D ∷ 0x0A ∷ 0x9B ∷ []) ++ replicate 155 0x61 ++ (0x81 ∷ 0xB0 ∷ 0x7B ∷ 0x28 ∷ [])

long-pmt : pmt_section long_map ≡ long_pmt
unfolding crc_over
long-pmt = refl

long-length : length long_pmt ≡ 183
long-length = refl

long-payload : section_payload long_pmt ≡ 0x00 ∷ long_pmt
long-payload = refl
