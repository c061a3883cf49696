-- The worked examples, computed from the definitions.
use Rattle.std.proofs.Common.{◌≡◌, ℕ, ◌==◌, List, [], ◌∷◌, ◌++◌, Some, None, map, take, drop, refl, lit<, lit≤}
use Rattle.std.specs.Prelude.{codes}
use Rattle.bit_lists.specs.Bits.{bits_of, number_of}
use Rattle.bit_lists.specs.Fields.{bit, bits}
use Rattle.psi_tables.specs.declared.program_map.ProgramMap.{ProgramMap}
use Rattle.psi_tables.specs.Crc.{IsCrcOf, HasRightCrc}
use Rattle.psi_tables.specs.Section.{IsWithCrc}
use Rattle.psi_tables.specs.Pat.{IsPat, pat_map_pid, written_pat}
use Rattle.psi_tables.specs.Streams.{StreamInfo}
use Rattle.psi_tables.specs.Pmt.{IsPmt, written_pmt}
use Rattle.psi_tables.specs.PatOf.{pat_of}
use Rattle.psi_tables.specs.PmtOf.{pmt_of}

-- ---- the CRC of an ASCII text

digits-crc : IsCrcOf 0x0376E6E7 (codes "123456789")
unfolding bits_of number_of
digits-crc = record { quotient = map (λ bit. bit == 1) (bits_of 72 0xCDAE0CEE9189EC3571); below = lit< tt; dividend = refl }

-- ---- the PAT section of stream 1 with the program 1, its map on PID 0x100

abbrev pat_front : List ℕ
pat_front = 0x00 ∷ 0xB0 ∷ 0x0D ∷ 0x00 ∷ 0x01 ∷ 0xC1 ∷ 0x00 ∷ 0x00 ∷ 0x00 ∷ 0x01 ∷ 0xE1 ∷ 0x00 ∷ []

abbrev pat_bytes : List ℕ
pat_bytes = pat_front ++ (0xE8 ∷ 0xF9 ∷ 0x5E ∷ 0x7D ∷ [])

pat-written : IsWithCrc (written_pat 1 ((1, 0x100) ∷ [])) pat_bytes
unfolding bits_of number_of
pat-written = record {
  crc = 0xE8F95E7D;
  crc_is = record { quotient = map (λ bit. bit == 1) (bits_of 96 0xFCFDB234113164C181E4224F); below = lit< tt; dividend = refl };
  joined = refl;
}

pat-crc : HasRightCrc pat_bytes
unfolding bits_of number_of
pat-crc = (lit≤ tt, record { quotient = map (λ bit. bit == 1) (bits_of 96 0xFCFDB234113164C181E4224F); below = lit< tt; dividend = refl })

pat-read : IsPat ((1, 0x100) ∷ []) pat_bytes
unfolding bit bits
pat-read = record {
  current = record { table_is = refl; current = refl };
  whole = record { size = refl; room = lit≤ tt };
  programs_are = (0x00 ∷ 0x01 ∷ 0xE1 ∷ 0x00 ∷ [], [], refl, record { size = refl; number = refl; pid = refl }, refl);
}

pat-found : pat_map_pid 1 ((1, 0x100) ∷ []) ≡ Some 0x100
pat-found = refl

pat-other : pat_map_pid 2 ((1, 0x100) ∷ []) ≡ None
pat-other = refl

-- the network's PID is no program's
pat-network : pat_map_pid 0 ((0, 0x10) ∷ (1, 0x100) ∷ []) ≡ None
pat-network = refl

-- ---- the PMT section of program 1 with a video stream, which has the clock, and an audio stream in English

abbrev pmt_front : List ℕ
pmt_front =
    0x02 ∷ 0xB0 ∷ 0x1D ∷ 0x00 ∷ 0x01 ∷ 0xC1 ∷ 0x00 ∷ 0x00 ∷ 0xE1 ∷ 0x01 ∷ 0xF0 ∷ 0x00
    ∷ 0x02 ∷ 0xE1 ∷ 0x01 ∷ 0xF0 ∷ 0x00 ∷ 0x03 ∷ 0xE1 ∷ 0x02 ∷ 0xF0 ∷ 0x06 ∷ 0x0A ∷ 0x04 ∷ 0x65 ∷ 0x6E ∷ 0x67 ∷ 0x00 ∷ []

abbrev pmt_map : ProgramMap
pmt_map = record {
  number = 1;
  pcr_pid = 0x101;
  streams = record {
    items = record { kind = 2; pid = 0x101; descriptors = record { items = [] } }
        ∷ record { kind = 3; pid = 0x102; descriptors = record { items = 0x0A ∷ 0x04 ∷ 0x65 ∷ 0x6E ∷ 0x67 ∷ 0x00 ∷ [] } } ∷ [];
  };
  dropped = 0;
}

pmt-written : IsWithCrc (written_pmt pmt_map) (pmt_front ++ (0x4E ∷ 0x4E ∷ 0xFA ∷ 0x05 ∷ []))
unfolding bits_of number_of
pmt-written = record {
  crc = 0x4E4EFA05;
  crc_is = record { quotient = map (λ bit. bit == 1) (bits_of 224 0xFEF4007ABFBCA6DC6220A84848DB2107222FE43D7F0E997BB313EE07); below = lit< tt; dividend = refl };
  joined = refl;
}

-- ---- a PMT section with other reserved bits, version 5 and descriptors that aren't kept: two of the program, one of the stream

abbrev other_pmt : List ℕ
other_pmt =
    0x02 ∷ 0x00 ∷ 0x1F ∷ 0x00 ∷ 0x07 ∷ 0x0B ∷ 0x01 ∷ 0x02 ∷ 0x01 ∷ 0x01 ∷ 0x00 ∷ 0x05 ∷ 0x09 ∷ 0x00 ∷ 0x05 ∷ 0x01 ∷ 0x11
    ∷ 0x02 ∷ 0x01 ∷ 0x01 ∷ 0x00 ∷ 0x08 ∷ 0x52 ∷ 0x01 ∷ 0x0F ∷ 0x02 ∷ 0x03 ∷ 0x11 ∷ 0x22 ∷ 0x33 ∷ 0x00 ∷ 0x00 ∷ 0x00 ∷ 0x00 ∷ []

abbrev other_map : ProgramMap
other_map = record {
  number = 7;
  pcr_pid = 0x101;
  streams = record { items = record { kind = 2; pid = 0x101; descriptors = record { items = 0x02 ∷ 0x03 ∷ 0x11 ∷ 0x22 ∷ 0x33 ∷ [] } } ∷ [] };
  dropped = 3;
}

abbrev other_stream : StreamInfo
other_stream = record { stream_type = 2; elementary_PID = 0x101; descriptors = (0x52 ∷ 0x01 ∷ 0x0F ∷ []) ∷ (0x02 ∷ 0x03 ∷ 0x11 ∷ 0x22 ∷ 0x33 ∷ []) ∷ [] }

other_pmt-read : IsPmt other_map other_pmt
unfolding bit bits
other_pmt-read = record {
  current = record { table_is = refl; current = refl };
  whole = record { size = refl; room = lit≤ tt };
  number = refl;
  content_is = record {
    pcr = refl;
    room = lit≤ tt;
    descriptors = (0x09 ∷ 0x00 ∷ []) ∷ (0x05 ∷ 0x01 ∷ 0x11 ∷ []) ∷ [];
    descriptors_are = (
      0x09 ∷ 0x00 ∷ [],
      0x05 ∷ 0x01 ∷ 0x11 ∷ [],
      refl,
      record { bytes_are = refl; size = refl },
      (0x05 ∷ 0x01 ∷ 0x11 ∷ [], [], refl, record { bytes_are = refl; size = refl }, refl),
    );
    streams = other_stream ∷ [];
    streams_are = (
      drop 17 (take 30 other_pmt),
      [],
      refl,
      record {
        size = refl;
        type_is = refl;
        pid = refl;
        descriptors_are = (
          0x52 ∷ 0x01 ∷ 0x0F ∷ [],
          0x02 ∷ 0x03 ∷ 0x11 ∷ 0x22 ∷ 0x33 ∷ [],
          refl,
          record { bytes_are = refl; size = refl },
          (0x02 ∷ 0x03 ∷ 0x11 ∷ 0x22 ∷ 0x33 ∷ [], [], refl, record { bytes_are = refl; size = refl }, refl),
        );
      },
      refl,
    );
    kept = refl;
    dropped_are = refl;
  };
}

-- ---- both by the function; and a section in which a descriptor has no room, a section that isn't current, and a PAT section

pmt-by_function : pmt_of (pmt_front ++ (0x4E ∷ 0x4E ∷ 0xFA ∷ 0x05 ∷ [])) ≡ Some pmt_map
unfolding bit bits
pmt-by_function = refl

other-by_function : pmt_of other_pmt ≡ Some other_map
unfolding bit bits
other-by_function = refl

without_room : pmt_of (take 14 other_pmt ++ 0x05 ∷ 0x02 ∷ drop 16 other_pmt) ≡ None
unfolding bit bits
without_room = refl

not_current : pmt_of (take 5 other_pmt ++ 0x0A ∷ drop 6 other_pmt) ≡ None
unfolding bit bits
not_current = refl

pat-by_function : pmt_of pat_bytes ≡ None
unfolding bit bits
pat-by_function = refl

programs-by_function : pat_of pat_bytes ≡ Some ((1, 0x100) ∷ [])
unfolding bits bit
programs-by_function = refl

-- the same with the table_id of another table, not current yet, and with a length that no whole number of programs fills
of_another_table : pat_of (2 ∷ drop 1 pat_bytes) ≡ None
unfolding bits bit
of_another_table = refl

not_yet_current : pat_of (take 5 pat_bytes ++ 0xC0 ∷ drop 6 pat_bytes) ≡ None
unfolding bits bit
not_yet_current = refl

half_a_program : pat_of (take 2 pat_bytes ++ 0x0B ∷ take 11 (drop 3 pat_bytes)) ≡ None
unfolding bits bit
half_a_program = refl
