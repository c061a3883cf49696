-- The one written spelling of the header of a video PES packet (ISO/IEC 13818-1, 2.4.3.6 and 2.4.3.7).
use Rattle.std.specs.Prelude.{ℕ, ◌+◌, ◌*◌, ◌/◌, ◌%◌, ◌^◌, ◌<◌, ◌==◌, List, [], ◌∷◌, ◌++◌, length, drop, Option, Some, None, IsSome, IfSome, if◌then◌else◌}
use Rattle.std.specs.Int.{w64, to_be_bytes}
use Rattle.pes_units.specs.declared.pes_header.PesHeader.{PesHeader}
use Rattle.pes_units.specs.declared.times.Times.{Times}

-- times of 33 bits
abbrev pub AreInRange : Times → Type 0
AreInRange times = IfSome times.pts (λ pts. pts < 2 ^ 33) × IfSome times.dts (λ dts. dts < 2 ^ 33)

-- a DTS stands only beside a PTS
abbrev pub IsBesidePts : Times → Type 0
IsBesidePts times = IsSome times.dts → IsSome times.pts

-- the DTS that is written: none where it is the PTS
abbrev pub written_dts : Option ℕ → Option ℕ → Option ℕ
written_dts None dts = None
written_dts (Some pts) None = None
written_dts (Some pts) (Some dts) = if dts == pts then None else Some dts

-- the times that are written
abbrev pub written_times : Times → Times
written_times times = record { pts = times.pts; dts = written_dts times.pts times.dts }

-- the field of a time as a number of 40 bits: four bits that say which time it is, then 3, 15 and 15 bits of it with a
-- marker bit 1 behind each
abbrev pub time_word : ℕ → ℕ → ℕ
time_word which time = 2 ^ 36 * which + 2 ^ 33 * (time / 2 ^ 30) + 2 ^ 32 + 2 ^ 17 * (time / 2 ^ 15 % 2 ^ 15) + 2 ^ 16 + 2 * (time % 2 ^ 15) + 1

-- the same in five bytes
abbrev pub time_bytes : ℕ → ℕ → List ℕ
time_bytes which time = drop 3 (to_be_bytes w64 (time_word which time))

-- PTS_DTS_flags
abbrev pub written_pes_flags : Option ℕ → Option ℕ → ℕ
written_pes_flags None dts = 0
written_pes_flags (Some pts) None = 2
written_pes_flags (Some pts) (Some dts) = 3

-- the times behind the ninth byte: `0010` before a PTS alone, `0011` and `0001` before both
abbrev pub time_fields : Option ℕ → Option ℕ → List ℕ
time_fields None dts = []
time_fields (Some pts) None = time_bytes 2 pts
time_fields (Some pts) (Some dts) = time_bytes 3 pts ++ time_bytes 1 dts

-- the nine bytes before the times: stream id E0, no stated length, and no flag but those of the times
abbrev pub first_bytes : ℕ → ℕ → List ℕ
first_bytes flags data_length = 0x00 ∷ 0x00 ∷ 0x01 ∷ 0xE0 ∷ 0x00 ∷ 0x00 ∷ 0x80 ∷ 2 ^ 6 * flags ∷ data_length ∷ []

-- a whole header with these times
abbrev pub spelled : Option ℕ → Option ℕ → List ℕ
spelled pts dts = first_bytes (written_pes_flags pts dts) (length (time_fields pts dts)) ++ time_fields pts dts

-- the header that is written for these times
abbrev pub written_pes_header : Times → List ℕ
written_pes_header times = spelled times.pts (written_dts times.pts times.dts)

-- what is read of it
abbrev pub written_fields : Times → PesHeader
written_fields times = record {
  stream_id = 0xE0;
  stated = 0;
  times = written_times times;
  len = length (written_pes_header times);
}
