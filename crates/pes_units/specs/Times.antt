-- The times of a PES header, in units of 1/90,000 s (ISO/IEC 13818-1, 2.4.3.6 and 2.4.3.7).
use Rattle.std.specs.Prelude.{◌≡◌, ℕ, ◌+◌, ◌*◌, ◌^◌, ◌≤◌, ◌==◌, nat_le, Bool, true, false, ◌&&◌, List, Option, Some, None, if◌then◌else◌}
use Rattle.pes_units.specs.declared.times.Times.{Times}
use Rattle.bit_lists.specs.Fields.{bits}

-- ---- elements of the header

-- 0 is no time, 2 a PTS, 3 a PTS and a DTS; 1 is forbidden
abbrev pub pts_dts_flags : List ℕ → ℕ
pts_dts_flags bytes = bits bytes 56 2

-- the number of bytes behind the ninth that belong to the header
abbrev pub pes_header_data_length : List ℕ → ℕ
pes_header_data_length bytes = bits bytes 64 8

-- ---- a time in five bytes: 4 bits, then 3, 15 and 15 bits of the time with a marker bit behind each

-- the time in the five bytes from a place on
abbrev pub time_at : List ℕ → ℕ → ℕ
time_at bytes place = 2 ^ 30 * bits bytes (8 * place + 4) 3 + 2 ^ 15 * bits bytes (8 * place + 8) 15 + bits bytes (8 * place + 24) 15

-- its three marker bits are 1
abbrev pub has_markers : List ℕ → ℕ → Bool
has_markers bytes place = (bits bytes (8 * place + 7) 1 == 1) && (bits bytes (8 * place + 23) 1 == 1) && (bits bytes (8 * place + 39) 1 == 1)

-- a time with its markers stands there
pub record IsTimeAt (time : ℕ) (bytes : List ℕ) (place : ℕ) : Type 0 where
  pub value : time ≡ time_at bytes place
  pub first_marker : bits bytes (8 * place + 7) 1 ≡ 1
  pub second_marker : bits bytes (8 * place + 23) 1 ≡ 1
  pub third_marker : bits bytes (8 * place + 39) 1 ≡ 1

-- ---- the times of a header

-- The PTS and the DTS that the header has: its flags say which stand, they stand behind the ninth byte, and the header
-- is long enough for them. The four bits before a time may be anything.
abbrev pub HasTimes : Option ℕ → Option ℕ → List ℕ → Type 0
HasTimes None None bytes = pts_dts_flags bytes ≡ 0
HasTimes (Some pts) None bytes = (pts_dts_flags bytes ≡ 2) × (5 ≤ pes_header_data_length bytes) × IsTimeAt pts bytes 9
HasTimes (Some pts) (Some dts) bytes = (pts_dts_flags bytes ≡ 3) × (10 ≤ pes_header_data_length bytes) × IsTimeAt pts bytes 9 × IsTimeAt dts bytes 14
HasTimes None (Some dts) bytes = ⊥

-- whether the header has the times that its flags announce, as a test
abbrev pub are_times_sound : List ℕ → Bool
are_times_sound bytes =
    if pts_dts_flags bytes == 0 then true
    else if pts_dts_flags bytes == 2 then nat_le 5 (pes_header_data_length bytes) && has_markers bytes 9
    else if pts_dts_flags bytes == 3 then nat_le 10 (pes_header_data_length bytes) && (has_markers bytes 9 && has_markers bytes 14)
    else false

-- which times they are
abbrev pub times_of : List ℕ → Times
times_of bytes = record {
  pts = if nat_le 2 (pts_dts_flags bytes) then Some (time_at bytes 9) else None;
  dts = if pts_dts_flags bytes == 3 then Some (time_at bytes 14) else None;
}

-- ---- the decoding time

-- the one of two times that stands first
abbrev pub decoding_of : Option ℕ → Option ℕ → Option ℕ
decoding_of (Some dts) pts = Some dts
decoding_of None pts = pts

-- the decoding time in units of 1/90,000 s modulo 2^33: the DTS, or the PTS where none stands (2.4.3.7)
abbrev pub decoding_time : Times → Option ℕ
decoding_time times = decoding_of times.dts times.pts
