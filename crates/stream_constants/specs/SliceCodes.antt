-- Which start codes are those of slices (ISO/IEC 13818-2, 6.2.1).
use Rattle.std.specs.Prelude.{ℕ, nat_le, Bool, ◌&&◌}
use Rattle.stream_constants.specs.declared.start_codes.TheConstants.{FIRST_SLICE, LAST_SLICE}

-- slice_start_code: the bytes 01 to AF (Table 6-1)
abbrev pub is_slice : ℕ → Bool
is_slice byte = nat_le FIRST_SLICE byte && nat_le byte LAST_SLICE
