-- Start codes of a video stream (ISO/IEC 13818-2, 6.2.1).
use Rattle.std.specs.Prelude.{ℕ, ◌+◌, ◌==◌, nat_lt, Bool, false, ◌&&◌, ◌||◌, List, length, slice_index, Option, Some, None, if◌then◌else◌}
use Rattle.std.specs.Option.{option_map_or}
use Rattle.stream_constants.specs.declared.start_codes.TheConstants.{PICTURE, SEQUENCE_HEADER, GROUP}

-- the bytes 00 00 01 and a value behind them stand at the place
abbrev pub is_start_code_at : List ℕ → ℕ → Bool
is_start_code_at es at =
    nat_lt (at + 3) (length es) && ((slice_index es at == 0) && ((slice_index es (at + 1) == 0) && (slice_index es (at + 2) == 1)))

-- the value of the start code at the place, if one stands there
abbrev pub start_code_at : List ℕ → ℕ → Option ℕ
start_code_at es at = if is_start_code_at es at then Some (slice_index es (at + 3)) else None

-- the value of a sequence header (Table 6-1: sequence_header_code)
abbrev pub is_sequence_header : ℕ → Bool
is_sequence_header value = value == SEQUENCE_HEADER

-- values that a unit may begin with: sequence header, GOP header, picture header (Table 6-1)
abbrev pub is_unit_start : ℕ → Bool
is_unit_start value = is_sequence_header value || ((value == GROUP) || (value == PICTURE))

-- a start code with such a value stands at the place
abbrev pub has_code : (ℕ → Bool) → List ℕ → ℕ → Bool
has_code test es at = option_map_or test (start_code_at es at) false
