-- Whether a place lies within a group of pictures header (ISO/IEC 13818-2, 6.2.2.6).
use Rattle.std.specs.Prelude.{ℕ, ◌-◌, nat_lt, Bool, false, Option, Some, None}
use Rattle.stream_constants.specs.declared.start_codes.TheConstants.{GROUP_HEADER_BYTES}

-- the last one, by where it begins, reaches over a place behind it
abbrev pub group_reaches : Option ℕ → ℕ → Bool
group_reaches None at = false
group_reaches (Some last) at = nat_lt (at - last) GROUP_HEADER_BYTES
