-- The cut of a video stream into units (start codes by ISO/IEC 13818-2, 6.2; the cut is this project's).
use Rattle.std.specs.Prelude.{ℕ, ◌+◌, ◌-◌, ◌^◌, min, nat_lt, nat_le, Bool, not, ◌&&◌, List, length, filter, Option}
use Rattle.std.specs.List.{find, list_any, list_all, range_with_len}
use Rattle.std.specs.Option.{option_map}
use Rattle.list_types.specs.Spans.{spans}
use Rattle.es_units.specs.declared.units.Units.{Units}
use Rattle.es_units.specs.StartCodes.{is_sequence_header, is_unit_start, has_code}
use Rattle.stream_constants.specs.SliceCodes.{is_slice}

-- the places from one up to another, which isn't one of them
abbrev pub places : ℕ → ℕ → List ℕ
places from end = range_with_len from (end - from)

-- a slice begins before the place, and no header with which a unit may begin stands between the two
abbrev pub is_behind_slice : List ℕ → ℕ → Bool
is_behind_slice es at =
    list_any (λ slice. has_code is_slice es slice && list_all (λ between. not (has_code is_unit_start es between)) (places (slice + 1) at)) (places 0 at)

-- a unit ends before the place: a header with which a unit may begin stands there, the first one behind a slice
abbrev pub is_unit_cut : List ℕ → ℕ → Bool
is_unit_cut es at = has_code is_unit_start es at && is_behind_slice es at

-- the place of the first sequence header
abbrev pub first_sequence : List ℕ → Option ℕ
first_sequence es = find (has_code is_sequence_header es) (places 0 (length es))

-- the number of the cuts up to the first sequence header, each of which ends a unit that is dropped
abbrev pub cuts_up_to : List ℕ → ℕ → ℕ
cuts_up_to es first = length (filter (λ at. is_unit_cut es at && nat_le at first) (places 0 (length es)))

-- the cuts behind the first sequence header
abbrev pub cuts_behind : List ℕ → ℕ → List ℕ
cuts_behind es first = filter (λ at. is_unit_cut es at && nat_lt first at) (places 0 (length es))

-- The units from the first sequence header on, and how many end there or earlier; none without a sequence header.
-- The number stands still at 2^32 - 1.
abbrev pub cut_units : List ℕ → Option Units
cut_units es = option_map (λ first. record { dropped = min (cuts_up_to es first) (2 ^ 32 - 1); cuts = spans first (cuts_behind es first) (length es) }) (first_sequence es)
