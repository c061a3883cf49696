-- Where coded pictures begin in a video stream (ISO/IEC 13818-2, 6.2.3).
use Rattle.std.specs.Prelude.{ℕ, ◌+◌, ◌-◌, ◌==◌, Bool, not, ◌&&◌, List, Option}
use Rattle.std.specs.List.{find, list_any}
use Rattle.stream_constants.specs.declared.start_codes.TheConstants.{PICTURE, GROUP, GROUP_HEADER_BYTES}
use Rattle.es_units.specs.StartCodes.{has_code}
use Rattle.es_units.specs.Units.{places}

-- a group of pictures header, whose time code may look like a start code, reaches over the place (13818-2, 6.2.2.6)
abbrev pub is_in_group : List ℕ → ℕ → Bool
is_in_group es at = list_any (has_code (λ value. value == GROUP) es) (places (at + 1 - GROUP_HEADER_BYTES) at)

-- a picture begins at the place: its start code stands there, and not within a group of pictures header
abbrev pub begins_picture : List ℕ → ℕ → Bool
begins_picture es at = has_code (λ value. value == PICTURE) es at && not (is_in_group es at)

-- where the first picture begins from one place up to another
abbrev pub first_picture : List ℕ → ℕ → ℕ → Option ℕ
first_picture es from end = find (begins_picture es) (places from end)
