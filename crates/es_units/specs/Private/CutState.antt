-- What is cut of the front of a video stream, start code by start code (ISO/IEC 13818-2, 6.2; the cut is this project's).
use Rattle.std.specs.Prelude.{ℕ, ◌+◌, ◌-◌, ◌^◌, min, Bool, not, ◌&&◌, ◌||◌, List, ◌++◌, take, Option, Some, None, if◌then◌else◌}
use Rattle.stream_constants.specs.SliceCodes.{is_slice}
use Rattle.es_units.specs.declared.cut_state.CutState.{CutState}
use Rattle.es_units.specs.StartCodes.{is_sequence_header, is_unit_start}

-- ---- one start code

-- a start code cuts the stream
abbrev pub cuts_by : CutState → ℕ → Bool
cuts_by state value = is_unit_start value && state.behind_slice

-- where the unit begins that a start code ends, if it ends one that is kept
abbrev pub ended_by : CutState → ℕ → Option ℕ
ended_by state value = if cuts_by state value then state.begin else None

-- where the open unit begins behind a start code at a place
abbrev pub begin_by : (begin : Option ℕ) (is_cut : Bool) (at value : ℕ) → Option ℕ
begin_by None is_cut at value = if is_sequence_header value then Some at else None
begin_by (Some begin) is_cut at value = if is_cut then Some at else Some begin

-- how many units are dropped behind a start code
abbrev pub dropped_by : (begin : Option ℕ) (is_cut : Bool) (dropped : ℕ) → ℕ
dropped_by None is_cut dropped = if is_cut then min (dropped + 1) (2 ^ 32 - 1) else dropped
dropped_by (Some begin) is_cut dropped = dropped

-- what is known behind a start code at a place
abbrev pub state_by : CutState → ℕ → ℕ → CutState
state_by state at value = record {
  behind_slice = is_slice value || (state.behind_slice && not (is_unit_start value));
  begin = begin_by state.begin (cuts_by state value) at value;
  dropped = dropped_by state.begin (cuts_by state value) state.dropped;
}

-- ---- the bytes that are kept

-- behind more bytes
abbrev pub kept_behind : (most : ℕ) (begin : Option ℕ) (kept bytes : List ℕ) → List ℕ
kept_behind most None kept bytes = kept
kept_behind most (Some begin) kept bytes = take most (kept ++ bytes)

-- behind a start code that begins at a place: those of the unit that it ends; or its own where it begins the first one
abbrev pub kept_passed : (ended : Option ℕ) (at : ℕ) (was now : Option ℕ) (kept start : List ℕ) → List ℕ
kept_passed (Some from) at was now kept start = take (at - from) kept
kept_passed None at None (Some begin) kept start = kept ++ start
kept_passed None at None None kept start = kept
kept_passed None at (Some begin) now kept start = kept
