-- What is cut of a video stream before a place (ISO/IEC 13818-2, 6.2; the cut is this project's).
use Rattle.std.specs.Prelude.{◌≡◌, ℕ, ◌-◌, ◌^◌, ◌<◌, min, nat_lt, nat_le, ◌&&◌, List, [], ◌++◌, length, filter, Option, Some, None}
use Rattle.std.specs.List.{find}
use Rattle.list_types.specs.Spans.{spans}
use Rattle.es_units.specs.declared.cut_state.CutState.{CutState}
use Rattle.es_units.specs.StartCodes.{is_sequence_header, has_code}
use Rattle.es_units.specs.Units.{places, is_behind_slice, is_unit_cut}

-- the first sequence header before a place
abbrev pub first_before : List ℕ → ℕ → Option ℕ
first_before es to = find (has_code is_sequence_header es) (places 0 to)

-- the cuts before a place
abbrev pub cuts_before : List ℕ → ℕ → List ℕ
cuts_before es to = filter (is_unit_cut es) (places 0 to)

-- those up to the first sequence header
abbrev pub early_before : List ℕ → ℕ → ℕ → List ℕ
early_before es first to = filter (λ at. is_unit_cut es at && nat_le at first) (places 0 to)

-- those behind it
abbrev pub late_before : List ℕ → ℕ → ℕ → List ℕ
late_before es first to = filter (λ at. is_unit_cut es at && nat_lt first at) (places 0 to)

-- A sequence header stands before the place. Whatever cuts come behind it, the units are those that are given and those from
-- the open one's begin on.
pub record IsBegun (es : List ℕ) (to : ℕ) (given : List (ℕ × ℕ)) (begin dropped : ℕ) : Type 0 where
  pub first : ℕ
  pub found : first_before es to ≡ Some first
  pub count : dropped ≡ min (length (early_before es first to)) (2 ^ 32 - 1)
  pub units : (later : List ℕ) (end : ℕ) → spans first (late_before es first to ++ later) end ≡ given ++ spans begin later end
  pub first_in : first < to
  pub before : begin < to

-- no sequence header stands before the place, and all cuts are counted
pub record IsAhead (es : List ℕ) (to : ℕ) (given : List (ℕ × ℕ)) (dropped : ℕ) : Type 0 where
  pub none : first_before es to ≡ None
  pub count : dropped ≡ min (length (cuts_before es to)) (2 ^ 32 - 1)
  pub given_are : given ≡ []

-- either of these
abbrev pub HasUnits : List ℕ → ℕ → List (ℕ × ℕ) → Option ℕ → ℕ → Type 0
HasUnits es to given None dropped = IsAhead es to given dropped
HasUnits es to given (Some begin) dropped = IsBegun es to given begin dropped

-- these units ended with start codes before the place, and this is known there
pub record IsCutUpTo (es : List ℕ) (to : ℕ) (given : List (ℕ × ℕ)) (state : CutState) : Type 0 where
  pub behind : state.behind_slice ≡ is_behind_slice es to
  pub has : HasUnits es to given state.begin state.dropped
