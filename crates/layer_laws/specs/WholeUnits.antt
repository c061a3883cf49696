-- Units that keep to themselves where they are joined (start codes by ISO/IEC 13818-2, 6.2.1).
use Rattle.std.specs.Prelude.{◌≡◌, ◌≢◌, ℕ, ◌+◌, ◌<◌, true, false, List, [], ◌∷◌, ◌++◌, length}
use Rattle.es_units.specs.StartCodes.{is_sequence_header, is_unit_start, has_code}
use Rattle.stream_constants.specs.SliceCodes.{is_slice}

-- A unit by its own bytes: a header with which a unit may begin stands first, a slice comes, and no such header behind its
-- first slice. It doesn't end with a start code prefix, to which the next unit's first byte would give a value.
pub record IsWholeUnit (unit : List ℕ) : Type 0 where
  pub begins : has_code is_unit_start unit 0 ≡ true
  pub slice : ℕ
  pub slice_is : has_code is_slice unit slice ≡ true
  pub first_slice : (at : ℕ) → at < slice → has_code is_slice unit at ≡ false
  pub no_header : (at : ℕ) → slice < at → has_code is_unit_start unit at ≡ false
  pub no_prefix : (front : List ℕ) → unit ≢ front ++ 0x00 ∷ 0x00 ∷ 0x01 ∷ []

-- there is a first unit, and it begins with a sequence header
abbrev pub IsLedBySequence : List (List ℕ) → Type 0
IsLedBySequence [] = ⊥
IsLedBySequence (unit ∷ units) = has_code is_sequence_header unit 0 ≡ true

-- from where to where each unit stands, one behind the other, the first one from this place on
abbrev pub placed_units : ℕ → List (List ℕ) → List (ℕ × ℕ)
placed_units from [] = []
placed_units from (unit ∷ units) = (from, from + length unit) ∷ placed_units (from + length unit) units
