-- Where start codes stand in a coded picture (ISO/IEC 13818-2, 6.2.1 and 6.2.4).
use Rattle.std.specs.Prelude.{◌≡◌, ℕ, ◌+◌, ◌==◌, Bool, ◌&&◌, List, [], ◌∷◌, ◌++◌, length, map, filter, slice_index, Option, Some, if◌then◌else◌}
use Rattle.syntax_types.specs.declared.picture.Picture.{Picture}
use Rattle.syntax_types.specs.declared.picture.SeqState.{SeqState}
use Rattle.stream_constants.specs.declared.start_codes.TheConstants.{FIRST_SLICE, SEQUENCE_END}
use Rattle.es_units.specs.Units.{places}
use Rattle.picture_grammar.specs.Picture.{SpellsPicture}

-- the three bytes 00 00 01 begin at the place
abbrev pub begins_code : List ℕ → ℕ → Bool
begins_code bytes at = (slice_index bytes at == 0) && ((slice_index bytes (at + 1) == 0) && (slice_index bytes (at + 2) == 1))

-- the byte behind each 00 00 01 from a place on, in order; 0 where none follows
abbrev pub codes_from : (bytes : List ℕ) → (from : ℕ) → List ℕ
codes_from bytes from = map (λ at. slice_index bytes (at + 3)) (filter (begins_code bytes) (places from (length bytes)))

-- The start codes that a picture has behind its headers, by their last bytes: one for each slice, which tells its row, and the sequence end code where it stands
-- (Table 6-1).
abbrev pub own_codes : Picture → List ℕ
own_codes picture = map (λ slice. slice.row + FIRST_SLICE) picture.slices ++ (if picture.sequence_end then SEQUENCE_END ∷ [] else [])

-- No start code begins inside a slice of a unit, which is read behind a state or behind none: the unit's bytes spell a picture, and behind its headers 00 00 01 stands
-- only where a start code of its own does, that of each slice once and in order, and the sequence end code. So none stands behind a slice's start code and before
-- the zero bits that close it.
pub record HasNoCodeInSlices (before : Option SeqState) (unit : List ℕ) : Type 0 where
  pub picture : Picture
  pub spelled : SpellsPicture before picture unit
  pub codes : codes_from unit (length picture.head) ≡ own_codes picture

-- of no unit of a video, each read behind the state that the one before leaves in force
abbrev pub HaveNoCodeInSlices : (before : Option SeqState) → (units : List (List ℕ)) → Type 0
HaveNoCodeInSlices before [] = Unit {0}
HaveNoCodeInSlices before (unit ∷ units) = (first : HasNoCodeInSlices before unit) × HaveNoCodeInSlices (Some first.picture.seq) units
