-- Motion vectors (ISO/IEC 13818-2, 6.2.5.2, 6.2.5.2.1 and 6.3.17.2).
use Rattle.std.specs.Prelude.{◌≡◌, ◌-◌, ◌≤◌, ◌==◌, ◌&&◌, ℕ, zero, suc, ℤ, pos, negsuc, unsigned_abs, not, Some, None, List, [], ◌∷◌, Bool, false, slice_index, if◌then◌else◌}
use Rattle.prefix_codes.specs.declared.table_name.TableName.TheVariants.{Motion}
use Rattle.syntax_types.specs.declared.macroblock.TheConstants.{FIELD_BASED, SIXTEEN_BY_EIGHT, DUAL_PRIME}
use Rattle.syntax_types.specs.declared.macroblock.Vector.{Vector}
use Rattle.picture_grammar.specs.Refusal.Refusal.{NoCode, End}
use Rattle.picture_grammar.specs.Grammar.{Grammar, done, ◌>>=◌, optional, when, repeated}
use Rattle.picture_grammar.specs.Element.{element, vlclbf, uimsbf, one_flag}
use Rattle.picture_grammar.specs.Block.{signed}

-- how many vectors stand, whether a field is selected for each, and whether they have dmvectors
pub record MotionFormat : Type 0 where
  pub count : ℕ
  pub select : Bool
  pub dual : Bool

-- in a frame picture, by frame_motion_type (Table 6-17)
abbrev pub frame_motion : ℕ → MotionFormat
frame_motion motion_type = record {
  count = if motion_type == FIELD_BASED then 2 else 1;
  select = motion_type == FIELD_BASED;
  dual = motion_type == DUAL_PRIME;
}

-- in a field picture, by field_motion_type (Table 6-18)
abbrev pub field_motion : ℕ → MotionFormat
field_motion motion_type = record {
  count = if motion_type == SIXTEEN_BY_EIGHT then 2 else 1;
  select = not (motion_type == DUAL_PRIME);
  dual = motion_type == DUAL_PRIME;
}

-- the codes of dmvector (Table B-11)
abbrev pub dmvector_code : ℤ → List ℕ
dmvector_code (pos zero) = 0 ∷ []
dmvector_code (pos (suc n)) = 1 ∷ 0 ∷ []
dmvector_code (negsuc n) = 1 ∷ 1 ∷ []

-- dmvector, -1, 0 or 1
abbrev pub dmvector : Grammar ℤ
dmvector = element (λ value code. (unsigned_abs value ≤ 1) × (code ≡ dmvector_code value)) End []

-- one part of a vector, horizontal or vertical
pub record Part : Type 0 where
  pub code : ℤ
  pub residual : ℕ
  pub difference : ℤ

-- motion_residual stands where the motion_code isn't 0 and the f_code isn't 1
abbrev pub has_residual : ℕ → ℕ → Bool
has_residual f_code size = not (f_code == 1) && not (size == 0)

-- motion_code by Table B-10 and its sign bit, motion_residual, then dmvector
abbrev pub vector_part : ℕ → Bool → Grammar Part
vector_part f_code dual = do
  size ← vlclbf Motion NoCode []
  negative ← when (not (size == 0)) one_flag false
  residual ← when (has_residual f_code size) (uimsbf (f_code - 1) []) 0
  difference ← when dual dmvector (pos 0)
  done (record { code = signed size negative; residual = residual; difference = difference })

-- motion_vertical_field_select, then motion_vector, with the f_codes of its direction
abbrev pub motion_vector : List ℕ → MotionFormat → Grammar Vector
motion_vector f_codes format = do
  select ← optional format.select one_flag
  horizontal ← vector_part (slice_index f_codes 0) format.dual
  vertical ← vector_part (slice_index f_codes 1) format.dual
  done (record {
    select = select;
    code = horizontal.code ∷ vertical.code ∷ [];
    residual = horizontal.residual ∷ vertical.residual ∷ [];
    dual = if format.dual then Some (horizontal.difference ∷ vertical.difference ∷ []) else None;
  })

-- motion_vectors(s)
abbrev pub motion_vectors : List ℕ → MotionFormat → Grammar (List Vector)
motion_vectors f_codes format = repeated format.count (motion_vector f_codes format)
